-- At most one schedule is best.
use Rattle.std.proofs.Common.{◌≡◌, ℕ, zero, suc, ◌<◌, ◌≤◌, List, [], ◌∷◌, length, refl, Bool, arith, sym, ◌∙◌, inl, inr, subst}
use Rattle.std.specs.Prelude.{◌+ℤ◌, ◌*ℤ◌, pos}
use Rattle.std.proofs.lemmas.Int.{ints}
use Rattle.std.proofs.lemmas.Bool.{cases_lt}
use Rattle.pf_model.specs.Fraction.{Fraction, IsParameter, IsBelow, IsAtMost}
use Rattle.pf_model.proofs.Integers.{add_mul, mul_less}
use Rattle.pf_model.proofs.Certificate.{at_most_reflexive, at_most_trans}
use Rattle.pf_model.proofs.Unique.{same_sides, below_or_at_most, below_then_at_most, at_most_then_below}
use Rattle.pf_model.proofs.Lowest.{same_fraction}
use Rattle.pf_select.specs.Problem.{SelectionProblem, IsGreatestBest, price_at, selection_at, IsBestSchedule}
use Rattle.pf_select.specs.Laws.{IsSameSchedule, AreLowest}

pub greatest_is_one : (p : SelectionProblem) (x : Fraction) (set other : List Bool) → IsGreatestBest p x set → IsGreatestBest p x other → set ≡ other
greatest_is_one p x set other a b =
    same_sides set other (a.best.full ∙ sym b.best.full) (b.greatest set a.best) (a.greatest other b.best)

-- one more than a price is above it
abbrev one_above : Fraction → Fraction
one_above x = record { p = x.p +ℤ x.q; q = x.q }

above_it : (x : Fraction) → IsParameter x → IsBelow x (one_above x)
above_it x px =
    let e = add_mul x.p x.q x.q in
    let more = mul_less x.q (pos 0) x.q (omega (arith, ints, px)) (omega (arith, ints, px)) in
    let none : x.q *ℤ pos 0 ≡ pos 0 = omega (arith, ints) in
    omega (arith, ints, e, more, none)

-- the price at j + 1 where there is one: what lies up to it lies before its selection ends
abbrev IsBefore : List Fraction → ℕ → Fraction → Type 0
IsBefore prices j x = j < length prices → IsAtMost x (price_at prices (suc j))

price_is_parameter : (p : SelectionProblem) (prices : List Fraction) (selections : List (List Bool)) → IsBestSchedule p prices selections →
    (j : ℕ) → j ≤ length prices → IsParameter (price_at prices j)
price_is_parameter p prices selections b zero low = omega (arith, ints)
price_is_parameter p prices selections b (suc j) low = b.parameters j (omega (arith, low))

-- selection j is the greatest best one above price j, up to the next price where there is one
greatest_here : (p : SelectionProblem) (prices : List Fraction) (selections : List (List Bool)) → IsBestSchedule p prices selections →
    (j : ℕ) → j ≤ length prices → (x : Fraction) → IsParameter x → IsBelow (price_at prices j) x → IsBefore prices j x →
    IsGreatestBest p x (selection_at selections j)
greatest_here p prices selections b j low x px above before = elim (cases_lt j (length prices)) [
  | inl less ↦ b.before j less x px above (before less)
  | inr most ↦
      let e : length prices ≡ j = omega (arith, low, most) in
      let P : ℕ → Type 0 = λ n. IsBelow (price_at prices n) x → IsGreatestBest p x (selection_at selections n) in
      subst P e (b.behind x px) above
]

-- a price above x, up to the next prices of two lists where there are such, which are above x
record IsNext (prices prices' : List Fraction) (i j : ℕ) (x y : Fraction) : Type 0 where
  pub parameter : IsParameter y
  pub above : IsBelow x y
  pub first : IsBefore prices i y
  pub second : IsBefore prices' j y

abbrev IsAbove : List Fraction → ℕ → Fraction → Type 0
IsAbove prices j x = j < length prices → IsBelow x (price_at prices (suc j))

next_of_one : (p : SelectionProblem) (prices : List Fraction) (selections : List (List Bool)) → IsBestSchedule p prices selections → (j : ℕ) (x : Fraction) →
    IsParameter x → IsAbove prices j x → (y : Fraction) × (IsParameter y × IsBelow x y × IsBefore prices j y)
next_of_one p prices selections b j x px above = elim (cases_lt j (length prices)) [
  | inl less ↦ (price_at prices (suc j), (b.parameters j less, above less, λ low. at_most_reflexive (price_at prices (suc j))))
  | inr most ↦ (one_above x, (px, above_it x px, λ low. absurd (omega (arith, low, most))))
]

next_of_both : (p : SelectionProblem) (prices prices' : List Fraction) (selections selections' : List (List Bool)) → IsBestSchedule p prices selections →
    IsBestSchedule p prices' selections' → (i j : ℕ) (x : Fraction) → IsParameter x → IsAbove prices i x → IsAbove prices' j x →
    (y : Fraction) × IsNext prices prices' i j x y
next_of_both p prices prices' selections selections' b b' i j x px above above' =
    let m = next_of_one p prices selections b i x px above in
    let n = next_of_one p prices' selections' b' j x px above' in
    elim (below_or_at_most m.0 n.0) [
      | inl less ↦ (
        m.0,
        record {
          parameter = m.1.0;
          above = m.1.1;
          first = m.1.2;
          second = λ low. at_most_trans m.0 n.0 (price_at prices' (suc j)) m.1.0 n.1.0 (b'.parameters j low) (omega (arith, ints, less)) (n.1.2 low);
        },
      )
      | inr most ↦ (
        n.0,
        record {
          parameter = n.1.0;
          above = n.1.1;
          first = λ low. at_most_trans n.0 m.0 (price_at prices (suc i)) n.1.0 m.1.0 (b.parameters i low) most (m.1.2 low);
          second = n.1.2;
        },
      )
    ]

-- a schedule cannot change before the other one does
changes_later : (p : SelectionProblem) (prices prices' : List Fraction) (selections selections' : List (List Bool)) → IsBestSchedule p prices selections →
    IsBestSchedule p prices' selections' → (j : ℕ) → j < length prices → j ≤ length prices' → IsAtMost (price_at prices' j) (price_at prices j) →
    IsAbove prices' j (price_at prices (suc j)) → ⊥
changes_later p prices prices' selections selections' b b' j low low' start later =
    let x = price_at prices (suc j) in
    let px = b.parameters j low in
    let from = price_is_parameter p prices selections b j (omega (arith, low)) in
    let from' = price_is_parameter p prices' selections' b' j low' in
    let rise = b.rise j low in
    let start_x = at_most_then_below (price_at prices' j) (price_at prices j) x from' from px start rise in
    let one = greatest_is_one p x (selection_at selections j) (selection_at selections' j)
    (b.before j low x px rise (at_most_reflexive x))
    (greatest_here p prices' selections' b' j low' x px start_x (λ less. let h = later less in omega (arith, ints, h))) in
    let next = next_of_both p prices prices' selections selections' b b' (suc j) j x px (λ less. b.rise (suc j) less) later in
    let y = next.0 in
    let n = next.1 in
    let up : IsAtMost x y = let h = n.above in omega (arith, ints, h) in
    let start_y = below_then_at_most (price_at prices' j) x y from' px n.parameter start_x up in
    let two = greatest_is_one p y (selection_at selections (suc j)) (selection_at selections' j)
    (greatest_here p prices selections b (suc j) (omega (arith, low)) y n.parameter n.above n.first)
    (greatest_here p prices' selections' b' j low' y n.parameter start_y n.second) in
    (b.fall j low).different (two ∙ sym one)

-- so both have equal prices as far as both have prices
record IsSamePrice (prices prices' : List Fraction) (j : ℕ) : Type 0 where
  pub to : IsAtMost (price_at prices j) (price_at prices' j)
  pub back : IsAtMost (price_at prices' j) (price_at prices j)

same_price : (p : SelectionProblem) (prices prices' : List Fraction) (selections selections' : List (List Bool)) → IsBestSchedule p prices selections →
    IsBestSchedule p prices' selections' → (j : ℕ) → j ≤ length prices → j ≤ length prices' → IsSamePrice prices prices' j
same_price p prices prices' selections selections' b b' zero low low' = record { to = omega (arith, ints); back = omega (arith, ints) }
same_price p prices prices' selections selections' b b' (suc j) low low' =
    let before = same_price p prices prices' selections selections' b b' j (omega (arith, low)) (omega (arith, low')) in
    record {
      to = elim (below_or_at_most (price_at prices' (suc j)) (price_at prices (suc j))) [
        | inl less ↦ absurd (changes_later p prices' prices selections' selections b' b j (omega (arith, low')) (omega (arith, low)) before.to (λ h. less))
        | inr most ↦ most
      ];
      back = elim (below_or_at_most (price_at prices (suc j)) (price_at prices' (suc j))) [
        | inl less ↦ absurd (changes_later p prices prices' selections selections' b b' j (omega (arith, low)) (omega (arith, low')) before.back (λ h. less))
        | inr most ↦ most
      ];
    }

no_longer : (p : SelectionProblem) (prices prices' : List Fraction) (selections selections' : List (List Bool)) → IsBestSchedule p prices selections →
    IsBestSchedule p prices' selections' → length prices < length prices' → ⊥
no_longer p prices prices' selections selections' b b' less =
    let k = length prices in
    let same = same_price p prices prices' selections selections' b b' k (omega arith) (omega (arith, less)) in
    changes_later p prices' prices selections' selections b' b k less (omega arith) same.to (λ h. absurd (omega (arith, h)))

same_count : (p : SelectionProblem) (prices prices' : List Fraction) (selections selections' : List (List Bool)) → IsBestSchedule p prices selections →
    IsBestSchedule p prices' selections' → length prices ≡ length prices'
same_count p prices prices' selections selections' b b' =
    let no_less = no_longer p prices prices' selections selections' b b' in
    let no_more = no_longer p prices' prices selections' selections b' b in
    elim (cases_lt (length prices) (length prices')) [
      | inl less ↦ absurd (no_less less)
      | inr most ↦ elim (cases_lt (length prices') (length prices)) [ inl more ↦ absurd (no_more more) | inr least ↦ omega (arith, most, least) ]
    ]

-- and equal selections
same_selection : (p : SelectionProblem) (prices prices' : List Fraction) (selections selections' : List (List Bool)) → IsBestSchedule p prices selections →
    IsBestSchedule p prices' selections' → (j : ℕ) → j ≤ length prices → selection_at selections j ≡ selection_at selections' j
same_selection p prices prices' selections selections' b b' j low =
    let count = same_count p prices prices' selections selections' b b' in
    let low' : j ≤ length prices' = omega (arith, count, low) in
    let same = same_price p prices prices' selections selections' b b' j low low' in
    let px = price_is_parameter p prices selections b j low in
    let px' = price_is_parameter p prices' selections' b' j low' in
    let next = next_of_both p prices prices' selections selections' b b' j j (price_at prices j) px (λ less. b.rise j less)
    (λ less. at_most_then_below (price_at prices j) (price_at prices' j) (price_at prices' (suc j)) px px' (b'.parameters j less) same.to (b'.rise j less)) in
    let n = next.1 in
    let above' = at_most_then_below (price_at prices' j) (price_at prices j) next.0 px' px n.parameter same.back n.above in
    greatest_is_one p next.0 (selection_at selections j) (selection_at selections' j)
    (greatest_here p prices selections b j low next.0 n.parameter n.above n.first)
    (greatest_here p prices' selections' b' j low' next.0 n.parameter above' n.second)

same_list : (xs ys : List (List Bool)) → length xs ≡ length ys → ((j : ℕ) → j < length xs → selection_at xs j ≡ selection_at ys j) → xs ≡ ys
same_list [] [] e h = refl
same_list [] (y ∷ ys) e h = absurd (omega arith)
same_list (x ∷ xs) [] e h = absurd (omega arith)
same_list (x ∷ xs) (y ∷ ys) e h =
    let first : x ≡ y = h 0 (omega arith) in
    let rest = same_list xs ys (omega arith) (λ j low. h (suc j) (omega (arith, low))) in
    rw (first, rest) refl

pub one_best : (p : SelectionProblem) (prices prices' : List Fraction) (selections selections' : List (List Bool)) → IsBestSchedule p prices selections →
    IsBestSchedule p prices' selections' → IsSameSchedule prices prices' selections selections'
one_best p prices prices' selections selections' b b' =
    let count = same_count p prices prices' selections selections' b b' in
    let many = b.count in
    let many' = b'.count in
    record {
      same = same_list selections selections' (omega (arith, count, many, many'))
          (λ j low. same_selection p prices prices' selections selections' b b' j (omega (arith, many, low)));
      count = count;
      equal = λ j low.
          let s = same_price p prices prices' selections selections' b b' j low (omega (arith, count, low)) in
          let to = s.to in
          let back = s.back in
          omega (arith, ints, to, back);
    }

same_prices : (xs ys : List Fraction) → length xs ≡ length ys → ((j : ℕ) → j < length xs → price_at xs (suc j) ≡ price_at ys (suc j)) → xs ≡ ys
same_prices [] [] e h = refl
same_prices [] (y ∷ ys) e h = absurd (omega arith)
same_prices (x ∷ xs) [] e h = absurd (omega arith)
same_prices (x ∷ xs) (y ∷ ys) e h =
    let first : x ≡ y = h 0 (omega arith) in
    let rest = same_prices xs ys (omega arith) (λ j low. h (suc j) (omega (arith, low))) in
    rw (first, rest) refl

pub one_lowest : (p : SelectionProblem) (prices prices' : List Fraction) (selections selections' : List (List Bool)) → IsBestSchedule p prices selections →
    IsBestSchedule p prices' selections' → AreLowest prices → AreLowest prices' → prices ≡ prices'
one_lowest p prices prices' selections selections' b b' l l' =
    let s = one_best p prices prices' selections selections' b b' in
    let count = s.count in
    same_prices prices prices' count
    (λ j low. same_fraction (price_at prices (suc j)) (price_at prices' (suc j)) (b.parameters j low) (b'.parameters j (omega (arith, count, low)))
    (l.each j low) (l'.each j (omega (arith, count, low))) (s.equal (suc j) (omega (arith, low))))
