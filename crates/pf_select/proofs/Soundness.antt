-- What certifies a schedule proves it best.
use Rattle.std.proofs.Common.{◌≡◌, ℕ, zero, suc, ◌<◌, ◌≤◌, List, [], ◌∷◌, length, refl, Bool, true, false, not, arith, ap, sym, ◌∙◌, inl, inr}
use Rattle.std.specs.Prelude.{ℤ, ◌+ℤ◌, ◌-ℤ◌, ◌*ℤ◌, ◌≤ℤ◌, ◌<ℤ◌, pos}
use Rattle.std.proofs.lemmas.Int.{ints, by_lt_z}
use Rattle.std.proofs.lemmas.Bool.{cases_Bool, both_ways}
use Rattle.pf_model.specs.Fraction.{Fraction, IsParameter, IsBelow, IsAtMost}
use Rattle.pf_model.specs.Cut.{at_arc, has, IsContained}
use Rattle.pf_model.proofs.Integers.{mul_add, mul_comm, mul_most, mul_less, mul_most_inverse, scale_line, line_rises, line_falls, nonneg_inverse}
use Rattle.pf_model.proofs.Certificate.{line_between}
use Rattle.pf_model.proofs.Balance.{inside}
use Rattle.pf_select.specs.Problem.{SelectionProblem, IsSelectionProblem, product_at, part_at, is_gained, sum_of, gain_of, cost_of, worth, IsBest, IsGreatestBest, IsSmallestBest, zero_price, price_at, selection_at, IsBestSchedule}
use Rattle.pf_select.specs.Certificate.{charged_on, KeepsRules, CertifiesPrice, IsNeeded, charges_at, CertifiesSchedule}
use Rattle.pf_select.specs.Reduction.{whole_gain}
use Rattle.pf_select.proofs.Grouping.{listed, has_listed, sum_none}
use Rattle.pf_select.proofs.Worths.{gained_holds, missing, gained_all, lost, gains_split, worth_most, IsTightSelection, tight_is_best, best_is_tight}
use Rattle.pf_model.proofs.Facts.{first_step, later_step, not_false, not_true, some_step}

-- one price

module _ (p : SelectionProblem) (x : Fraction) (charges : List ℤ) (set : List Bool) (problem : IsSelectionProblem p) (full : length set ≡ length p.costs) (c : CertifiesPrice p x charges set) where
  chosen_off : (i : ℕ) → has set i ≡ true → has c.parts i ≡ false
  chosen_off i h =
      let low = inside set i h in
      not_true _ (sym (c.rest i (omega (arith, full, low))) ∙ h)

  dropped_from : (i : ℕ) → i < length p.costs → has set i ≡ false → has c.parts i ≡ true
  dropped_from i low off = elim (cases_Bool (has c.parts i)) [
    | inl held ↦ held
    | inr out ↦ absurd (both_ways _ off (c.rest i low ∙ not_false _ out))
  ]

  -- a product that the selection does not gain is dropped
  lost_dropped : (j : ℕ) → is_gained p.needs set j ≡ false → has c.products j ≡ true
  lost_dropped j e =
      let m = missing p.needs set j e in
      let P : ℕ → Type 0 = λ n. has c.products n ≡ true in
      let h = c.dropped.rules.needing m.need m.there (dropped_from (part_at p m.need) (problem.part m.need m.there) m.out) in
      rw m.product at h

  chosen_tight : IsTightSelection p x charges set
  chosen_tight = record {
    parts = λ i low h. by_lt_z (charged_on p charges i) (x.p *ℤ at_arc p.costs i)
        (λ less. absurd (both_ways _ (chosen_off i h) (c.dropped.rules.cheap i low less))) (λ fine. fine);
    products = λ j low e. let paid = c.paid j low (lost_dropped j e) in omega (arith, ints, paid);
    idle_needs = λ k low e h. by_lt_z (pos 0) (at_arc charges k)
        (λ more. absurd (both_ways _ (chosen_off (part_at p k) h) (c.dropped.rules.charging k low (lost_dropped (product_at p k) e) more)))
        (λ fine. fine);
  }

  pub chosen_best : IsBest p x set
  chosen_best = record {
    full = full;
    most = λ other other_full.
        let a = worth_most p x charges other problem c.charges_are in
        let b = tight_is_best p x charges set problem c.charges_are chosen_tight in
        omega (arith, ints, a, b);
  }

  -- the parts outside a best selection, and the products that it does not gain, keep the rules
  outside_keeps : (other : List Bool) → IsTightSelection p x charges other →
      KeepsRules p x charges (listed (λ i. not (has other i)) (length p.costs)) (listed (lost p other) (length p.gains))
  outside_keeps other t = record {
    cheap = λ i low less.
        has_listed (λ i. not (has other i)) (length p.costs) i low ∙ elim (cases_Bool (has other i)) [
          | inl held ↦ absurd (let h = t.parts i low held in omega (arith, ints, h, less))
          | inr out ↦ not_false _ out
        ];
    needing = λ k low h.
        let off = not_true _ (sym (has_listed (λ i. not (has other i)) (length p.costs) (part_at p k) (problem.part k low)) ∙ h) in
        has_listed (lost p other) (length p.gains) (product_at p k) (problem.product k low) ∙ elim (cases_Bool (is_gained p.needs other (product_at p k))) [
          | inl gained ↦ absurd (both_ways _ off (gained_holds p.needs other (product_at p k) gained k low refl))
          | inr e ↦ not_false _ e
        ];
    charging = λ k low h more.
        let e = not_true _ (sym (has_listed (lost p other) (length p.gains) (product_at p k) (problem.product k low)) ∙ h) in
        has_listed (λ i. not (has other i)) (length p.costs) (part_at p k) (problem.part k low) ∙ elim (cases_Bool (has other (part_at p k))) [
          | inl held ↦ absurd (let h = t.idle_needs k low e held in omega (arith, ints, h, more))
          | inr out ↦ not_false _ out
        ];
  }

  pub chosen_greatest : (other : List Bool) → IsBest p x other → IsContained other set
  chosen_greatest other best i h =
      let low = inside other i h in
      let small : i < length p.costs = let e = best.full in omega (arith, e, low) in
      let most = best.most set full in
      let a = tight_is_best p x charges set problem c.charges_are chosen_tight in
      let t = best_is_tight p x charges other problem c.charges_are (omega (arith, ints, most, a)) in
      c.rest i small ∙ elim (cases_Bool (has c.parts i)) [
        | inl held ↦ absurd
            (let e = c.dropped.least_parts _ _ (outside_keeps other t) i held in
            both_ways _ (not_true _ (sym (has_listed (λ i. not (has other i)) (length p.costs) i small) ∙ e)) h)
        | inr out ↦ not_false _ out
      ]

-- between two prices

-- how much more a selection is worth than another one: a line over the price
abbrev short_a : SelectionProblem → List Bool → List Bool → ℤ
short_a p set other = gain_of p set -ℤ gain_of p other

abbrev short_b : SelectionProblem → List Bool → List Bool → ℤ
short_b p set other = cost_of p other -ℤ cost_of p set

line_step : (q p a b a' b' : ℤ) → ((a -ℤ a') *ℤ q) +ℤ ((b' -ℤ b) *ℤ p) ≡ ((q *ℤ a) -ℤ (p *ℤ b)) -ℤ ((q *ℤ a') -ℤ (p *ℤ b'))
line_step q p a b a' b' =
    let gap_a : a ≡ a' +ℤ (a -ℤ a') = omega (arith, ints) in
    let gap_b : b' ≡ b +ℤ (b' -ℤ b) = omega (arith, ints) in
    let e = ap (λ n. q *ℤ n) gap_a ∙ mul_add q a' (a -ℤ a') in
    let f = ap (λ n. p *ℤ n) gap_b ∙ mul_add p b (b' -ℤ b) in
    omega (arith, ints, e, f, mul_comm (a -ℤ a') q, mul_comm (b' -ℤ b) p)

short_is : (p : SelectionProblem) (x : Fraction) (set other : List Bool) →
    (short_a p set other *ℤ x.q) +ℤ (short_b p set other *ℤ x.p) ≡ worth p x set -ℤ worth p x other
short_is p x set other = line_step x.q x.p (gain_of p set) (cost_of p set) (gain_of p other) (cost_of p other)

-- a line that rises is greater at a greater parameter
line_climbs : (a b p q p' q' : ℤ) → pos 0 <ℤ b → (p *ℤ q') <ℤ (p' *ℤ q) → (q' *ℤ ((a *ℤ q) +ℤ (b *ℤ p))) <ℤ (q *ℤ ((a *ℤ q') +ℤ (b *ℤ p')))
line_climbs a b p q p' q' climb order =
    let e = scale_line q' a q b p in
    let f = scale_line q a q' b p' in
    let same = ap (λ n. a *ℤ n) (mul_comm q q') in
    let more = mul_less b (p *ℤ q') (p' *ℤ q) climb order in
    omega (arith, ints, e, f, same, more)

no_climb : (a b : ℤ) (low x : Fraction) → IsParameter low → IsParameter x → IsBelow low x →
    pos 0 ≤ℤ ((a *ℤ low.q) +ℤ (b *ℤ low.p)) → ((a *ℤ x.q) +ℤ (b *ℤ x.p)) ≤ℤ pos 0 → b ≤ℤ pos 0
no_climb a b low x pl px h at_low at_x =
    by_lt_z (pos 0) b
    (λ climb. absurd (
    let e = line_climbs a b low.p low.q x.p x.q climb h in
    let f = mul_most x.q (pos 0) _ (omega (arith, ints, px)) at_low in
    let g = mul_most low.q _ (pos 0) (omega (arith, ints, pl)) at_x in
    let none : (k : ℤ) → k *ℤ pos 0 ≡ pos 0 = λ k. omega (arith, ints) in
    omega (arith, ints, e, f, g, none x.q, none low.q)))
    (λ fine. fine)

-- a line that is not below 0 at a parameter and not above 0 at a greater one is not above 0 after that
line_stays_low : (a b : ℤ) (low x high : Fraction) → IsParameter low → IsParameter x → IsParameter high → IsBelow low x → IsAtMost x high →
    pos 0 ≤ℤ ((a *ℤ low.q) +ℤ (b *ℤ low.p)) → ((a *ℤ x.q) +ℤ (b *ℤ x.p)) ≤ℤ pos 0 → ((a *ℤ high.q) +ℤ (b *ℤ high.p)) ≤ℤ pos 0
line_stays_low a b low x high pl px ph h k at_low at_x =
    let falls = no_climb a b low x pl px h at_low at_x in
    let e = line_falls a b x.p x.q high.p high.q px ph falls k in
    let f = mul_most high.q _ (pos 0) (omega (arith, ints, ph)) at_x in
    let none : (n : ℤ) → n *ℤ pos 0 ≡ pos 0 = λ n. omega (arith, ints) in
    mul_most_inverse x.q ((a *ℤ high.q) +ℤ (b *ℤ high.p)) (pos 0) (omega (arith, ints, px)) (omega (arith, ints, e, f, none high.q, none x.q))

-- best at both ends, and the greatest at the upper one
pub greatest_between : (p : SelectionProblem) (low x high : Fraction) (set : List Bool) → IsParameter low → IsParameter x → IsParameter high →
    IsBelow low x → IsAtMost x high → IsBest p low set → IsGreatestBest p high set → IsGreatestBest p x set
greatest_between p low x high set pl px ph h k at_low at_high = record {
  best = record {
    full = at_low.full;
    most = λ other full.
        let a = at_low.most other full in
        let b = at_high.best.most other full in
        let e = line_between (short_a p set other) (short_b p set other) low x high pl px ph (omega (arith, ints, h)) k
        (omega (arith, ints, a, short_is p low set other)) (omega (arith, ints, b, short_is p high set other)) in
        omega (arith, ints, e, short_is p x set other);
  };
  greatest = λ other best.
      let full = best.full in
      let a = at_low.most other full in
      let b = best.most set at_low.full in
      let e = line_stays_low (short_a p set other) (short_b p set other) low x high pl px ph h k
      (omega (arith, ints, a, short_is p low set other)) (omega (arith, ints, b, short_is p x set other)) in
      at_high.greatest other (record {
        full = full;
        most = λ third third_full. let d = at_high.best.most third third_full in omega (arith, ints, d, e, short_is p high set other);
      });
}

-- sums of numbers above 0

pub sum_low : (test : ℕ → Bool) (xs : List ℤ) → ((i : ℕ) → i < length xs → pos 1 ≤ℤ at_arc xs i) → pos 0 ≤ℤ sum_of test xs
sum_low test [] h = omega (arith, ints)
sum_low test (x ∷ xs) h =
    some_step (test 0) x _ (h 0 (omega arith)) (sum_low (λ i. test (suc i)) xs (λ i low. h (suc i) (omega (arith, low))))

pub sum_some : (test : ℕ → Bool) (xs : List ℤ) (i : ℕ) → ((i : ℕ) → i < length xs → pos 1 ≤ℤ at_arc xs i) → i < length xs → test i ≡ true →
    pos 1 ≤ℤ sum_of test xs
sum_some test [] i h low e = absurd (omega (arith, low))
sum_some test (x ∷ xs) zero h low e =
    first_step (test 0) x _ e (h 0 (omega arith)) (sum_low (λ j. test (suc j)) xs (λ j less. h (suc j) (omega (arith, less))))
sum_some test (x ∷ xs) (suc i) h low e =
    later_step (test 0) x _ (h 0 (omega arith))
    (sum_some (λ j. test (suc j)) xs i (λ j less. h (suc j) (omega (arith, less))) (omega (arith, low)) e)

-- the price 0

gained_none : (p : SelectionProblem) (set : List Bool) → IsSelectionProblem p → ((i : ℕ) → IsNeeded p i → has set i ≡ true) →
    (j : ℕ) → is_gained p.needs set j ≡ true
gained_none p set problem h j = gained_all p.needs set j (λ k low same. h (part_at p k) (record { need = k; there = low; part = refl }))

all_gained : (p : SelectionProblem) (set : List Bool) → ((j : ℕ) → is_gained p.needs set j ≡ true) → gain_of p set ≡ whole_gain p
all_gained p set h =
    let e = sum_none (lost p set) p.gains (λ j low. rw (h j) refl) in
    omega (arith, ints, e, gains_split (is_gained p.needs set) p.gains)

free_worth : (p : SelectionProblem) (set : List Bool) → worth p zero_price set ≡ gain_of p set
free_worth p set = omega (arith, ints)

pub gain_most : (p : SelectionProblem) (set : List Bool) → IsSelectionProblem p → gain_of p set ≤ℤ whole_gain p
gain_most p set problem =
    omega (arith, ints, gains_split (is_gained p.needs set) p.gains, sum_low (lost p set) p.gains problem.gainful)

pub free_best : (p : SelectionProblem) (set : List Bool) → IsSelectionProblem p → length set ≡ length p.costs →
    ((i : ℕ) → IsNeeded p i → has set i ≡ true) → IsBest p zero_price set
free_best p set problem full h = record {
  full = full;
  most = λ other other_full.
      omega (arith, ints, free_worth p set, free_worth p other, gain_most p other problem, all_gained p set (gained_none p set problem h));
}

-- a best selection at the price 0 gains each product
free_gains : (p : SelectionProblem) (other : List Bool) → IsSelectionProblem p → whole_gain p ≤ℤ gain_of p other →
    (j : ℕ) → j < length p.gains → is_gained p.needs other j ≡ true
free_gains p other problem most j low = elim (cases_Bool (is_gained p.needs other j)) [
  | inl e ↦ e
  | inr e ↦ absurd
      (let more = sum_some (lost p other) p.gains j problem.gainful low (not_false _ e) in
      omega (arith, ints, more, most, gains_split (is_gained p.needs other) p.gains))
]

pub free_smallest : (p : SelectionProblem) (set : List Bool) → IsSelectionProblem p → length set ≡ length p.costs →
    ((i : ℕ) → IsNeeded p i → has set i ≡ true) → ((i : ℕ) → i < length p.costs → has set i ≡ true → IsNeeded p i) → IsSmallestBest p zero_price set
free_smallest p set problem full h back = record {
  best = free_best p set problem full h;
  smallest = λ other best i held.
      let low = inside set i held in
      let need = back i (omega (arith, full, low)) held in
      let most = best.most set full in
      let gained = free_gains p other problem
      (omega (arith, ints, most, free_worth p set, free_worth p other, all_gained p set (gained_none p set problem h)))
      (product_at p need.need) (problem.product need.need need.there) in
      rw need.part at (gained_holds p.needs other (product_at p need.need) gained need.need need.there refl);
}

-- after the last price

pub greatest_behind : (p : SelectionProblem) (low x : Fraction) (set : List Bool) → IsSelectionProblem p → IsParameter low → IsParameter x → IsBelow low x →
    ((i : ℕ) → i < length p.costs → has set i ≡ false) → IsBest p low set → IsGreatestBest p x set
greatest_behind p low x set problem pl px h none best =
    let free = sum_none (has set) p.costs none in
    record {
      best = record {
        full = best.full;
        most = λ other full.
            let a = best.most other full in
            let more = sum_low (has other) p.costs problem.costly in
            let e = line_rises (short_a p set other) (short_b p set other) low.p low.q x.p x.q pl px (omega (arith, ints, more, free)) (omega (arith, ints, h)) in
            let f = mul_most x.q (pos 0) ((short_a p set other *ℤ low.q) +ℤ (short_b p set other *ℤ low.p)) (omega (arith, ints, px))
            (omega (arith, ints, a, short_is p low set other)) in
            let nothing : x.q *ℤ pos 0 ≡ pos 0 = omega (arith, ints) in
            let g = nonneg_inverse low.q ((short_a p set other *ℤ x.q) +ℤ (short_b p set other *ℤ x.p)) pl (omega (arith, ints, e, f, nothing)) in
            omega (arith, ints, g, short_is p x set other);
      };
      greatest = λ other top i held.
          let inner = inside other i held in
          let a = best.most other top.full in
          let b = top.most set best.full in
          let small : i < length p.costs = let e = top.full in omega (arith, e, inner) in
          let most = no_climb (short_a p set other) (short_b p set other) low x pl px h
          (omega (arith, ints, a, short_is p low set other)) (omega (arith, ints, b, short_is p x set other)) in
          absurd (let some = sum_some (has other) p.costs i problem.costly small held in omega (arith, ints, most, free, some));
    }

-- all prices

module _ (p : SelectionProblem) (prices : List Fraction) (selections : List (List Bool)) (charges : List (List ℤ)) (problem : IsSelectionProblem p) (c : CertifiesSchedule p prices selections charges) where
  price_is_parameter : (j : ℕ) → j ≤ length prices → IsParameter (price_at prices j)
  price_is_parameter zero low = omega (arith, ints)
  price_is_parameter (suc j) low = c.parameters j (omega (arith, low))

  best_at_own : (j : ℕ) → j ≤ length prices → IsBest p (price_at prices j) (selection_at selections j)
  best_at_own zero low = free_best p (selection_at selections 0) problem (c.full 0 (omega arith)) c.needed_first
  best_at_own (suc j) low =
      let here = c.each j (omega (arith, low)) in
      let best = chosen_best p (price_at prices (suc j)) (charges_at charges j) (selection_at selections j) problem (c.full j (omega (arith, low))) here in
      let e = c.equal j (omega (arith, low)) in
      record {
        full = c.full (suc j) (omega (arith, low));
        most = λ other full. let most = best.most other full in omega (arith, ints, most, e);
      }

  greatest_at_next : (j : ℕ) → j < length prices → IsGreatestBest p (price_at prices (suc j)) (selection_at selections j)
  greatest_at_next j low =
      let here = c.each j low in
      let full = c.full j (omega (arith, low)) in
      record {
        best = chosen_best p (price_at prices (suc j)) (charges_at charges j) (selection_at selections j) problem full here;
        greatest = chosen_greatest p (price_at prices (suc j)) (charges_at charges j) (selection_at selections j) problem full here;
      }

  pub certificate_proves : IsBestSchedule p prices selections
  certificate_proves = record {
    count = c.count;
    parameters = c.parameters;
    rise = c.rise;
    fall = c.fall;
    before = λ j low x px above most. greatest_between p (price_at prices j) x (price_at prices (suc j)) (selection_at selections j)
        (price_is_parameter j (omega (arith, low))) px (c.parameters j low) above most (best_at_own j (omega (arith, low))) (greatest_at_next j low);
    behind = λ x px above. greatest_behind p (price_at prices (length prices)) x (selection_at selections (length prices)) problem
        (price_is_parameter (length prices) (omega arith)) px above c.last_empty (best_at_own (length prices) (omega arith));
    free = free_smallest p (selection_at selections 0) problem (c.full 0 (omega arith)) c.needed_first c.first_needed;
  }
