-- At most one list of layers is right, where at most one set is the next.
use Rattle.std.proofs.Common.{◌≡◌, ℕ, zero, suc, ◌<◌, ◌≤◌, List, [], ◌∷◌, length, refl, Bool, true, arith, ap, sym, ◌∙◌, inl, inr, subst}
use Rattle.std.specs.Prelude.{ℤ, pos, int_lt}
use Rattle.std.proofs.lemmas.Int.{ints}
use Rattle.std.proofs.lemmas.Bool.{both_ways, cases_lt}
use Rattle.pf_model.specs.Fraction.{Fraction, IsParameter, IsEqual}
use Rattle.pf_model.specs.Cut.{has, at_arc, union}
use Rattle.pf_model.proofs.Balance.{inside}
use Rattle.pf_model.proofs.Lowest.{same_fraction}
use Rattle.pf_layers.specs.Layers.{before, layer, level_at, IsApart, AreLayers}
use Rattle.pf_layers.specs.Laws.{AreSameLayers, AreLowest}
use Rattle.pf_layers.proofs.NumberingLemmas.{layer_length, has_map, before_more, layer_apart, before_first, same_numbers, less_true}

-- two sets that are next where the same elements are taken
pub record IsSameNext (x y : Fraction) (set other : List Bool) : Type 0 where
  pub equal : IsEqual x y
  pub same : set ≡ other

pub record IsSome (set : List Bool) : Type 0 where
  pub element : ℕ
  pub held : has set element ≡ true

-- at most one set is the next, at one level, and it holds something
pub record HasOneNext (n : ℕ) (IsNext : List Bool → Fraction → List Bool → Type 0) : Type 0 where
  pub one : (taken : List Bool) (x y : Fraction) (set other : List Bool) → IsParameter x → IsParameter y → IsApart taken set → IsApart taken other → IsNext taken x set →
      IsNext taken y other → IsSameNext x y set other
  pub some : (taken : List Bool) (x : Fraction) (set : List Bool) → IsNext taken x set → IsSome set

same_next : (n : ℕ) (IsNext : List Bool → Fraction → List Bool → Type 0) (levels levels' : List Fraction) (layers layers' : List ℤ) → HasOneNext n IsNext →
    AreLayers n IsNext levels layers → AreLayers n IsNext levels' layers' → (j : ℕ) → j < length levels → j < length levels' →
    before layers (suc j) ≡ before layers' (suc j) →
    IsSameNext (level_at levels j) (level_at levels' j) (layer layers (suc j)) (layer layers' (suc j))
same_next n IsNext levels levels' layers layers' o a b j low low' same =
    let there : IsNext (before layers (suc j)) (level_at levels' j) (layer layers' (suc j)) =
    subst (λ taken. IsNext taken (level_at levels' j) (layer layers' (suc j))) (sym same) (b.next j low') in
    let apart : IsApart (before layers (suc j)) (layer layers' (suc j)) =
    subst (λ taken. IsApart taken (layer layers' (suc j))) (sym same) (layer_apart layers' (suc j)) in
    o.one (before layers (suc j)) (level_at levels j) (level_at levels' j) (layer layers (suc j)) (layer layers' (suc j)) (a.parameters j low) (b.parameters j low')
    (layer_apart layers (suc j)) apart (a.next j low) there

same_before : (n : ℕ) (IsNext : List Bool → Fraction → List Bool → Type 0) (levels levels' : List Fraction) (layers layers' : List ℤ) → HasOneNext n IsNext →
    AreLayers n IsNext levels layers → AreLayers n IsNext levels' layers' → (j : ℕ) → j ≤ length levels → j ≤ length levels' → before layers (suc j) ≡ before layers' (suc j)
same_before n IsNext levels levels' layers layers' o a b zero low low' = before_first layers layers' n a.full b.full a.low b.low
same_before n IsNext levels levels' layers layers' o a b (suc j) low low' =
    let same = same_before n IsNext levels levels' layers layers' o a b j (omega (arith, low)) (omega (arith, low')) in
    let next = same_next n IsNext levels levels' layers layers' o a b j (omega (arith, low)) (omega (arith, low')) same in
    before_more layers (suc j) ∙ ap (λ taken. union taken (layer layers (suc j))) same ∙ ap (λ set. union (before layers' (suc j)) set) next.same ∙ sym (before_more layers' (suc j))

-- after the last layer of the one list nothing is left for the other
all_before : (n : ℕ) (IsNext : List Bool → Fraction → List Bool → Type 0) (levels : List Fraction) (layers : List ℤ) → AreLayers n IsNext levels layers →
    (v : ℕ) → v < n → has (before layers (suc (length levels))) v ≡ true
all_before n IsNext levels layers a v low =
    let high = a.high v low in
    let full = a.full in
    has_map (λ number. int_lt number (pos (suc (length levels)))) layers v (omega (arith, low, full))
    ∙ less_true (at_arc layers v) (pos (suc (length levels))) (omega (arith, ints, high))

no_longer : (n : ℕ) (IsNext : List Bool → Fraction → List Bool → Type 0) (levels levels' : List Fraction) (layers layers' : List ℤ) → HasOneNext n IsNext →
    AreLayers n IsNext levels layers → AreLayers n IsNext levels' layers' → length levels < length levels' → ⊥
no_longer n IsNext levels levels' layers layers' o a b less =
    let k = length levels in
    let same = same_before n IsNext levels levels' layers layers' o a b k (omega arith) (omega (arith, less)) in
    let s = o.some (before layers' (suc k)) (level_at levels' k) (layer layers' (suc k)) (b.next k less) in
    let v = s.element in
    let low : v < n = let h = inside (layer layers' (suc k)) v s.held in let e = layer_length layers' (suc k) in let f = b.full in omega (arith, h, e, f) in
    both_ways _ ((layer_apart layers' (suc k)).outside v s.held) (ap (λ l. has l v) (sym same) ∙ all_before n IsNext levels layers a v low)

same_count : (n : ℕ) (IsNext : List Bool → Fraction → List Bool → Type 0) (levels levels' : List Fraction) (layers layers' : List ℤ) → HasOneNext n IsNext →
    AreLayers n IsNext levels layers → AreLayers n IsNext levels' layers' → length levels ≡ length levels'
same_count n IsNext levels levels' layers layers' o a b =
    let no_less = no_longer n IsNext levels levels' layers layers' o a b in
    let no_more = no_longer n IsNext levels' levels layers' layers o b a in
    elim (cases_lt (length levels) (length levels')) [
      | inl less ↦ absurd (no_less less)
      | inr most ↦ elim (cases_lt (length levels') (length levels)) [ inl more ↦ absurd (no_more more) | inr least ↦ omega (arith, most, least) ]
    ]

pub one_layering : (n : ℕ) (IsNext : List Bool → Fraction → List Bool → Type 0) (levels levels' : List Fraction) (layers layers' : List ℤ) → HasOneNext n IsNext →
    AreLayers n IsNext levels layers → AreLayers n IsNext levels' layers' → AreSameLayers levels levels' layers layers'
one_layering n IsNext levels levels' layers layers' o a b =
    let count = same_count n IsNext levels levels' layers layers' o a b in
    let full = a.full in
    let full' = b.full in
    record {
      same = same_numbers layers layers' (length levels) (full ∙ sym full') (λ v low. a.low v (omega (arith, low, full))) (λ v low. a.high v (omega (arith, low, full)))
          (λ v low. b.low v (omega (arith, low, full'))) (λ v low. let h = b.high v (omega (arith, low, full')) in omega (arith, ints, h, count))
          (λ j low. same_before n IsNext levels levels' layers layers' o a b j low (omega (arith, low, count)));
      count = count;
      equal = λ j low.
          (same_next n IsNext levels levels' layers layers' o a b j low (omega (arith, low, count))
          (same_before n IsNext levels levels' layers layers' o a b j (omega (arith, low)) (omega (arith, low, count)))).equal;
    }

same_list : (xs ys : List Fraction) → length xs ≡ length ys → ((j : ℕ) → j < length xs → level_at xs j ≡ level_at ys j) → xs ≡ ys
same_list [] [] e h = refl
same_list [] (y ∷ ys) e h = absurd (omega arith)
same_list (x ∷ xs) [] e h = absurd (omega arith)
same_list (x ∷ xs) (y ∷ ys) e h =
    let first : x ≡ y = h 0 (omega arith) in
    let rest = same_list xs ys (omega arith) (λ j low. h (suc j) (omega (arith, low))) in
    rw (first, rest) refl

pub same_levels : (n : ℕ) (IsNext : List Bool → Fraction → List Bool → Type 0) (levels levels' : List Fraction) (layers layers' : List ℤ) →
    AreLayers n IsNext levels layers → AreLayers n IsNext levels' layers' → AreSameLayers levels levels' layers layers' → AreLowest levels → AreLowest levels' → levels ≡ levels'
same_levels n IsNext levels levels' layers layers' a b s lowest lowest' =
    let count = s.count in
    same_list levels levels' count
    (λ j low. same_fraction (level_at levels j) (level_at levels' j) (a.parameters j low) (b.parameters j (omega (arith, low, count))) (lowest.each j low)
    (lowest'.each j (omega (arith, low, count))) (s.equal j low))
