-- Layers between the sets of a growing chain.
use Rattle.std.proofs.Common.{◌≡◌, ℕ, suc, ◌<◌, List, [], ◌∷◌, length, refl, Bool, true, false, ◌||◌, arith, ap, sym, ◌∙◌, inl, inr, subst}
use Rattle.std.specs.Prelude.{ℤ, pos, int_lt, ◌⊎◌}
use Rattle.std.proofs.lemmas.Int.{ints}
use Rattle.std.proofs.lemmas.Bool.{cases_Bool, both_ways}
use Rattle.pf_model.specs.Fraction.{Fraction, IsParameter}
use Rattle.pf_model.specs.Cut.{has, at_arc, union}
use Rattle.pf_model.proofs.Exchange.{has-union, length-union}
use Rattle.pf_model.proofs.Unique.{same_sides}
use Rattle.pf_layers.specs.Layers.{before, layer, level_at, IsApart, AreLayers}
use Rattle.pf_layers.specs.Reading.{IsNumbered}
use Rattle.pf_layers.proofs.NumberingLemmas.{before_more, layer_apart, layer_length, has_map, less_true}
use Rattle.pf_dense.proofs.NewtonSteps.{all_off}

-- each set of the right length between two neighbours is the next
pub record AreSteps (n : ℕ) (IsNext : List Bool → Fraction → List Bool → Type 0) (sets : ℕ → List Bool) (layers : List ℤ) (levels : List Fraction) : Type 0 where
  pub parameters : (j : ℕ) → j < length levels → IsParameter (level_at levels j)
  pub next : (j : ℕ) (set : List Bool) → j < length levels → length set ≡ n → IsApart (sets j) set → before layers (suc (suc j)) ≡ union (sets j) set →
      IsNext (sets j) (level_at levels j) set

pub tower : (n : ℕ) (IsNext : List Bool → Fraction → List Bool → Type 0) (sets : ℕ → List Bool) (layers : List ℤ) (levels : List Fraction) → 0 < length levels →
    IsNumbered n sets layers (length levels) → AreSteps n IsNext sets layers levels → AreLayers n IsNext levels layers
tower n IsNext sets layers levels some m s = record {
  some = some;
  full = m.full;
  low = m.low;
  high = m.high;
  parameters = s.parameters;
  next = λ j low.
      let here = m.before_is j low in
      let step = s.next j (layer layers (suc j)) low (layer_length layers (suc j) ∙ m.full)
      (subst (λ taken. IsApart taken (layer layers (suc j))) here (layer_apart layers (suc j)))
      (before_more layers (suc j) ∙ ap (λ taken. union taken (layer layers (suc j))) here) in
      subst (λ taken. IsNext taken (level_at levels j) (layer layers (suc j))) (sym here) step;
}

-- an element, or none
pub record IsSomewhere (set : List Bool) : Type 0 where
  pub place : ℕ
  pub held : has set place ≡ true

some_or_none : (set : List Bool) → IsSomewhere set ⊎ ((v : ℕ) → has set v ≡ false)
some_or_none [] = inr (λ v. refl)
some_or_none (b ∷ set) = elim (cases_Bool b) [
  | inl held ↦ inl (record { place = 0; held = held })
  | inr off ↦ elim (some_or_none set) [
    | inl some ↦ inl (record { place = suc some.place; held = some.held })
    | inr none ↦ inr (all_off b set off none)
  ]
]

or_none : (a b : Bool) → b ≡ false → (a || b) ≡ true → a ≡ true
or_none true b e h = refl
or_none false b e h = let f : b ≡ true = h in absurd (both_ways b e f)

-- where a union is not the one set, the other one holds something
pub some_more : (taken set next : List Bool) → length set ≡ length taken → next ≡ union taken set → (next ≡ taken → ⊥) → IsSomewhere set
some_more taken set next e same different = elim (some_or_none set) [
  | inl some ↦ some
  | inr none ↦ absurd
      (different
      (same_sides next taken (ap length same ∙ length-union taken set (sym e))
      (λ v h. or_none (has taken v) (has set v) (none v) (sym (has-union taken set v) ∙ ap (λ l. has l v) (sym same) ∙ h))
      (λ v h. ap (λ l. has l v) same ∙ has-union taken set v ∙ ap (λ b. b || has set v) h)))
]

-- after the last layer stands every element
pub all_before : (n : ℕ) (sets : ℕ → List Bool) (layers : List ℤ) (count : ℕ) → IsNumbered n sets layers count → (v : ℕ) → v < n → has (before layers (suc count)) v ≡ true
all_before n sets layers count m v low =
    let high = m.high v low in
    let full = m.full in
    has_map (λ number. int_lt number (pos (suc count))) layers v (omega (arith, low, full))
    ∙ less_true (at_arc layers v) (pos (suc count)) (omega (arith, ints, high))
