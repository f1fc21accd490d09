-- The numbers of the line of an edge as code has them, and what its rules make of them.
use Rattle.std.proofs.Common.{◌≡◌, ◌≢◌, ℕ, ◌<◌, ◌^◌, List, [], ◌∷◌, ◌++◌, map, false, eqb, Ok, refl, sym, ap, ◌∙◌, arith}
use Rattle.std.specs.Prelude.{ℤ, pos}
use Rattle.std.proofs.lemmas.Int.{ints}
use Rattle.std.proofs.lemmas.Bool.{ne_eqb}
use Rattle.std.proofs.lemmas.List.{map-append}
use Rattle.pf_text.specs.Kinds.{Fits}
use Rattle.pf_graph.specs.Text.{SlotNumbers, Given, vertex_count, index, edge_form, edge_rules}
use Rattle.pf_lines.proofs.LineNumbers.{at, back, bits}

abbrev pub given_by : SlotNumbers → SlotNumbers → List (ℕ × ℕ) → List ℤ → Given
given_by costs prices ends weights = record { costs = costs; prices = prices; ends = ends; weights = weights }

pub edge_numbers : (n : ℕ) (header_numbers numbers : List ℤ) (costs prices : SlotNumbers) (ends ends' : List (ℕ × ℕ)) (weights weights' : List ℕ) (u v w : ℕ) →
    vertex_count header_numbers ≡ n → n < 2 ^ 32 → Fits (edge_form header_numbers).patterns numbers → u ≡ index (bits (at numbers 0)) → v ≡ index (bits (at numbers 1)) →
    pos w ≡ bits (at numbers 2) → u ≢ v → ends' ≡ ends ++ (u, v) ∷ [] → weights' ≡ weights ++ w ∷ [] →
    edge_rules numbers (given_by costs prices ends (map pos weights)) ≡ Ok (given_by costs prices ends' (map pos weights'))
edge_numbers n header_numbers [] costs prices ends ends' weights weights' u v w is small fit eu ev ew apart e f = absurd fit
edge_numbers n header_numbers (a ∷ []) costs prices ends ends' weights weights' u v w is small fit eu ev ew apart e f = absurd fit.2
edge_numbers n header_numbers (a ∷ b ∷ []) costs prices ends ends' weights weights' u v w is small fit eu ev ew apart e f = absurd fit.2.2
edge_numbers n header_numbers (a ∷ b ∷ c ∷ []) costs prices ends ends' weights weights' u v w is small fit eu ev ew apart e f =
    let a_low = fit.0 in
    let a_high = fit.1 in
    let b_low = fit.2.0 in
    let b_high = fit.2.1 in
    let c_low = fit.2.2.0 in
    let c_high = fit.2.2.1 in
    let first : u ≡ index a = eu ∙ ap index (back a (omega (arith, ints, a_low, a_high, is, small))) in
    let second : v ≡ index b = ev ∙ ap index (back b (omega (arith, ints, b_low, b_high, is, small))) in
    let third : pos w ≡ c = ew ∙ back c (omega (arith, ints, c_low, c_high)) in
    let differ : eqb (index a) (index b) ≡ false = sym (ap (λ x. eqb x v) first ∙ ap (λ y. eqb (index a) y) second) ∙ ne_eqb u v apart in
    let ends_are : ends' ≡ ends ++ (index a, index b) ∷ [] = e ∙ ap (λ x. ends ++ (x, v) ∷ []) first ∙ ap (λ y. ends ++ (index a, y) ∷ []) second in
    let weights_are : map pos weights' ≡ map pos weights ++ c ∷ [] = ap (map pos) f ∙ map-append pos weights (w ∷ []) ∙ ap (λ z. map pos weights ++ z ∷ []) third in
    rw (differ, ends_are, weights_are) refl
edge_numbers n header_numbers (a ∷ b ∷ c ∷ d ∷ numbers) costs prices ends ends' weights weights' u v w is small fit eu ev ew apart e f = absurd fit.2.2.2
