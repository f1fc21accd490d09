-- Two sides against their union and their intersection.
use Rattle.std.proofs.Common.{◌≡◌, ℕ, suc, ◌+◌, ◌<◌, List, [], ◌∷◌, length, refl, Bool, true, false, cond, ◌&&◌, ◌||◌, arith}
use Rattle.std.specs.Prelude.{ℤ, ◌+ℤ◌, ◌≤ℤ◌, pos}
use Rattle.std.proofs.lemmas.Int.{ints}
use Rattle.pf_model.specs.Cut.{has, size, at_arc, intersection, union}
use Rattle.pf_model.proofs.Exchange.{has-intersection, has-union}
use Rattle.pf_graph.specs.WeightedGraph.{lies_in, inside}

edge_step : (a1 a2 b1 b2 : Bool) (x : ℤ) → pos 0 ≤ℤ x →
    (cond (a1 && b1) x (pos 0) +ℤ cond (a2 && b2) x (pos 0))
    ≤ℤ (cond ((a1 || a2) && (b1 || b2)) x (pos 0) +ℤ cond ((a1 && a2) && (b1 && b2)) x (pos 0))
edge_step a1 a2 b1 b2 x low = grind (arith, ints)

edge_lies : (first second : List Bool) (edge : ℕ × ℕ) (x : ℤ) → pos 0 ≤ℤ x →
    (cond (lies_in first edge) x (pos 0) +ℤ cond (lies_in second edge) x (pos 0))
    ≤ℤ (cond (lies_in (union first second) edge) x (pos 0) +ℤ cond (lies_in (intersection first second) edge) x (pos 0))
edge_lies first second edge x low =
    rw (has-intersection first second edge.0, has-intersection first second edge.1, has-union first second edge.0, has-union first second edge.1)
    (edge_step (has first edge.0) (has second edge.0) (has first edge.1) (has second edge.1) x low)

-- where no number is below 0, the two sides hold at most what their union and their intersection hold
pub inside_supermodular : (ends : List (ℕ × ℕ)) (numbers : List ℤ) (first second : List Bool) →
    ((i : ℕ) → i < length ends → pos 0 ≤ℤ at_arc numbers i) →
    (inside ends numbers first +ℤ inside ends numbers second)
    ≤ℤ (inside ends numbers (union first second) +ℤ inside ends numbers (intersection first second))
inside_supermodular [] numbers first second low = omega (arith, ints)
inside_supermodular (edge ∷ ends) [] first second low = omega (arith, ints)
inside_supermodular (edge ∷ ends) (x ∷ numbers) first second low =
    let here = edge_lies first second edge x (low 0 (omega arith)) in
    let rest = inside_supermodular ends numbers first second (λ i h. low (suc i) (omega arith)) in
    omega (arith, ints, here, rest)

size_step : (p q : Bool) (a b c d : ℕ) → a + b ≡ c + d →
    (cond (p || q) 1 0 + a) + (cond (p && q) 1 0 + b) ≡ (cond p 1 0 + c) + (cond q 1 0 + d)
size_step true true a b c d h = omega arith
size_step true false a b c d h = omega arith
size_step false true a b c d h = omega arith
size_step false false a b c d h = omega arith

pub size_modular : (first second : List Bool) → size (union first second) + size (intersection first second) ≡ size first + size second
size_modular [] second = omega arith
size_modular (p ∷ first) [] = refl
size_modular (p ∷ first) (q ∷ second) = size_step p q _ _ _ _ (size_modular first second)
