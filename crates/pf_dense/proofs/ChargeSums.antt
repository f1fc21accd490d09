-- What the edges charge the vertices of a set.
use Rattle.std.proofs.Common.{◌≡◌, ℕ, zero, suc, ◌<◌, List, [], ◌∷◌, length, refl, Bool, true, false, cond, ◌&&◌, arith, ap}
use Rattle.std.specs.Prelude.{ℤ, ◌+ℤ◌, ◌-ℤ◌, ◌*ℤ◌, ◌≤ℤ◌, pos}
use Rattle.std.proofs.lemmas.Int.{ints}
use Rattle.pf_model.specs.Fraction.{Fraction}
use Rattle.pf_model.specs.Cut.{sum_where, at_arc, has, leaves, enters}
use Rattle.pf_model.specs.Flow.{sum_out, sum_in}
use Rattle.pf_model.proofs.Integers.{mul_add}
use Rattle.pf_model.proofs.Sums.{Passes, sum_where_most, sum_where_empty, sum_where_split, sum_where_same}
use Rattle.pf_graph.specs.WeightedGraph.{WeightedGraph, lies_in}
use Rattle.pf_dense.specs.Densest.{weight_inside}
use Rattle.pf_dense.specs.Certificate.{whole_charge, second_charges, charged}
use Rattle.pf_dense.proofs.VertexSums.{sum_over, sum_over_add, sum_over_arcs}
use Rattle.pf_model.proofs.Balance.{and_comm}

-- the charges to the second ends
pub length_seconds : (x : Fraction) (weights charges : List ℤ) → length charges ≡ length weights → length (second_charges x weights charges) ≡ length weights
length_seconds x [] charges full = refl
length_seconds x (w ∷ weights) [] full = absurd (omega arith)
length_seconds x (w ∷ weights) (c ∷ charges) full = ap suc (length_seconds x weights charges (omega arith))

pub second_at : (x : Fraction) (weights charges : List ℤ) (i : ℕ) → length charges ≡ length weights → i < length weights →
    at_arc (second_charges x weights charges) i ≡ whole_charge x (at_arc weights i) -ℤ at_arc charges i
second_at x [] charges i full low = absurd (omega arith)
second_at x (w ∷ weights) [] i full low = absurd (omega arith)
second_at x (w ∷ weights) (c ∷ charges) zero full low = refl
second_at x (w ∷ weights) (c ∷ charges) (suc i) full low = second_at x weights charges i (omega arith) (omega arith)

-- both ends together are charged the whole
shared_step : (b : Bool) (q w c f s i : ℤ) → f +ℤ s ≡ pos 2 *ℤ (q *ℤ i) →
    (cond b c (pos 0) +ℤ f) +ℤ (cond b ((pos 2 *ℤ (q *ℤ w)) -ℤ c) (pos 0) +ℤ s) ≡ pos 2 *ℤ (q *ℤ (cond b w (pos 0) +ℤ i))
shared_step true q w c f s i e = let m = mul_add q w i in omega (arith, ints, e, m)
shared_step false q w c f s i e =
    let m = mul_add q (pos 0) i in
    let none : q *ℤ pos 0 ≡ pos 0 = omega (arith, ints) in
    omega (arith, ints, e, m, none)

shared_none : (q : ℤ) → pos 0 +ℤ pos 0 ≡ pos 2 *ℤ (q *ℤ pos 0)
shared_none q = let none : q *ℤ pos 0 ≡ pos 0 = omega (arith, ints) in omega (arith, ints, none)

pub shared_sum : (test : ℕ × ℕ → Bool) (x : Fraction) (ends : List (ℕ × ℕ)) (weights charges : List ℤ) → length weights ≡ length ends → length charges ≡ length ends →
    sum_where test ends charges +ℤ sum_where test ends (second_charges x weights charges) ≡ pos 2 *ℤ (x.q *ℤ sum_where test ends weights)
shared_sum test x [] weights charges wide full = shared_none x.q
shared_sum test x (edge ∷ ends) [] charges wide full = absurd (omega arith)
shared_sum test x (edge ∷ ends) (w ∷ weights) [] wide full = absurd (omega arith)
shared_sum test x (edge ∷ ends) (w ∷ weights) (c ∷ charges) wide full =
    shared_step (test edge) x.q w c _ _ _ (shared_sum test x ends weights charges (omega arith) (omega arith))

-- what is charged to the vertices of a set
abbrev pub spread : WeightedGraph → Fraction → List ℤ → List Bool → ℤ
spread g x charges set =
    sum_where (λ edge. has set edge.0) g.ends charges +ℤ sum_where (λ edge. has set edge.1) g.ends (second_charges x g.weights charges)

pub charged_sum : (g : WeightedGraph) (x : Fraction) (charges : List ℤ) (set : List Bool) →
    sum_over (λ v. charged g x charges v) set ≡ spread g x charges set
charged_sum g x charges set =
    let seconds = second_charges x g.weights charges in
    let both = sum_over_add (λ v. sum_out g.ends charges v) (λ v. sum_in g.ends seconds v) set in
    let first = sum_over_arcs (λ edge. edge.0) g.ends charges set in
    let second = sum_over_arcs (λ edge. edge.1) g.ends seconds set in
    omega (arith, ints, both, first, second)

-- what edges with one end in the set charge that end
abbrev pub mixed : WeightedGraph → Fraction → List ℤ → List Bool → ℤ
mixed g x charges set = sum_where (leaves set) g.ends charges +ℤ sum_where (enters set) g.ends (second_charges x g.weights charges)

pub spread_is : (g : WeightedGraph) (x : Fraction) (charges : List ℤ) (set : List Bool) → length g.weights ≡ length g.ends → length charges ≡ length g.ends →
    spread g x charges set ≡ (pos 2 *ℤ (x.q *ℤ weight_inside g set)) +ℤ mixed g x charges set
spread_is g x charges set wide full =
    let seconds = second_charges x g.weights charges in
    let first = sum_where_split (λ edge. has set edge.0) (λ edge. has set edge.1) g.ends charges in
    let second = sum_where_split (λ edge. has set edge.1) (λ edge. has set edge.0) g.ends seconds in
    let same = sum_where_same (λ edge. has set edge.1 && has set edge.0) (lies_in set) g.ends seconds (λ edge. and_comm (has set edge.1) (has set edge.0)) in
    let whole = shared_sum (lies_in set) x g.ends g.weights charges wide full in
    omega (arith, ints, first, second, same, whole)

-- sums of numbers that are not below 0
pub sum_low : (test : ℕ × ℕ → Bool) (arcs : List (ℕ × ℕ)) (numbers : List ℤ) → ((i : ℕ) → i < length arcs → pos 0 ≤ℤ at_arc numbers i) →
    pos 0 ≤ℤ sum_where test arcs numbers
sum_low test arcs numbers h =
    let most = sum_where_most test arcs [] numbers (λ i p. h i p.in_range) in
    let none = sum_where_empty test arcs in
    omega (arith, ints, most, none)

pub sum_none : (test : ℕ × ℕ → Bool) (arcs : List (ℕ × ℕ)) (numbers : List ℤ) → ((i : ℕ) → Passes test arcs i → at_arc numbers i ≤ℤ pos 0) →
    sum_where test arcs numbers ≤ℤ pos 0
sum_none test arcs numbers h =
    let most = sum_where_most test arcs numbers [] h in
    let none = sum_where_empty test arcs in
    omega (arith, ints, most, none)

here_step : (b : Bool) (x a : ℤ) → b ≡ true → pos 0 ≤ℤ a → (cond b x (pos 0) +ℤ a) ≤ℤ pos 0 → x ≤ℤ pos 0
here_step true x a e h t = omega (arith, ints)
here_step false x a e h t = cc

rest_step : (b : Bool) (x a : ℤ) → pos 0 ≤ℤ x → (cond b x (pos 0) +ℤ a) ≤ℤ pos 0 → a ≤ℤ pos 0
rest_step true x a h t = omega (arith, ints)
rest_step false x a h t = omega (arith, ints)

pub each_none : (test : ℕ × ℕ → Bool) (arcs : List (ℕ × ℕ)) (numbers : List ℤ) → length numbers ≡ length arcs →
    ((i : ℕ) → i < length arcs → pos 0 ≤ℤ at_arc numbers i) → sum_where test arcs numbers ≤ℤ pos 0 →
    (i : ℕ) → Passes test arcs i → at_arc numbers i ≤ℤ pos 0
each_none test [] numbers full low t i p = absurd (omega (arith, p.in_range))
each_none test (arc ∷ arcs) [] full low t i p = absurd (omega arith)
each_none test (arc ∷ arcs) (x ∷ numbers) full low t zero p =
    here_step (test arc) x _ p.passes (sum_low test arcs numbers (λ i there. low (suc i) (omega (arith, there)))) t
each_none test (arc ∷ arcs) (x ∷ numbers) full low t (suc i) p =
    each_none test arcs numbers (omega arith) (λ j there. low (suc j) (omega (arith, there))) (rest_step (test arc) x _ (low zero (omega arith)) t) i
    (record { in_range = omega (arith, p.in_range); passes = p.passes })
