-- The certificate proves that the level is reached, and that nothing reaches it for less.
use Rattle.std.proofs.Common.{◌≡◌, ℕ, zero, suc, ◌+◌, ◌<◌, ◌≤◌, List, [], ◌∷◌, length, get_or, map, refl, Bool, true, false, cond, arith, ap, sym, ◌∙◌, inr}
use Rattle.std.specs.Prelude.{ℤ, ◌+ℤ◌, ◌-ℤ◌, ◌*ℤ◌, ◌≤ℤ◌, ◌<ℤ◌, pos, int_lt}
use Rattle.std.proofs.lemmas.Int.{ints}
use Rattle.std.proofs.lemmas.Bool.{eq-eqb}
use Rattle.pf_model.specs.Cut.{at_arc, sum_where}
use Rattle.pf_model.specs.Fraction.{Fraction}
use Rattle.pf_model.proofs.Affine.{sum_where_scaled}
use Rattle.pf_model.proofs.Integers.{mul_add, mul_less}
use Rattle.pf_frame.specs.Lending.{row_at}
use Rattle.pf_graph.specs.WeightedGraph.{WeightedGraph, IsWeightedGraph, digraph_of, total}
use Rattle.pf_graph.specs.Labels.{part, parts, crosses, crossing, crossing_edges}
use Rattle.pf_graph.specs.Best.{crossing_of, partition_at}
use Rattle.pf_graph.specs.Laws.{PartsMost}
use Rattle.pf_graph.proofs.Classes.{parts_most_sum, has-part, length-part}
use Rattle.pf_graph.proofs.Counting.{occurs_find}
use Rattle.pf_forest.specs.Forest.{IsSparse}
use Rattle.pf_forest.proofs.Sparse.{some_size}
use Rattle.pf_forest.proofs.Splits.{splits_are_sparse}
use Rattle.pf_reinforce.specs.Reinforcement.{AddedAnswer, ReachesLevel, IsReinforcement, CertifiesReinforcement, IsReinforced, IsThreshold, AreThresholds, IsBlocked, cost_of_added, sum_from}
use Rattle.pf_reinforce.proofs.PriceSums.{cost_is_paid, paid_more, IsCovered, IsRisingFrom}

-- what crosses is at most the weights and what is added
at_scaled : (q : ℤ) (numbers : List ℤ) (i : ℕ) → at_arc (map (λ c. q *ℤ c) numbers) i ≡ q *ℤ at_arc numbers i
at_scaled q [] i = omega (arith, ints)
at_scaled q (x ∷ numbers) zero = refl
at_scaled q (x ∷ numbers) (suc i) = at_scaled q numbers i

two_step : (here : Bool) (x y z a b c : ℤ) → (here ≡ true → x ≤ℤ (y +ℤ z)) → a ≤ℤ (b +ℤ c) →
    (cond here x (pos 0) +ℤ a) ≤ℤ ((cond here y (pos 0) +ℤ b) +ℤ (cond here z (pos 0) +ℤ c))
two_step true x y z a b c h l = let e = h refl in omega (arith, ints, e, l)
two_step false x y z a b c h l = omega (arith, ints, l)

-- a sum of numbers, each at most the sum of two others
sum_of_two : (test : ℕ × ℕ → Bool) (ends : List (ℕ × ℕ)) (xs ys zs : List ℤ) → length xs ≡ length ends → length ys ≡ length ends → length zs ≡ length ends →
    ((i : ℕ) → i < length ends → at_arc xs i ≤ℤ (at_arc ys i +ℤ at_arc zs i)) →
    sum_where test ends xs ≤ℤ (sum_where test ends ys +ℤ sum_where test ends zs)
sum_of_two test [] xs ys zs k l m h = omega (arith, ints)
sum_of_two test (edge ∷ ends) [] ys zs k l m h = absurd (omega (arith, k))
sum_of_two test (edge ∷ ends) (x ∷ xs) [] zs k l m h = absurd (omega (arith, l))
sum_of_two test (edge ∷ ends) (x ∷ xs) (y ∷ ys) [] k l m h = absurd (omega (arith, m))
sum_of_two test (edge ∷ ends) (x ∷ xs) (y ∷ ys) (z ∷ zs) k l m h =
    two_step (test edge) x y z (sum_where test ends xs) (sum_where test ends ys) (sum_where test ends zs) (λ _. h 0 (omega arith))
    (sum_of_two test ends xs ys zs (omega (arith, k)) (omega (arith, l)) (omega (arith, m)) (λ i low. h (suc i) (omega (arith, low))))

length-scaled : (q : ℤ) (numbers : List ℤ) → length (map (λ c. q *ℤ c) numbers) ≡ length numbers
length-scaled q [] = refl
length-scaled q (x ∷ numbers) = let e = length-scaled q numbers in omega (arith, e)

-- the vector across any partition, from its sum
reaches_parts : (p c t : ℤ) (n k : ℕ) → t ≡ p *ℤ (pos n -ℤ pos 1) → t ≤ℤ (c +ℤ (p *ℤ (pos n -ℤ pos k))) → (p *ℤ (pos k -ℤ pos 1)) ≤ℤ c
reaches_parts p c t n k e l =
    let gap : pos n -ℤ pos 1 ≡ (pos n -ℤ pos k) +ℤ (pos k -ℤ pos 1) = omega (arith, ints) in
    let f = ap (λ z. p *ℤ z) gap ∙ mul_add p (pos n -ℤ pos k) (pos k -ℤ pos 1) in
    omega (arith, ints, e, l, f)

pub vector_crosses : (g : WeightedGraph) (x : Fraction) (vector : List ℤ) (labels : List ℕ) → IsWeightedGraph g → IsSparse (digraph_of g) x.p vector →
    total g.ends vector ≡ x.p *ℤ (pos g.nodes -ℤ pos 1) → length labels ≡ g.nodes → (x.p *ℤ (pos (parts labels) -ℤ pos 1)) ≤ℤ crossing g.ends vector labels
vector_crosses g x vector labels graph s sum full =
    let most : PartsMost g.ends vector x.p labels = record {
      most = λ a some.
          let f = occurs_find a labels some in
          s.sparse (part labels a) (length-part labels a ∙ full)
          (some_size (part labels a) f.vertex (has-part labels a f.vertex f.in_range ∙ eq-eqb _ _ f.label_is));
    } in
    let e = parts_most_sum (digraph_of g) vector x.p labels graph.graph full most in
    reaches_parts x.p (crossing g.ends vector labels) (total g.ends vector) g.nodes (parts labels) sum e

reinforced_crosses : (g : WeightedGraph) (x : Fraction) (added vector : List ℤ) (labels : List ℕ) → IsWeightedGraph g → IsReinforced g x added vector →
    crossing g.ends vector labels ≤ℤ ((x.q *ℤ crossing_of g labels) +ℤ crossing g.ends added labels)
reinforced_crosses g x added vector labels graph r =
    let scaled : List ℤ = map (λ c. x.q *ℤ c) g.weights in
    let e = sum_of_two (crosses labels) g.ends vector scaled added r.vector_full (length-scaled x.q g.weights ∙ graph.weights_full) r.added_full
    (λ i low. let h = r.vector_high i low in let s = at_scaled x.q g.weights i in omega (arith, ints, h, s)) in
    let d = sum_where_scaled (crosses labels) x.q g.ends g.weights in
    omega (arith, ints, e, d)

pub once : (z : ℤ) → pos 1 *ℤ z ≡ z
once z = omega (arith, ints)

certificate_reaches : (g : WeightedGraph) (a : AddedAnswer) → IsWeightedGraph g → CertifiesReinforcement g a → ReachesLevel g a.level 1 a.added
certificate_reaches g a graph c =
    let sparse = splits_are_sparse (digraph_of g) a.level.p a.vector (row_at a.splits) c.reinforced.vector_full c.splits_are in
    record {
      full = c.reinforced.added_full;
      low = c.reinforced.added_low;
      reaches = λ labels full.
          let e = vector_crosses g a.level a.vector labels graph sparse c.sum full in
          let f = reinforced_crosses g a.level a.added a.vector labels graph c.reinforced in
          let left = once (a.level.p *ℤ (pos (parts labels) -ℤ pos 1)) in
          let right = once (a.level.q *ℤ crossing_of g labels) in
          omega (arith, ints, e, f, left, right);
    }

-- numbers beside crossing edges are numbers beside dear edges
dear_step : (here below : Bool) (price c x a b : ℤ) → int_lt price c ≡ below → (here ≡ true → c ≤ℤ price) → pos 0 ≤ℤ x → a ≤ℤ b →
    (cond here x (pos 0) +ℤ a) ≤ℤ (cond below (pos 0) x +ℤ b)
dear_step true true price c x a b e h low l = absurd (let d = h refl in omega (arith, ints, e, d))
dear_step true false price c x a b e h low l = omega (arith, ints, l)
dear_step false true price c x a b e h low l = omega (arith, ints, l)
dear_step false false price c x a b e h low l = omega (arith, ints, l, low)

crossing_is_dear : (test : ℕ × ℕ → Bool) (c : ℤ) (ends : List (ℕ × ℕ)) (prices numbers : List ℤ) → length prices ≡ length ends → length numbers ≡ length ends →
    ((i : ℕ) → i < length ends → test (get_or ends i (0, 0)) ≡ true → c ≤ℤ at_arc prices i) → ((i : ℕ) → i < length ends → pos 0 ≤ℤ at_arc numbers i) →
    sum_where test ends numbers ≤ℤ sum_from c prices numbers
crossing_is_dear test c [] [] numbers k l dear low = omega (arith, ints)
crossing_is_dear test c [] (price ∷ prices) numbers k l dear low = absurd (omega (arith, k))
crossing_is_dear test c (edge ∷ ends) [] numbers k l dear low = absurd (omega (arith, k))
crossing_is_dear test c (edge ∷ ends) (price ∷ prices) [] k l dear low = absurd (omega (arith, l))
crossing_is_dear test c (edge ∷ ends) (price ∷ prices) (x ∷ numbers) k l dear low =
    dear_step (test edge) (int_lt price c) price c x (sum_where test ends numbers) (sum_from c prices numbers) refl (dear 0 (omega arith)) (low 0 (omega arith))
    (crossing_is_dear test c ends prices numbers (omega (arith, k)) (omega (arith, l)) (λ i h. dear (suc i) (omega (arith, h))) (λ i h. low (suc i) (omega (arith, h))))

times_gap : (u s p q : ℤ) → s ≡ p -ℤ q → (u *ℤ s) +ℤ (u *ℤ q) ≡ u *ℤ p
times_gap u s p q e =
    let f : s +ℤ q ≡ p = omega (arith, ints, e) in
    sym (mul_add u s q) ∙ ap (λ z. u *ℤ z) f

-- what reaches the level has at least as much from the threshold on
threshold_least : (g : WeightedGraph) (x : Fraction) (added : List ℤ) (c : ℤ) (labels : List ℕ) (u : ℕ) (other : List ℤ) → IsWeightedGraph g →
    IsThreshold g x added c labels → ReachesLevel g x u other → (pos u *ℤ sum_from c g.prices added) ≤ℤ sum_from c g.prices other
threshold_least g x added c labels u other graph t r =
    let a = r.reaches labels t.full in
    let b = crossing_is_dear (crosses labels) c g.ends g.prices other graph.prices_full r.full t.dear r.low in
    let e = times_gap (pos u) (sum_from c g.prices added) (x.p *ℤ (pos (parts labels) -ℤ pos 1)) (x.q *ℤ crossing_of g labels) t.sum in
    omega (arith, ints, a, b, e)

-- the thresholds rise from above 0
first_positive : (g : WeightedGraph) (thresholds : List ℤ) → IsWeightedGraph g → AreThresholds g.prices thresholds → 0 < length thresholds → pos 0 ≤ℤ at_arc thresholds 0
first_positive g thresholds graph t some =
    let a = t.occur 0 some in
    let low = graph.prices_low a.place (omega (arith, a.in_range, graph.prices_full)) in
    let e = a.there in
    omega (arith, ints, low, e)

certificate_costs : (g : WeightedGraph) (a : AddedAnswer) (u : ℕ) (other : List ℤ) → IsWeightedGraph g → CertifiesReinforcement g a → ReachesLevel g a.level u other →
    (pos u *ℤ cost_of_added g.prices a.added) ≤ℤ cost_of_added g.prices other
certificate_costs g a u other graph c r =
    let low : (i : ℕ) → i < length g.prices → pos 0 ≤ℤ at_arc g.prices i = λ i h. graph.prices_low i (omega (arith, h, graph.prices_full)) in
    let rising : IsRisingFrom (pos 0) a.thresholds = record { above = first_positive g a.thresholds graph c.thresholds_are; rise = c.thresholds_are.rise } in
    let covered : IsCovered (pos 0) g.prices a.thresholds = record { covered = λ i h. inr (c.thresholds_are.all i h) } in
    let more = paid_more (pos u) (pos 0) g.prices a.thresholds a.added other rising covered
    (λ j h. threshold_least g a.level a.added (at_arc a.thresholds j) (partition_at a.parts j) u other graph (c.each j h) r) in
    let mine = ap (λ z. pos u *ℤ z) (cost_is_paid g.prices a.added low) in
    let others = cost_is_paid g.prices other low in
    omega (arith, ints, more, mine, others)

pub certificate_is_least : (g : WeightedGraph) (a : AddedAnswer) → IsWeightedGraph g → CertifiesReinforcement g a → IsReinforcement g a.level a.added
certificate_is_least g a graph c = record {
  reaches = certificate_reaches g a graph c;
  least = λ u other some r. certificate_costs g a u other graph c r;
}

-- where no edge crosses, no numbers do
some_edges : (here : Bool) (k : ℕ) → cond here 1 0 + k ≡ 0 → (here ≡ false) × (k ≡ 0)
some_edges true k e = absurd (omega (arith, e))
some_edges false k e = (refl, omega (arith, e))

uncrossed_step : (here : Bool) (x a : ℤ) → here ≡ false → a ≡ pos 0 → cond here x (pos 0) +ℤ a ≡ pos 0
uncrossed_step true x a e h = cc
uncrossed_step false x a e h = omega (arith, ints, h)

pub uncrossed_sum : (ends : List (ℕ × ℕ)) (numbers : List ℤ) (labels : List ℕ) → crossing_edges ends labels ≡ 0 → crossing ends numbers labels ≡ pos 0
uncrossed_sum [] numbers labels e = refl
uncrossed_sum (edge ∷ ends) [] labels e = refl
uncrossed_sum (edge ∷ ends) (x ∷ numbers) labels e =
    let s = some_edges (crosses labels edge) (crossing_edges ends labels) e in
    uncrossed_step (crosses labels edge) x (crossing ends numbers labels) s.0 (uncrossed_sum ends numbers labels s.1)

blocked_step : (u : ℕ) (p q c n : ℤ) (k : ℕ) → 1 ≤ u → pos 0 <ℤ p → 2 ≤ k → c ≡ pos 0 → n ≡ pos 0 →
    (pos u *ℤ (p *ℤ (pos k -ℤ pos 1))) ≤ℤ ((pos u *ℤ (q *ℤ c)) +ℤ n) → ⊥
blocked_step u p q c n k some level two uncrossed none reaches =
    let above : pos 0 <ℤ (pos k -ℤ pos 1) = omega (arith, ints, two) in
    let a = mul_less p (pos 0) (pos k -ℤ pos 1) level above in
    let zero_p : p *ℤ pos 0 ≡ pos 0 = omega (arith, ints) in
    let b = mul_less (pos u) (pos 0) (p *ℤ (pos k -ℤ pos 1)) (omega (arith, ints, some)) (omega (arith, ints, a, zero_p)) in
    let zero_u : pos u *ℤ pos 0 ≡ pos 0 = omega (arith, ints) in
    let zero_q : q *ℤ pos 0 ≡ pos 0 = omega (arith, ints) in
    let d = ap (λ z. pos u *ℤ (q *ℤ z)) uncrossed in
    let e = ap (λ z. pos u *ℤ z) zero_q in
    omega (arith, ints, b, zero_u, d, e, none, reaches)

pub blocked_is_not_reached : (g : WeightedGraph) (x : Fraction) (labels : List ℕ) (u : ℕ) (numbers : List ℤ) → IsWeightedGraph g → 1 ≤ u →
    IsBlocked g x labels → ReachesLevel g x u numbers → ⊥
blocked_is_not_reached g x labels u numbers graph some b r =
    blocked_step u x.p x.q (crossing_of g labels) (crossing g.ends numbers labels) (parts labels) some b.level b.apart
    (uncrossed_sum g.ends g.weights labels b.uncrossed) (uncrossed_sum g.ends numbers labels b.uncrossed) (r.reaches labels b.partition.full)
