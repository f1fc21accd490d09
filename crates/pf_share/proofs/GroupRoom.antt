-- The network of all groups is within the bounds of the engine, and its lists are built arc by arc.
use Rattle.std.proofs.Common.{◌≡◌, ℕ, zero, suc, ◌+◌, ◌^◌, ◌<◌, ◌≤◌, List, [], ◌∷◌, ◌++◌, length, get_or, take, Bool, true, false, cond, not, ◌&&◌, arith, ap, sym, ◌∙◌, subst, add-one}
use Rattle.std.specs.Prelude.{ℤ, ◌*ℤ◌, ◌≤ℤ◌, ◌<ℤ◌, pos, neg_ℤ, ◌==◌, All}
use Rattle.std.proofs.lemmas.Int.{ints}
use Rattle.std.proofs.lemmas.List.{get_or_default, take_all}
use Rattle.std.proofs.lemmas.List.Elements.{All-get_or}
use Rattle.std.proofs.Math.Seq.{take-suc}
use Rattle.pf_model.specs.Fraction.{Fraction}
use Rattle.pf_model.specs.Answer.{IsFractionShape, IsWithinSize}
use Rattle.pf_model.specs.Limits.{capacity_bound, most_arcs}
use Rattle.pf_model.specs.Digraph.{Digraph, IsDigraph}
use Rattle.pf_model.specs.Cut.{FlowNetwork, IsProper, at_arc, sum_where}
use Rattle.pf_model.specs.Flow.{IsGreatest}
use Rattle.pf_model.proofs.Integers.{mul_most, mul_comm}
use Rattle.pf_frame.specs.Numbers.{IsBounded}
use Rattle.pf_share.specs.Problem.{ShareProblem, IsShareProblem, IsBoundedSharing, no_share, tail_of, head_of}
use Rattle.pf_share.specs.Certificate.{SharesAnswer, level_at, group_at, node_level, is_lower}
use Rattle.pf_share.specs.Right.{IsSharesShape}
use Rattle.pf_share.specs.Tests.{AreBalances}
use Rattle.pf_share.specs.Grouped.{redirected, own_capacity, brought_in, supply, group_problem, one, group_net, answer_of, HasFlow, IsStill}
use Rattle.pf_share.proofs.Counting.{sum_nothing}
use Rattle.pf_share.proofs.NetArcs.{arcs_full, each_arc, ends_many, flow_ends, source_ends, flow_capacity, source_capacity}
use Rattle.pf_share.proofs.Soundness.{abs_of}
use Rattle.pf_share.proofs.ReadOff.{sum_most, sum_least}
use Rattle.pf_share.proofs.GroupNet.{AreFine, fine_levels, is_problem, ends_there, end_is, capacity_here, supply_here, brought_low}
use Rattle.pf_share.proofs.GroupFlow.{proper, first_certifies}

-- one item after the other

pub front_more : {X : Type 0} (target old new : List X) (d x : X) (k : ℕ) → k < length target → old ≡ take k target → new ≡ old ++ (x ∷ []) → x ≡ get_or target k d →
    new ≡ take (k + 1) target
front_more target old new d x k low before step is =
    step ∙ ap (λ l. l ++ (x ∷ [])) before ∙ ap (λ y. take k target ++ (y ∷ [])) is ∙ sym (take-suc target k d low) ∙ sym (ap (λ n. take n target) (add-one k))

pub front_next : {X : Type 0} (target old new : List X) (d x : X) (m k : ℕ) → m + k < length target → old ≡ take (m + k) target → new ≡ old ++ (x ∷ []) →
    x ≡ get_or target (m + k) d → new ≡ take (m + (k + 1)) target
front_next target old new d x m k low before step is =
    let e : (m + k) + 1 ≡ m + (k + 1) = omega arith in
    front_more target old new d x (m + k) low before step is ∙ ap (λ n. take n target) e

pub front_begins : {X : Type 0} (target old : List X) (m : ℕ) → old ≡ take m target → old ≡ take (m + 0) target
front_begins target old m e = let z : m ≡ m + 0 = omega arith in e ∙ ap (λ n. take n target) z

pub front_ends : {X : Type 0} (target old : List X) (m k n : ℕ) → length target ≡ m + n → n ≤ k → old ≡ take (m + k) target → old ≡ target
front_ends target old m k n full done e = e ∙ take_all (m + k) target (omega (arith, full, done))

pub front_stops : {X : Type 0} (target old : List X) (m k : ℕ) → k ≡ m → old ≡ take k target → old ≡ take m target
front_stops target old m k same e = e ∙ ap (λ n. take n target) same

-- bounds

level_bounds : (levels : List Fraction) → All IsFractionShape levels → (g : ℕ) → g ≤ length levels → ((level_at levels g).p ≤ℤ pos (2 ^ 73)) × ((level_at levels g).q ≤ℤ pos (2 ^ 46))
level_bounds levels all zero low = (omega (arith, ints), omega (arith, ints))
level_bounds levels all (suc j) low =
    let b = (All-get_or IsFractionShape levels j no_share (omega (arith, low)) all).bounds in
    (b.p_high, b.q_high)

product_high : (x y m n : ℤ) → pos 0 ≤ℤ x → pos 0 ≤ℤ n → x ≤ℤ m → y ≤ℤ n → (x *ℤ y) ≤ℤ (m *ℤ n)
product_high x y m n l k h t =
    let a = mul_most x y n l t in
    let b = mul_most n x m k h in
    omega (arith, ints, a, b, mul_comm x n, mul_comm m n)

cond_under : (b : Bool) (x n : ℤ) → pos 0 <ℤ n → x <ℤ n → cond b (pos 0) x <ℤ n
cond_under true x n h k = h
cond_under false x n h k = k

module _ (p : ShareProblem) (a : SharesAnswer) (b : IsBoundedSharing p) (shape : IsSharesShape p a) (some : HasFlow p a.levels a.groups) where
  abbrev g : ShareProblem
  g = group_problem p a.levels a.groups

  abbrev net : FlowNetwork
  net = group_net p a.levels a.groups

  fine : AreFine p a.levels a.groups
  fine = fine_levels p (answer_of a.levels a.groups some.flow) some.certified

  good : IsShareProblem g
  good = is_problem p a.levels a.groups b.problem fine

  net_proper : IsProper net
  net_proper = proper p (answer_of a.levels a.groups some.flow) b.problem some.certified

  there : length g.ends ≡ length p.ends
  there = ends_there p a.levels a.groups b.problem fine

  pub ends_full : length net.ends ≡ length p.ends + p.nodes
  ends_full = ends_many g one good ∙ ap (λ n. n + p.nodes) there

  pub capacities_many : length net.capacities ≡ length p.ends + p.nodes
  capacities_many = net_proper.full ∙ ends_full

  -- the arcs
  pub arc_there : (i t w : ℕ) → i < length p.ends → t ≡ tail_of p i → w ≡ (redirected p a.levels a.groups (tail_of p i, head_of p i)).1 → (t, w) ≡ get_or net.ends i (0, 0)
  arc_there i t w low e f =
      let same = there in
      let less : i < length g.ends = omega (arith, low, same) in
      ap (λ n. (n, w)) e ∙ ap (λ n. (tail_of p i, n)) f ∙ sym (flow_ends g one i good less ∙ end_is p a.levels a.groups b.problem fine i low)

  pub source_there : (n v : ℕ) → n ≡ p.nodes → v < p.nodes → (n, v) ≡ get_or net.ends (length p.ends + v) (0, 0)
  source_there n v e low = ap (λ k. (k, v)) e ∙ sym (source_ends g one v good low) ∙ ap (λ k. get_or net.ends (k + v) (0, 0)) there

  pub capacity_there : (i : ℕ) (x : ℤ) → i < length p.ends → x ≡ own_capacity p a.levels a.groups i → x ≡ get_or net.capacities i (pos 0)
  capacity_there i x low e =
      let same = there in
      let f = flow_capacity g one i good (omega (arith, low, same)) in
      let k = capacity_here p a.levels a.groups b.problem fine i low in
      omega (arith, ints, e, f, k)

  pub supply_there : (v : ℕ) (x : ℤ) → v < p.nodes → x ≡ supply p a.levels a.groups v → x ≡ get_or net.capacities (length p.ends + v) (pos 0)
  supply_there v x low e =
      let f = source_capacity g one v good low in
      let k = supply_here p a.levels a.groups b.problem fine v low in
      let n = ap (λ k. get_or net.capacities (k + v) (pos 0)) there in
      omega (arith, ints, e, f, k, n)

  -- what is left of each balance where no number is on any arc
  still_sum : (test : ℕ × ℕ → Bool) → IsStill a.flow → sum_where test p.ends a.flow ≡ pos 0
  still_sum test s = sum_nothing test p.ends a.flow (λ i h. s.each i)

  pub balance_is : (sums : List ℤ) (v : ℕ) → IsStill a.flow → AreBalances p a sums → v < p.nodes → at_arc sums v ≡ neg_ℤ (brought_in p a.levels a.groups v)
  balance_is sums v s k low =
      let e = k.each v low in
      let o = still_sum (λ arc. arc.0 == v) s in
      let n = still_sum (λ arc. (arc.1 == v) && not (is_lower a.levels a.groups arc.0 v)) s in
      omega (arith, ints, e, o, n)

  within : (v : ℕ) → v < p.nodes → group_at a.groups v ≤ length a.levels
  within v low = abs_of (at_arc a.groups v) (length a.levels) (shape.groups.low v low) (shape.groups.high v low)

  sum_high : (test : ℕ × ℕ → Bool) → sum_where test p.ends p.capacities ≤ℤ pos 10000000000000
  sum_high test =
      let few = b.few_arcs in
      let s = sum_most test p.ends p.capacities b.problem.capacities_full b.problem.capacity_low b.capacity_high in
      omega (arith, ints, s, few)

  pub brought_high : (v : ℕ) → v < p.nodes → brought_in p a.levels a.groups v <ℤ pos capacity_bound
  brought_high v low =
      let bounds = level_bounds a.levels shape.levels (group_at a.groups v) (within v low) in
      let own = product_high (node_level a.levels a.groups v).p (at_arc p.weights v) (pos (2 ^ 73)) (pos 1000000) (fine.low v low) (omega (arith, ints)) bounds.0 (b.weight_high v low) in
      let lower = sum_where (λ arc. (arc.1 == v) && is_lower a.levels a.groups arc.0 v) p.ends p.capacities in
      let least = sum_least (λ arc. (arc.1 == v) && is_lower a.levels a.groups arc.0 v) p.ends p.capacities b.problem.capacities_full b.problem.capacity_low in
      let more = product_high lower (node_level a.levels a.groups v).q (pos 10000000000000) (pos (2 ^ 46)) least (omega (arith, ints))
      (sum_high (λ arc. (arc.1 == v) && is_lower a.levels a.groups arc.0 v)) bounds.1 in
      omega (arith, ints, own, more)

  pub brought_least : (v : ℕ) → v < p.nodes → pos 0 ≤ℤ brought_in p a.levels a.groups v
  brought_least v low = brought_low p a.levels a.groups b.problem fine v low

  pub supply_from : (sums : List ℤ) (v s : ℕ) → IsStill a.flow → AreBalances p a sums → v < p.nodes → s ≡ p.sink →
      cond (v == s) (pos 0) (neg_ℤ (at_arc sums v)) ≡ supply p a.levels a.groups v
  supply_from sums v s quiet k low e =
      let is = balance_is sums v quiet k low in
      let turned : neg_ℤ (at_arc sums v) ≡ brought_in p a.levels a.groups v = omega (arith, ints, is) in
      ap (λ n. cond (v == n) (pos 0) (neg_ℤ (at_arc sums v))) e ∙ ap (λ n. cond (v == p.sink) (pos 0) n) turned

  whole_high : (i : ℕ) → i < length p.ends → (at_arc p.capacities i *ℤ (node_level a.levels a.groups (tail_of p i)).q) <ℤ pos capacity_bound
  whole_high i low =
      let t = b.problem.tails i low in
      let bounds = level_bounds a.levels shape.levels (group_at a.groups (tail_of p i)) (within (tail_of p i) t) in
      let most = product_high (at_arc p.capacities i) (node_level a.levels a.groups (tail_of p i)).q (pos 1000000000) (pos (2 ^ 46)) (b.problem.capacity_low i low) (omega (arith, ints))
      (b.capacity_high i low) bounds.1 in
      omega (arith, ints, most)

  net_bounded : (i : ℕ) → i < length net.ends → at_arc net.capacities i <ℤ pos capacity_bound
  net_bounded i low =
      let same = there in
      let all = arcs_full g good in
      let many = ends_many g one good in
      let H : ℕ → Type 0 = λ k. at_arc net.capacities k <ℤ pos capacity_bound in
      each_arc g H good
      (λ k less.
      let here : k < length p.ends = omega (arith, less, same) in
      let f = flow_capacity g one k good less in
      let e = capacity_here p a.levels a.groups b.problem fine k here in
      let most = cond_under (is_lower a.levels a.groups (head_of p k) (tail_of p k)) (at_arc p.capacities k *ℤ (node_level a.levels a.groups (tail_of p k)).q)
      (pos capacity_bound) (omega (arith, ints)) (whole_high k here) in
      omega (arith, ints, f, e, most))
      (λ v less.
      let f = source_capacity g one v good less in
      let e = supply_here p a.levels a.groups b.problem fine v less in
      let most = cond_under (v == p.sink) (brought_in p a.levels a.groups v) (pos capacity_bound) (omega (arith, ints)) (brought_high v less) in
      omega (arith, ints, f, e, most))
      i (omega (arith, low, all, many))

  pub caps_bounded : (frame : Digraph) (caps : List ℤ) → frame.ends ≡ net.ends → caps ≡ net.capacities → IsBounded frame caps
  caps_bounded frame caps e f =
      let P : List (ℕ × ℕ) → Type 0 = λ l. IsBounded (record { nodes = frame.nodes; ends = l }) caps in
      let Q : List ℤ → Type 0 = λ l. IsBounded (record { nodes = frame.nodes; ends = net.ends }) l in
      subst P (sym e) (subst Q (sym f) (record { full = net_proper.full; low = net_proper.low; high = net_bounded }))

  pub ends_graph : (n : ℕ) (ends : List (ℕ × ℕ)) → n ≡ p.nodes → ends ≡ net.ends → IsDigraph (record { nodes = n + 1; ends = ends })
  ends_graph n ends e f =
      let P : ℕ → Type 0 = λ k. IsDigraph (record { nodes = k; ends = ends }) in
      let Q : List (ℕ × ℕ) → Type 0 = λ l. IsDigraph (record { nodes = suc p.nodes; ends = l }) in
      subst P (sym (add-one n ∙ ap suc e)) (subst Q (sym f) (record { tails = net_proper.tails; heads = net_proper.heads }))

  pub few_ends : (ends : List (ℕ × ℕ)) → ends ≡ net.ends → length ends ≤ most_arcs
  few_ends ends e =
      let full = ends_full in
      let nodes = b.few_nodes in
      let arcs = b.few_arcs in
      let same = ap length e in
      omega (arith, full, nodes, arcs, same)

  -- the numbers on the arcs of the problem
  pub numbers_sized : (flow first : List ℤ) → IsGreatest net flow → first ≡ take (length p.ends) flow → All (IsWithinSize capacity_bound) first
  numbers_sized flow first best e =
      let certified = first_certifies p (answer_of a.levels a.groups some.flow) b.problem some.certified flow first best e in
      λ i d low.
      let full = certified.flow.full in
      let here : i < length p.ends = omega (arith, low, full) in
      let l = certified.flow.low i here in
      let m = certified.flow.high i here in
      let h = whole_high i here in
      let P : ℤ → Type 0 = λ n. IsWithinSize capacity_bound n in
      subst P (sym (get_or_default first i d (pos 0) low)) (record { low = omega (arith, ints, l); high = omega (arith, ints, m, h) })
