use Rattle.std.proofs.Common.{◌≡◌, to_z, of_z, arith, ap, sym, ◌∙◌, subst}
use Rattle.std.specs.Prelude.{◌+ℤ◌, ◌-ℤ◌, ◌*ℤ◌, pos}
use Rattle.std.proofs.lemmas.Bool.{eqb-true}
use Rattle.std.proofs.lemmas.Int.{ints}
use Rattle.pf_model.specs.Digraph.{Digraph}
use Rattle.pf_model.specs.Line.{AffineLine, value_at}
use Rattle.pf_graph.specs.WeightedGraph.{total}
use Rattle.pf_graph.specs.Labels.{parts}
use Rattle.pf_graph.specs.Best.{crossing_of}
use Rattle.pf_graph.proofs.Counting.{parts_most}
use Rattle.pf_frame.specs.Numbers.{IsBounded}
use Rattle.pf_forest.proofs.Bounds.{crossing_small, range_bounded}
use Rattle.pf_forest.proofs.Standing.{total_here}
use Rattle.pf_forest.proofs.meets.has_total.Goals as goal
use mir.Syntax.{w128}

pub new-requires : goal.new-requires
new-requires c =
    let small = crossing_small c.args.graph.now c.args.partition.now c.frame-frame.ensures.limits in
    let low = small.low in
    let high = small.high in
    let crossing = c.crossing.ensures in
    let some = parts_most c.args.partition.now in
    let all = c.requires.partition in
    let few = c.frame-frame.ensures.limits.nodes in
    let count = c.parts-parts.ensures in
    let vertices = c.vertices.ensures.value in
    let first = c.from.ensures in
    let second = c.from-2.ensures in
    record {
      a_low = omega (arith, ints, low, high, crossing);
      a_high = omega (arith, ints, low, high, crossing);
      b_low = omega (arith, ints, some, all, few, count, vertices, first, second);
      b_high = omega (arith, ints, some, all, few, count, vertices, first, second);
    }

pub sum_up-requires : goal.sum_up-requires
sum_up-requires c =
    let b = c.q-q.ensures.bounds in
    let P : Digraph → Type 0 = λ g. IsBounded g c.args.vector.now in
    subst P (sym c.frame-frame.ensures.frame)
    (range_bounded c.args.graph.now c.args.level.now c.args.vector.now c.frame-frame.ensures.limits b.parameter b.q_high c.requires.vector)

pub returns : goal.returns
returns c =
    let g = c.args.graph.now in
    let x = c.args.level.now in
    let labels = c.args.partition.now in
    let small = crossing_small c.args.graph.now c.args.partition.now c.frame-frame.ensures.limits in
    let low = small.low in
    let high = small.high in
    let crossing = c.crossing.ensures in
    let some = parts_most c.args.partition.now in
    let all = c.requires.partition in
    let few = c.frame-frame.ensures.limits.nodes in
    let count = c.parts-parts.ensures in
    let vertices = c.vertices.ensures.value in
    let first = c.from.ensures in
    let second = c.from-2.ensures in
    let a : to_z w128 (of_z w128 c.crossing.result) ≡ crossing_of c.args.graph.now c.args.partition.now = omega (arith, ints, low, high, crossing) in
    let b : to_z w128 (of_z w128 (to_z w128 (of_z w128 c.from.result) -ℤ to_z w128 (of_z w128 c.from-2.result)))
    ≡ pos c.args.graph.now.nodes -ℤ pos (parts c.args.partition.now) = omega (arith, ints, some, all, few, count, vertices, first, second) in
    let most : c.at-most.result ≡ (c.args.level.now.q *ℤ crossing_of c.args.graph.now c.args.partition.now)
    +ℤ (c.args.level.now.p *ℤ (pos c.args.graph.now.nodes -ℤ pos (parts c.args.partition.now))) =
    c.at-most.ensures ∙ ap (λ (l : AffineLine). value_at l c.args.level.now) c.new.ensures ∙ total_here _ _ _ _ c.args.level.now.q c.args.level.now.p a b in
    let sum : c.sum_up.result ≡ total c.args.graph.now.ends c.args.vector.now =
    c.sum_up.ensures ∙ ap (λ (h : Digraph). total h.ends c.args.vector.now) c.frame-frame.ensures.frame in (
      λ told.
          let seen : of_z w128 c.sum_up.result ≡ of_z w128 c.at-most.result = eqb-true _ _ told in
          let same : c.sum_up.result ≡ c.at-most.result = omega (arith, ints, seen) in
          record { total_is = sym sum ∙ same ∙ most },
      λ m. let same : c.sum_up.result ≡ c.at-most.result = sum ∙ m.total_is ∙ sym most in grind (arith, ints),
    )
