use Rattle.std.proofs.Common.{◌≡◌, ◌≢◌, suc, ◌+◌, ◌<◌, length, arith, ap, inl, inr, to_z, of_z, ◌∙◌, get_or-set_same, get_or-set_other}
use Rattle.std.specs.Prelude.{◌+ℤ◌, ◌-ℤ◌, ◌*ℤ◌}
use Rattle.std.proofs.lemmas.Int.{ints}
use Rattle.std.proofs.lemmas.Bool.{cases_eq}
use Rattle.std.proofs.lemmas.List.{length-set}
use Rattle.pf_model.specs.Cut.{at_arc}
use Rattle.pf_dense.proofs.FlowCharges.{flow_length, along_of}
use Rattle.pf_dense.proofs.DensityLemmas.{written}
use Rattle.pf_dense.proofs.newton.write_charges.Goals as goal

pub bounds-flow-place : goal.bounds-flow-place
bounds-flow-place c =
    let l = flow_length c.args.graph.now c.args.at.now c.args.flow.now c.vertices-count.ensures.limits.graph c.requires.flow in
    omega (arith, l, c.vertices-count.ensures.value, c.requires.places, c.edges-test.true)

pub bounds-flow-place-in-edges : goal.bounds-flow-place-in-edges
bounds-flow-place-in-edges c =
    let l = flow_length c.args.graph.now c.args.at.now c.args.flow.now c.vertices-count.ensures.limits.graph c.requires.flow in
    omega (arith, l, c.vertices-count.ensures.value, c.requires.places, c.edges-test.true)

pub carried_charge-requires-clause-along_high : goal.carried_charge-requires-clause-along_high
carried_charge-requires-clause-along_high c =
    let g = c.args.graph.now in
    let i = c.edges.i in
    let a = along_of g c.args.at.now c.args.flow.now c.vertices-count.ensures.limits.graph c.requires.flow i (omega (arith, c.requires.places, c.edges-test.true)) in
    let l = a.along_low in
    let h = a.along_high in
    let first = ap (λ k. at_arc c.args.flow.now (k + k + (i + i))) c.vertices-count.ensures.value in
    let half = c.half_charge-half.ensures.value ∙ ap (λ k. c.args.at.now.q *ℤ k) c.edge-weight.ensures.weight in
    let most = c.half_charge-half.ensures.high in
    omega (arith, ints, l, h, first, half, most)

pub carried_charge-requires-clause-back_high : goal.carried_charge-requires-clause-back_high
carried_charge-requires-clause-back_high c =
    let g = c.args.graph.now in
    let i = c.edges.i in
    let a = along_of g c.args.at.now c.args.flow.now c.vertices-count.ensures.limits.graph c.requires.flow i (omega (arith, c.requires.places, c.edges-test.true)) in
    let l = a.back_low in
    let h = a.back_high in
    let n = c.vertices-count.ensures.value in
    let place : c.vertices-count.result + c.vertices-count.result + (i + i) + 1 ≡ g.nodes + g.nodes + suc (i + i) = omega (arith, n) in
    let second = ap (at_arc c.args.flow.now) place in
    let half = c.half_charge-half.ensures.value ∙ ap (λ k. c.args.at.now.q *ℤ k) c.edge-weight.ensures.weight in
    let most = c.half_charge-half.ensures.high in
    omega (arith, ints, l, h, second, half, most)

pub edges-preserved : goal.edges-preserved
edges-preserved c =
    let g = c.args.graph.now in
    let i = c.edges.i in
    let flow = c.args.flow.now in
    let a = along_of g c.args.at.now flow c.vertices-count.ensures.limits.graph c.requires.flow i (omega (arith, c.requires.places, c.edges-test.true)) in
    let n = c.vertices-count.ensures.value in
    let place : c.vertices-count.result + c.vertices-count.result + (i + i) + 1 ≡ g.nodes + g.nodes + suc (i + i) = omega (arith, n) in
    let first = ap (λ k. at_arc flow (k + k + (i + i))) n in
    let second = ap (at_arc flow) place in
    let half = c.half_charge-half.ensures.value ∙ ap (λ k. c.args.at.now.q *ℤ k) c.edge-weight.ensures.weight in
    let al = a.along_low in
    let ah = a.along_high in
    let bl = a.back_low in
    let bh = a.back_high in
    let told = written c.carried_charge.result c.half_charge-half.result (at_arc flow (c.vertices-count.result + c.vertices-count.result + (i + i)))
    (at_arc flow (c.vertices-count.result + c.vertices-count.result + (i + i) + 1)) c.args.at.now.q (at_arc g.weights i) c.carried_charge.ensures half c.half_charge-half.ensures.low
    c.half_charge-half.ensures.high (omega (arith, ints, al, first)) (omega (arith, ints, ah, first)) (omega (arith, ints, bl, second)) (omega (arith, ints, bh, second)) in
    let here : to_z mir.Syntax.w128 (of_z mir.Syntax.w128 c.carried_charge.result)
    ≡ ((c.args.at.now.q *ℤ at_arc g.weights i) +ℤ at_arc flow (g.nodes + g.nodes + (i + i))) -ℤ at_arc flow (g.nodes + g.nodes + suc (i + i)) =
    omega (arith, ints, told, first, second) in
    let there : c.edges.i < length c.edges.charges = omega (arith, c.edges.invariant.full, c.edges-test.true) in
    record {
      full = length-set c.edges.charges c.edges.i _ ∙ c.edges.invariant.full;
      each = λ k less. elim (cases_eq k c.edges.i) [
        | inl same ↦ rw (same, get_or-set_same) here
        | inr other ↦ (let ne : k ≢ c.edges.i = other in rw get_or-set_other (c.edges.invariant.each k (omega (arith, less, other))))
      ];
    }

pub returns : goal.returns
returns c = record {
  full = c.edges.invariant.full ∙ c.requires.places;
  each = λ k less. c.edges.invariant.each k (omega (arith, less, c.requires.places, c.edges-test.false));
}
