use Rattle.std.proofs.Common.{◌+◌, ℕ, arith, refl, subst}
use Rattle.pf_preflow.specs.Network.{flow_network}
use Rattle.pf_preflow.specs.Residual.{HasNoneLower}
use Rattle.pf_preflow.proofs.Scan.{few, few_before, item, best_starts, best_next, lowest_at, among_skip, among_take, among_all}
use Rattle.pf_preflow.proofs.residual.lowest_in.Goals as goal
use Rattle.pf_preflow.proofs.residual.lowest_in.Goals.{then-is_residual, else-is_residual}

pub arcs-init : goal.arcs-init
arcs-init c = record {
  most = omega arith;
  best = best_starts c.args.net.frame.now c.args.net.caps.now c.args.flow.now c.args.labels.now c.args.v c.args.back _ c.args.first.label _ (omega arith);
  seen = λ k low. absurd (omega (arith, low));
}

pub is_residual-requires-clause-caps : goal.is_residual-requires-clause-caps
is_residual-requires-clause-caps c =
    let n = item c.args.net.frame.now c.args.v c.arcs.k _ c.args.back c.arcs_at-arcs.ensures c.arcs-test.true in omega (arith, n.in_range)

pub is_residual-requires-clause-flow : goal.is_residual-requires-clause-flow
is_residual-requires-clause-flow c =
    let n = item c.args.net.frame.now c.args.v c.arcs.k _ c.args.back c.arcs_at-arcs.ensures c.arcs-test.true in omega (arith, n.in_range)

pub far_end_of-w-requires : goal.far_end_of-w-requires
far_end_of-w-requires c = (item c.args.net.frame.now c.args.v c.arcs.k _ c.args.back c.arcs_at-arcs.ensures c.arcs-test.true).in_range

pub far_end_of-requires : goal.far_end_of-requires
far_end_of-requires c = (item c.args.net.frame.now c.args.v c.arcs.best.place _ c.args.back c.arcs_at-arcs.ensures (omega arith)).in_range

pub overflow_add-result : goal.overflow_add-result
overflow_add-result c =
    omega (arith, few c.args.net.frame.now c.args.v _ c.args.back c.arcs_at-arcs.ensures, few_before c.args.net.frame.now c.args.v _ c.args.back c.places_before-before.ensures)

pub overflow_cast-result : goal.overflow_cast-result
overflow_cast-result c =
    omega (arith, few c.args.net.frame.now c.args.v _ c.args.back c.arcs_at-arcs.ensures, few_before c.args.net.frame.now c.args.v _ c.args.back c.places_before-before.ensures)

pub arcs-preserved : goal.arcs-preserved
arcs-preserved c =
    let g = c.args.net.frame.now in
    let caps = c.args.net.caps.now in
    let flow = c.args.flow.now in
    let labels = c.args.labels.now in
    let v = c.args.v in
    let back = c.args.back in
    let so_far = c.arcs.invariant in
    elim c.if-is_residual.branch [
      | then-is_residual w ↦
          let made = w.lower-best.ensures in
          let less = made.most in
          let most = so_far.most in
          record {
            most = rw w.best-is (omega (arith, less, most));
            best = rw w.best-is (best_next g caps flow labels v back _ c.args.first.label w.far_end_of-w.result c.arcs.k c.arcs.best w.lower-best.result so_far.best c.arcs-test.true
                w.far_end_of-w.ensures.value (w.if-is_residual.ensures.0 refl) made.either);
            seen = rw w.best-is (among_take g caps flow labels v back w.far_end_of-w.result c.arcs.best.label w.lower-best.result.label _ c.arcs.k so_far.seen made.most w.far_end_of-w.ensures.value made.least);
          }
      | else-is_residual w ↦
          record {
            most = rw w.best-is so_far.most;
            best = rw w.best-is so_far.best;
            seen = rw w.best-is (among_skip g caps flow labels v back c.arcs.best.label _ c.arcs.k so_far.seen (λ some. let e = w.if-is_residual.ensures.1 some in absurd cc));
          }
    ]

pub returns-then-count-place-clause-none_lower : goal.returns-then-count-place-clause-none_lower
returns-then-count-place-clause-none_lower c =
    let P : ℕ → Type 0 = λ label. HasNoneLower (flow_network c.args.net) c.args.flow.now c.args.labels.now c.args.v c.args.back label in
    subst P (c.arcs.invariant.best.none (omega (arith, c.if-count-place.true)))
    (among_all c.args.net.frame.now c.args.net.caps.now c.args.flow.now c.args.labels.now c.args.net.source c.args.net.sink c.args.v c.args.back c.arcs.best.label c.arcs_at-arcs.result.now c.arcs.k
    c.arcs.invariant.seen c.arcs_at-arcs.ensures c.arcs-test.false)

pub returns-then-count-place-clause-found : goal.returns-then-count-place-clause-found
returns-then-count-place-clause-found c = c.requires.first

pub returns-clause-most : goal.returns-clause-most
returns-clause-most c = c.arcs.invariant.most

pub returns-clause-none_lower : goal.returns-clause-none_lower
returns-clause-none_lower c =
    among_all c.args.net.frame.now c.args.net.caps.now c.args.flow.now c.args.labels.now c.args.net.source c.args.net.sink c.args.v c.args.back c.arcs.best.label c.arcs_at-arcs.result.now c.arcs.k
    c.arcs.invariant.seen c.arcs_at-arcs.ensures c.arcs-test.false

pub returns-clause-found : goal.returns-clause-found
returns-clause-found c _ =
    lowest_at c.args.net.frame.now c.args.net.caps.now c.args.flow.now c.args.labels.now c.args.net.source c.args.net.sink c.args.v c.args.back c.arcs_at-arcs.result.now c.args.first.label
    c.arcs.best.label c.arcs.best.place c.far_end_of.result (c.places_before-before.result + c.arcs.best.place)
    (item c.args.net.frame.now c.args.v c.arcs.best.place _ c.args.back c.arcs_at-arcs.ensures (omega arith)) c.arcs.invariant.best (omega arith) c.far_end_of.ensures.value c.far_end_of.ensures.node
