use Rattle.std.proofs.Common.{◌+◌, arith, sym, refl}
use Rattle.pf_preflow.proofs.Scan.{few, few_before, item, residual_from}
use Rattle.pf_preflow.proofs.residual.admissible_in.Goals as goal

pub far_end_of-w-requires : goal.far_end_of-w-requires
far_end_of-w-requires c = (item c.args.net.frame.now c.args.v c.arcs.k _ c.args.back c.arcs_at-arcs.ensures c.arcs-test.true).in_range

pub is_residual-requires-clause-caps : goal.is_residual-requires-clause-caps
is_residual-requires-clause-caps c =
    let n = item c.args.net.frame.now c.args.v c.arcs.k _ c.args.back c.arcs_at-arcs.ensures c.arcs-test.true in omega (arith, n.in_range)

pub is_residual-requires-clause-flow : goal.is_residual-requires-clause-flow
is_residual-requires-clause-flow c =
    let n = item c.args.net.frame.now c.args.v c.arcs.k _ c.args.back c.arcs_at-arcs.ensures c.arcs-test.true in omega (arith, n.in_range)

pub overflow_add-result : goal.overflow_add-result
overflow_add-result c =
    omega (arith, few c.args.net.frame.now c.args.v _ c.args.back c.arcs_at-arcs.ensures, few_before c.args.net.frame.now c.args.v _ c.args.back c.places_before-before.ensures)

pub overflow_cast-result : goal.overflow_cast-result
overflow_cast-result c =
    omega (arith, few c.args.net.frame.now c.args.v _ c.args.back c.arcs_at-arcs.ensures, few_before c.args.net.frame.now c.args.v _ c.args.back c.places_before-before.ensures)

pub returns-then-is_residual : goal.returns-then-is_residual
returns-then-is_residual c = record {
  from = residual_from c.args.net.frame.now c.args.net.caps.now c.args.flow.now c.args.net.source c.args.net.sink c.args.v c.far_end_of-w.result _ (c.places_before-before.result + c.arcs.k) c.args.back
      (item c.args.net.frame.now c.args.v c.arcs.k _ c.args.back c.arcs_at-arcs.ensures c.arcs-test.true) c.far_end_of-w.ensures.value c.far_end_of-w.ensures.node (c.if-is_residual.ensures.0 refl);
  down = sym c.if-labels-w.true;
}
