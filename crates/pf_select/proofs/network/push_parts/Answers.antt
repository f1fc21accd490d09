use Rattle.std.proofs.Common.{refl}
use Rattle.pf_select.proofs.ArcLemmas.{pushed_part}
use Rattle.pf_select.proofs.network.push_parts.Goals as goal

pub parts-preserved : goal.parts-preserved
parts-preserved c = pushed_part c.args.costs.now c.parts.i _ _ _ c.part_arc.result c.parts-test.true refl c.parts.invariant c.in_ok-push.ensures.items c.part_arc.ensures
