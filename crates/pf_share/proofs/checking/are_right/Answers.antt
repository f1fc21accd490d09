use Rattle.std.proofs.Common.{refl, below_more}
use Rattle.pf_model.specs.Cut.{at_arc}
use Rattle.pf_share.specs.Problem.{tail_of, head_of}
use Rattle.pf_share.specs.Certificate.{is_lower}
use Rattle.pf_share.specs.Tests.{IsRight, whole_of}
use Rattle.pf_share.proofs.checking.are_right.Goals as goal

pub arcs-preserved : goal.arcs-preserved
arcs-preserved c =
    let p = c.args.sharing.now in
    let a = c.args.answer.now in
    record {
      each = below_more (λ i. IsRight (at_arc a.flow i) (whole_of p a i (tail_of p i)) (is_lower a.levels a.groups (tail_of p i) (head_of p i))
          (is_lower a.levels a.groups (head_of p i) (tail_of p i))) c.arcs.i c.arcs.invariant.each (c.if-not-is_arc_right.ensures.0 refl);
    }
