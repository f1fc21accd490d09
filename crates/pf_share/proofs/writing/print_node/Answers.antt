use Rattle.std.proofs.Common.{◌≡◌, arith}
use Rattle.std.specs.Prelude.{nat_abs}
use Rattle.std.proofs.lemmas.Int.{ints}
use Rattle.pf_model.specs.Cut.{at_arc}
use Rattle.pf_io.proofs.PrintingLemmas.{adds_nothing}
use Rattle.pf_share.proofs.ShareLines.{no_source}
use Rattle.pf_share.proofs.writing.print_node.Goals as goal

pub returns-then-weight-eq0 : goal.returns-then-weight-eq0
returns-then-weight-eq0 g c =
    let a = c.args.answer.now in
    let w = at_arc c.args.sharing.now.weights c.args.v in
    let none : nat_abs w ≡ 0 = omega (arith, ints, c.weight-weight.ensures.value, c.if-weight-eq0.true) in
    rw (no_source a.levels c.args.v w (at_arc a.groups c.args.v) none) (adds_nothing c.args.out.now c.requires.usable)
