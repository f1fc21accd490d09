use Rattle.std.proofs.Common.{rules}
use Rattle.std.proofs.lemmas.Int.{to_z-of_z}
use Rattle.std.specs.Int.{w128}
use mir.Val.{SFits}
use Rattle.pf_io.proofs.printing.print_number.Goals as goal

pub returns : goal.returns
returns g c =
    let fits : SFits w128 c.args.number.now = search rules in
    rw (to_z-of_z w128 c.args.number.now fits) at c.field.ensures
