use Rattle.std.proofs.Common.{◌≡◌, arith}
use Rattle.std.proofs.lemmas.Int.{ints}
use Rattle.std.specs.Prelude.{pos}
use Rattle.std.specs.Int.{w128}
use mir.Val.{to_z}
use Rattle.pf_io.proofs.printing.print_index.Goals as goal

pub returns : goal.returns
returns g c =
    let same : to_z w128 c.args.index ≡ pos c.args.index = omega (arith, ints) in
    rw same at c.field.ensures
