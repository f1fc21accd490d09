use Rattle.std.proofs.Common.{rules}
use Rattle.std.proofs.lemmas.Int.{to_z-of_z}
use Rattle.std.specs.Int.{w128}
use mir.Val.{SFits}
use Rattle.pf_select.proofs.writing.print_price.Goals as goal

pub returns : goal.returns
returns g c =
    let fits : SFits w128 c.worth_at-value.result = search rules in
    rw (to_z-of_z w128 c.worth_at-value.result fits, c.worth_at-value.ensures) at c.print_fraction_row.ensures
