use Rattle.std.proofs.Common.{◌≡◌, refl, rules}
use Rattle.std.proofs.lemmas.Int.{to_z-of_z}
use Rattle.std.specs.Int.{w64, w128}
use mir.Val.{SFits}
use Rattle.pf_io.proofs.PrintingLemmas.{Adds-kept}
use Rattle.pf_io.proofs.printer.Printer.field.Goals as goal

pub returns-in-Ok : goal.returns-in-Ok
returns-in-Ok g c =
    let wide : SFits w128 c.args.value = search rules in
    let fits : SFits w64 c.args.value = rw (to_z-of_z w128 c.args.value wide) at c.in-Ok.ensures.0 in
    let same : c.in-Ok.small ≡ c.args.value = rw (to_z-of_z w128 c.args.value wide) at c.in-Ok.ensures.1 in
    Adds-kept c.args.self.now _ _ refl (rw (same, to_z-of_z w64 c.args.value fits) at c.put_field-self.ensures.text) c.requires
