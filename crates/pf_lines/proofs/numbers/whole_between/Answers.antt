use Rattle.std.proofs.Common.{sym, ap, ◌∙◌}
use Rattle.std.specs.Option.{option_map}
use Rattle.std.specs.Int.{w128}
use Rattle.std.proofs.lemmas.Int.{to_z-of_z}
use Rattle.pf_lines.specs.Values.{within_range, signed}
use Rattle.pf_lines.proofs.ValueLemmas.{whole_by_sign, no_value, some_value}
use Rattle.pf_text.specs.Numbers.{natural_of}
use Rattle.pf_lines.proofs.numbers.whole_between.Goals as goal

pub returns-in-None : goal.returns-in-None
returns-in-None c =
    let sign = c.split_sign-negative in
    let none = no_value (natural_of sign.result.1.now) c.in-None.ensures in
    let value = whole_by_sign c.args.field.now sign.result.1.now sign.result.0 sign.ensures ∙ ap (option_map (signed sign.result.0)) none in
    sym (ap (within_range c.args.min c.args.max) value)

pub returns-in-Some : goal.returns-in-Some
returns-in-Some c =
    let sign = c.split_sign-negative in
    let some = some_value (natural_of sign.result.1.now) c.in-Some.size c.in-Some.ensures in
    let value = whole_by_sign c.args.field.now sign.result.1.now sign.result.0 sign.ensures ∙ ap (option_map (signed sign.result.0)) some.1 in
    let judged = rw (to_z-of_z w128 c.args.min c.ranges.min, to_z-of_z w128 c.args.max c.ranges.max) at (c.number_of_size.ensures some.0 some.2) in
    judged ∙ sym (ap (within_range c.args.min c.args.max) value)
