use Rattle.std.proofs.Common.{◌≡◌, ◌++◌}
use Rattle.std.specs.Prelude.{FitsSigned}
use Rattle.std.specs.Int.{w128}
use Rattle.std.specs.Fmt.{signed_decimal}
use Rattle.std.proofs.lemmas.Int.{to_z-of_z}
use Rattle.pf_lines.proofs.SpellingLemmas.{small_between, fits_between}
use Rattle.pf_lines.proofs.TakingLemmas.{number_is, number_not_refused}
use Rattle.pf_lines.proofs.taking.take_number.Goals as goal

pub returns-in-Some-clause-found : goal.returns-in-Some-clause-found
returns-in-Some-clause-found c = λ n rest low high stops e.
    let m = c.in-Some.number in
    let range = rw (to_z-of_z w128 c.args.min c.ranges.min, to_z-of_z w128 c.args.max c.ranges.max) at c.in-Some.ensures.range in
    let at : c.take_word.new.text ≡ signed_decimal n ++ rest = c.in_ok-take_word.ensures.found (signed_decimal n ++ rest) e in
    let same : FitsSigned w128 m = fits_between c.args.min c.args.max m c.ranges.min c.ranges.max range.0 range.1 in
    let few_m = small_between c.args.min c.args.max m c.ranges.min c.ranges.max range.0 range.1 in
    let few_n = small_between c.args.min c.args.max n c.ranges.min c.ranges.max low high in
    let given = number_is m n c.take_word.new.text c.num.new.self rest few_m few_n c.in-Some.ensures.front c.in-Some.ensures.taken stops at in
    rw (to_z-of_z w128 m same) (given.value, given.left)

pub returns-in-None-clause-found : goal.returns-in-None-clause-found
returns-in-None-clause-found c = λ n rest low high stops e.
    let none = rw (to_z-of_z w128 c.args.min c.ranges.min, to_z-of_z w128 c.args.max c.ranges.max) at c.in-None.ensures.none in
    let at : c.take_word.new.text ≡ signed_decimal n ++ rest = c.in_ok-take_word.ensures.found (signed_decimal n ++ rest) e in
    number_not_refused n c.take_word.new.text rest (small_between c.args.min c.args.max n c.ranges.min c.ranges.max low high) (none n low high) stops at
