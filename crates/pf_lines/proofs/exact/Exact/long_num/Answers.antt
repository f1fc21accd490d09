use Rattle.std.proofs.Common.{◌≡◌, ◌++◌, List, ℕ, true, false, Some, sym, ap, ◌∙◌}
use Rattle.std.specs.Prelude.{FitsSigned}
use Rattle.std.specs.Int.{w128}
use Rattle.std.proofs.lemmas.Int.{to_z-of_z}
use Rattle.pf_text.specs.Numbers.{number_front, whole_of}
use Rattle.pf_text.proofs.NumbersLemmas.{whole_of-signed_decimal}
use Rattle.pf_lines.specs.Values.{is_canonical}
use Rattle.pf_lines.proofs.ValueLemmas.{in_range, not_refused}
use Rattle.pf_lines.proofs.SpellingLemmas.{small_between, fits_between, canonical_decimal, canonical_spelling}
use Rattle.pf_lines.proofs.exact.Exact.long_num.Goals as goal

pub returns-then-not-is_canonical-clause-none : goal.returns-then-not-is_canonical-clause-none
returns-then-not-is_canonical-clause-none c = λ n low high e.
    let spelled = c.split_number.ensures.front ∙ ap number_front c.self.view_is ∙ e in
    let canonical : is_canonical c.split_number.result.0.now ≡ true = ap is_canonical spelled ∙ canonical_decimal n (small_between c.args.min c.args.max n c.ranges.min c.ranges.max low high) in
    let contrary : is_canonical c.split_number.result.0.now ≡ false = sym c.is_canonical.ensures ∙ c.if-not-is_canonical.true in
    absurd cc

pub returns-in_default-clause-none : goal.returns-in_default-clause-none
returns-in_default-clause-none c = λ n low high e.
    let spelled = c.split_number.ensures.front ∙ ap number_front c.self.view_is ∙ e in
    let value : whole_of c.split_number.result.0.now ≡ Some n = ap whole_of spelled ∙ whole_of-signed_decimal n (small_between c.args.min c.args.max n c.ranges.min c.ranges.max low high) in
    let refused = rw (to_z-of_z w128 c.args.min c.ranges.min, to_z-of_z w128 c.args.max c.ranges.max, value) at c.in_default.ensures in
    not_refused c.args.min c.args.max n c.in_default.field-0 refused low high

pub returns-clause-front : goal.returns-clause-front
returns-clause-front c =
    let n = c.in-Ok.number in
    let told = rw (to_z-of_z w128 c.args.min c.ranges.min, to_z-of_z w128 c.args.max c.ranges.max) at c.in-Ok.ensures in
    let value = in_range c.args.min c.args.max (whole_of c.split_number.result.0.now) n told in
    let few = small_between c.args.min c.args.max n c.ranges.min c.ranges.max value.1 value.2 in
    let same : FitsSigned w128 n = fits_between c.args.min c.args.max n c.ranges.min c.ranges.max value.1 value.2 in
    let canonical : is_canonical c.split_number.result.0.now ≡ true = sym c.is_canonical.ensures ∙ c.if-not-is_canonical.false in
    let spelled = canonical_spelling c.split_number.result.0.now n value.0 canonical few in
    rw (to_z-of_z w128 n same) (ap number_front (sym c.self.view_is) ∙ sym c.split_number.ensures.front ∙ spelled)

pub returns-clause-taken : goal.returns-clause-taken
returns-clause-taken c =
    let n = c.in-Ok.number in
    let told = rw (to_z-of_z w128 c.args.min c.ranges.min, to_z-of_z w128 c.args.max c.ranges.max) at c.in-Ok.ensures in
    let value = in_range c.args.min c.args.max (whole_of c.split_number.result.0.now) n told in
    let few = small_between c.args.min c.args.max n c.ranges.min c.ranges.max value.1 value.2 in
    let same : FitsSigned w128 n = fits_between c.args.min c.args.max n c.ranges.min c.ranges.max value.1 value.2 in
    let canonical : is_canonical c.split_number.result.0.now ≡ true = sym c.is_canonical.ensures ∙ c.if-not-is_canonical.false in
    let spelled = canonical_spelling c.split_number.result.0.now n value.0 canonical few in
    rw (to_z-of_z w128 n same) (sym c.self.view_is ∙ c.split_number.ensures.whole ∙ ap (λ (front : List ℕ). front ++ c.split_number.result.1.now) spelled)
