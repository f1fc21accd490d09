use Rattle.std.proofs.Common.{◌++◌, List, ℕ, refl, sym, ap, ◌∙◌}
use Rattle.std.specs.Prelude.{FitsSigned}
use Rattle.std.specs.Int.{w128}
use Rattle.std.proofs.lemmas.Int.{to_z-of_z}
use Rattle.pf_text.specs.Numbers.{number_front}
use Rattle.pf_lines.proofs.SpellingLemmas.{small_between, fits_between, canonical_spelling}
use Rattle.pf_lines.proofs.exact.Exact.num.Goals as goal

pub returns-then-is_taken-clause-front : goal.returns-then-is_taken-clause-front
returns-then-is_taken-clause-front c =
    let n = c.in-Some.front.number in
    let front = c.in-Some.ensures in
    let low = rw (to_z-of_z w128 c.args.min c.ranges.min) at (c.if-is_taken.ensures.low refl) in
    let high = rw (to_z-of_z w128 c.args.max c.ranges.max) at (c.if-is_taken.ensures.high refl) in
    let few = small_between c.args.min c.args.max n c.ranges.min c.ranges.max low high in
    let same : FitsSigned w128 n = fits_between c.args.min c.args.max n c.ranges.min c.ranges.max low high in
    let spelled = canonical_spelling c.in-Some.front.bytes.now n front.value (c.if-is_taken.ensures.canonical refl) few in
    rw (to_z-of_z w128 n same) (ap number_front (sym c.self.view_is) ∙ sym front.front ∙ spelled)

pub returns-then-is_taken-clause-taken : goal.returns-then-is_taken-clause-taken
returns-then-is_taken-clause-taken c =
    let n = c.in-Some.front.number in
    let front = c.in-Some.ensures in
    let low = rw (to_z-of_z w128 c.args.min c.ranges.min) at (c.if-is_taken.ensures.low refl) in
    let high = rw (to_z-of_z w128 c.args.max c.ranges.max) at (c.if-is_taken.ensures.high refl) in
    let few = small_between c.args.min c.args.max n c.ranges.min c.ranges.max low high in
    let same : FitsSigned w128 n = fits_between c.args.min c.args.max n c.ranges.min c.ranges.max low high in
    let spelled = canonical_spelling c.in-Some.front.bytes.now n front.value (c.if-is_taken.ensures.canonical refl) few in
    rw (to_z-of_z w128 n same) (sym c.self.view_is ∙ front.whole ∙ ap (λ (bytes : List ℕ). bytes ++ c.in-Some.front.rest.now) spelled)
