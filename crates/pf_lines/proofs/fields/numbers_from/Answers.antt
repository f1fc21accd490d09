use Rattle.std.proofs.Common.{◌≢◌, length, map, drop, refl, arith, length-drop}
use Rattle.std.proofs.lemmas.List.{length-map}
use Rattle.pf_text.proofs.KindsLemmas.{numbers_by_count}
use Rattle.pf_lines.specs.Patterns.{pattern_of}
use Rattle.pf_lines.proofs.fields.numbers_from.Goals as goal

pub returns-then-count-from : goal.returns-then-count-from
returns-then-count-from c =
    let patterns = c.args.patterns.now in
    let fields = c.args.line.now.fields in
    let differ : length (drop c.args.from fields) ≢ length (map pattern_of patterns) =
    (λ e. absurd (omega (arith, c.count.ensures, c.if-count-from.true, length-drop c.args.from fields, length-map patterns pattern_of, e))) in
    rw (numbers_by_count (map pattern_of patterns) (drop c.args.from fields) differ) refl
