use Rattle.std.proofs.Common.{◌≡◌, ◌<◌, ◌≤◌, length, [], drop, arith, ◌∙◌}
use Rattle.std.proofs.lemmas.List.{at_drop_all, get_or_default}
use Rattle.std.proofs.lemmas.Result.{err_from_is_err_and}
use Rattle.pf_graph.specs.Best.{partition_at}
use Rattle.pf_io.proofs.PrintedLemmas.{printed_begin, printed_more, printed_stopped, printed_end}
use Rattle.pf_reinforce.specs.Text.{thresholds_text}
use Rattle.pf_reinforce.proofs.Printed.{thresholds_text_at}
use Rattle.pf_reinforce.proofs.text.print_thresholds.Goals as goal

pub thresholds-init : goal.thresholds-init
thresholds-init g c = printed_begin c.args.out.now _ c.requires.usable

pub thresholds-preserved : goal.thresholds-preserved
thresholds-preserved g c =
    let count = c.requires.count in
    let low : c.thresholds.j < length c.args.thresholds.now = omega arith in
    let here : c.index-parts-j.result ≡ partition_at c.args.parts.now c.thresholds.j =
    c.index-parts-j.is ∙ get_or_default c.args.parts.now c.thresholds.j c.index-parts-j.result [] (omega (arith, count, low)) in
    printed_more c.thresholds.invariant (thresholds_text_at c.args.thresholds.now c.args.parts.now c.thresholds.j low count)
    (rw (c.labels-labels.ensures.value, here) at c.in_ok-print_threshold.ensures)

pub returns-in_err-print_threshold : goal.returns-in_err-print_threshold
returns-in_err-print_threshold g c =
    let p = err_from_is_err_and c.from_residual.result c.from_residual.ensures.1 in
    let count = c.requires.count in
    let low : c.thresholds.j < length c.args.thresholds.now = omega arith in
    let here : c.index-parts-j.result ≡ partition_at c.args.parts.now c.thresholds.j =
    c.index-parts-j.is ∙ get_or_default c.args.parts.now c.thresholds.j c.index-parts-j.result [] (omega (arith, count, low)) in
    rw p.1 (printed_stopped _ c.thresholds.invariant (thresholds_text_at c.args.thresholds.now c.args.parts.now c.thresholds.j low count)
    (rw (c.labels-labels.ensures.value, here) at c.in_err-print_threshold.ensures))

pub returns : goal.returns
returns g c =
    let all : length c.args.thresholds.now ≤ c.thresholds.j = omega arith in
    printed_end c.thresholds.invariant (at_drop_all (λ ps. thresholds_text c.thresholds.j ps (drop c.thresholds.j c.args.parts.now)) c.args.thresholds.now c.thresholds.j all)
