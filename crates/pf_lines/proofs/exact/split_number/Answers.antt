use Rattle.pf_lines.proofs.SpellingLemmas.{front_behind_minus, front_of_digits}
use Rattle.pf_lines.proofs.exact.split_number.Goals as goal

pub returns-then-negative-clause-front : goal.returns-then-negative-clause-front
returns-then-negative-clause-front c =
    let sign = c.split_sign-negative in
    front_behind_minus c.args.text.now sign.result.1.now c.split_at.result.0.now c.count_digits-count.result (rw c.if-negative.true at sign.ensures) c.count_digits-count.ensures c.split_at.ensures.front

pub returns-else-negative-clause-front : goal.returns-else-negative-clause-front
returns-else-negative-clause-front c =
    let sign = c.split_sign-negative in
    front_of_digits c.args.text.now sign.result.1.now c.split_at-else-negative.result.0.now c.count_digits-count.result (rw c.if-negative.false at sign.ensures) c.count_digits-count.ensures c.split_at-else-negative.ensures.front
