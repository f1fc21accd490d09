use Rattle.std.proofs.Common.{◌≡◌, sym, arith, subst, to_z, of_z}
use Rattle.std.specs.Prelude.{ℤ, ◌-ℤ◌, pos, neg_ℤ}
use Rattle.std.proofs.lemmas.Int.{ints}
use mir.Syntax.{w128}
use Rattle.pf_lines.specs.Short.{IsFront}
use Rattle.pf_lines.proofs.ShortLemmas.{front_with_minus, front_without}
use Rattle.pf_lines.proofs.short.short_front.Goals as goal

pub returns-then-negative : goal.returns-then-negative
returns-then-negative c =
    let sign = c.split_sign-negative in
    let few = c.in_ok-short.ensures.few in
    let wide = c.from.ensures in
    let same : to_z w128 (of_z w128 (pos 0 -ℤ to_z w128 (of_z w128 c.from.result))) ≡ neg_ℤ (pos c.in_ok-short.short.value) = omega (arith, ints, few, wide) in
    let P : ℤ → Type 0 = λ n. IsFront c.args.text.now n c.split_at.result.0.now c.split_at.result.1.now in
    subst P (sym same)
    (front_with_minus c.args.text.now sign.result.1.now c.split_at.result.0.now c.split_at.result.1.now c.in_ok-short.short.value c.in_ok-short.short.count
    (rw c.if-negative.true at sign.ensures) c.in_ok-short.ensures (omega arith) c.split_at.ensures.front c.split_at.ensures.back)

pub returns : goal.returns
returns c =
    let sign = c.split_sign-negative in
    let few = c.in_ok-short.ensures.few in
    let wide = c.from-2.ensures in
    let same : to_z w128 (of_z w128 c.from-2.result) ≡ pos c.in_ok-short.short.value = omega (arith, ints, few, wide) in
    let P : ℤ → Type 0 = λ n. IsFront c.args.text.now n c.split_at-2.result.0.now c.split_at-2.result.1.now in
    subst P (sym same)
    (front_without c.args.text.now sign.result.1.now c.split_at-2.result.0.now c.split_at-2.result.1.now c.in_ok-short.short.value c.in_ok-short.short.count
    (rw c.if-negative.false at sign.ensures) c.in_ok-short.ensures (omega arith) c.split_at-2.ensures.front c.split_at-2.ensures.back)
