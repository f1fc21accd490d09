use Rattle.std.proofs.Common.{◌≡◌, ℕ, length, take, get_or, refl, sym, ◌∙◌, subst, arith}
use Rattle.std.proofs.lemmas.List.{take_more}
use Rattle.std.proofs.lemmas.List.Folds.{list_all_more}
use Rattle.pf_text.specs.Numbers.{is_digit}
use Rattle.pf_text.proofs.NumbersLemmas.{value_from-append, digit_bounds}
use Rattle.pf_lines.specs.Short.{AreDigits}
use Rattle.pf_lines.proofs.ShortLemmas.{digits_end}
use Rattle.pf_lines.proofs.short.short_digits.Goals as goal

pub returns-then-not-is_digit : goal.returns-then-not-is_digit
returns-then-not-is_digit c =
    digits_end c.args.bytes.now c.digits.value c.digits.count (omega arith) c.digits.invariant.all c.digits.invariant.exact c.digits.invariant.few (λ l. sym c.is_digit.ensures ∙ c.if-not-is_digit.true)

pub digits-preserved : goal.digits-preserved
digits-preserved c =
    let i = c.digits.count in
    let d = get_or c.args.bytes.now i 0 in
    let is : is_digit d ≡ _ = sym c.is_digit.ensures ∙ c.if-not-is_digit.false in
    let bounds = digit_bounds d is in
    let exact = c.digits.invariant.exact in
    let more = c.from.ensures in
    record {
      all = rw (list_all_more is_digit c.args.bytes.now i 0 c.digits-test.true, c.digits.invariant.all, is) refl;
      exact = rw (take_more c.args.bytes.now i 0 c.digits-test.true, value_from-append 0 (take i c.args.bytes.now) d) (omega (arith, exact, more));
      few = omega (arith, more, bounds.1);
    }

pub returns : goal.returns
returns c =
    let all : c.digits.count ≡ length c.args.bytes.now = omega arith in
    let P : ℕ → Type 0 = λ n. AreDigits c.args.bytes.now c.digits.value n in
    subst P all (digits_end c.args.bytes.now c.digits.value c.digits.count (omega arith) c.digits.invariant.all c.digits.invariant.exact c.digits.invariant.few (λ l. absurd (omega arith)))
