use Rattle.std.proofs.Common.{◌≡◌, ◌<◌, length, take, get_or, refl, sym, ◌∙◌, rules}
use Rattle.std.proofs.lemmas.List.{take_more, nil_from_length, take_all}
use Rattle.std.proofs.lemmas.List.Folds.{list_all_more, list_all_at}
use Rattle.std.proofs.lemmas.Bool.{eqb-true}
use Rattle.pf_text.specs.Numbers.{is_digit, value_from}
use Rattle.pf_text.proofs.NumbersLemmas.{value_from-append, natural_of-nil, natural_of-digits, natural_of-others}
use Rattle.pf_lines.proofs.numbers.long_natural.Goals as goal

pub returns-then-is_empty : goal.returns-then-is_empty
returns-then-is_empty c =
    let empty = nil_from_length c.args.bytes.now (eqb-true _ _ (sym c.if-is_empty.ensures)) in
    rw (empty, natural_of-nil) tt

pub returns-then-not-is_digit : goal.returns-then-not-is_digit
returns-then-not-is_digit c =
    rw (natural_of-others c.args.bytes.now (list_all_at is_digit c.args.bytes.now c.digits.byte-index 0 c.digits-test.true (sym c.is_digit.ensures ∙ c.if-not-is_digit.true))) tt

pub digits-preserved : goal.digits-preserved
digits-preserved c =
    let i = c.digits.byte-index in
    let d = get_or c.args.bytes.now i 0 in
    let is : is_digit d ≡ _ = sym c.is_digit.ensures ∙ c.if-not-is_digit.false in
    record {
      all = rw (list_all_more is_digit c.args.bytes.now i 0 c.digits-test.true, c.digits.invariant.all, is) refl;
      capped = rw (take_more c.args.bytes.now i 0 c.digits-test.true, value_from-append 0 (take i c.args.bytes.now) d) (c.with_digit-value.ensures (value_from 0 (take i c.args.bytes.now)) c.digits.invariant.capped);
    }

pub returns : goal.returns
returns c =
    let all = take_all c.digits.byte-index c.args.bytes.now c.digits-test.false in
    let some : 0 < length c.args.bytes.now = search rules in
    rw (natural_of-digits c.args.bytes.now some (rw all at c.digits.invariant.all)) (rw all at c.digits.invariant.capped)
