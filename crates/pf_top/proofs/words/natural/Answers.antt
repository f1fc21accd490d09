use Rattle.std.proofs.Common.{length, ◌<◌, refl, sym, ◌∙◌, rules}
use Rattle.std.proofs.lemmas.List.{nil_from_length}
use Rattle.std.proofs.lemmas.Bool.{eqb-true}
use Rattle.pf_text.proofs.NumbersLemmas.{natural_of-nil}
use Rattle.pf_top.proofs.NaturalLemmas.{read_more, read_other, read_past, read_below, read_whole}
use Rattle.pf_top.proofs.words.natural.Goals as goal

pub returns-then-is_empty-clause-value : goal.returns-then-is_empty-clause-value
returns-then-is_empty-clause-value c =
    let empty = nil_from_length c.args.bytes.now (eqb-true _ _ (sym c.if-is_empty.ensures)) in
    rw (empty, natural_of-nil) refl

pub returns-then-not-is_digit-clause-value : goal.returns-then-not-is_digit-clause-value
returns-then-not-is_digit-clause-value c =
    read_other c.args.bytes.now c.args.least c.args.most c.digits.byte-index c.digits-test.true (sym c.is_digit.ensures ∙ c.if-not-is_digit.true)

pub returns-in_default-clause-value : goal.returns-in_default-clause-value
returns-in_default-clause-value c =
    read_past c.args.bytes.now c.args.least c.args.most c.digits.byte-index c.digits.number c.digits-test.true c.digits.invariant (c.with_digit.ensures ∙ c.in_default.is)

pub digits-preserved : goal.digits-preserved
digits-preserved c =
    read_more c.args.bytes.now c.args.most c.digits.byte-index c.digits.number c.in-Some.next c.digits-test.true (sym c.is_digit.ensures ∙ c.if-not-is_digit.false) c.digits.invariant
    (c.with_digit.ensures ∙ c.in-Some.is)

pub returns-then-number-least-clause-value : goal.returns-then-number-least-clause-value
returns-then-number-least-clause-value c =
    let some : 0 < length c.args.bytes.now = search rules in
    read_below c.args.bytes.now c.args.least c.args.most c.digits.byte-index c.digits.number c.digits-test.false some c.digits.invariant (search rules)

pub returns-clause-value : goal.returns-clause-value
returns-clause-value c =
    let some : 0 < length c.args.bytes.now = search rules in
    read_whole c.args.bytes.now c.args.least c.args.most c.digits.byte-index c.digits.number c.digits-test.false some c.digits.invariant (search rules)
