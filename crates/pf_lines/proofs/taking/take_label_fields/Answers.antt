use Rattle.std.proofs.Common.{◌≡◌, ◌++◌, ◌∷◌, sym, ap, ◌∙◌, to_z, of_z, arith}
use Rattle.std.specs.Prelude.{ℤ, pos}
use Rattle.std.specs.Int.{w128}
use Rattle.std.specs.Fmt.{signed_decimal}
use Rattle.std.proofs.lemmas.Int.{ints}
use Rattle.pf_lines.proofs.ItemsTaken.{items_begin, item_taken, item_refused, items_end}
use Rattle.pf_lines.proofs.RowsTaken.{label_items, labels_stand, label_found}
use Rattle.pf_lines.proofs.taking.take_label_fields.Goals as goal

pub labels-init : goal.labels-init
labels-init c = rw c.in_ok-labels.ensures.items (items_begin (label_items c.args.most) c.args.width c.args.text.now)

pub returns-in_err-number-clause-found : goal.returns-in_err-number-clause-found
returns-in_err-number-clause-found c = λ labels rest row stops there.
    let most : to_z w128 (of_z w128 c.from.result) ≡ pos c.args.most = omega (arith, ints, c.from.ensures) in
    let found = rw most at c.in_err-number.ensures.found in
    absurd (item_refused (label_items c.args.most) c.args.width c.args.text.now c.labels.text c.labels._i c.labels.labels.items ⊥ c.labels.invariant c.labels-test.true
    (label_found c.args.most (λ n later. ⊥) c.labels.text found) labels rest (labels_stand c.args.width c.args.most c.args.text.now labels rest row stops there))

pub labels-preserved : goal.labels-preserved
labels-preserved c =
    let most : to_z w128 (of_z w128 c.from.result) ≡ pos c.args.most = omega (arith, ints, c.from.ensures) in
    let found = rw most at c.in_ok-number.ensures.found in
    let range = rw most at c.in_ok-number.ensures.range in
    let low = range.0 in
    let high = range.1 in
    let is : pos c.label_of.result ≡ c.in_ok-number.number = omega (arith, ints, c.label_of.ensures, low, high) in
    rw c.in_ok-push.ensures.items (item_taken (label_items c.args.most) c.args.width c.args.text.now c.labels.text c.take_number.new.text c.labels._i c.labels.labels.items c.label_of.result c.labels.invariant c.labels-test.true
    (c.in_ok-number.ensures.taken ∙ ap (λ (n : ℤ). (32 ∷ signed_decimal n) ++ c.take_number.new.text) (sym is)) (omega (arith, ints, is, low), omega (arith, ints, is, high))
    (λ label later is_label ok e.
    let f = label_found c.args.most (λ n rest. (c.in_ok-number.number ≡ n) × (c.take_number.new.text ≡ rest)) c.labels.text found label later is_label ok e in
    (omega (arith, ints, is, f.0), f.1)))

pub returns-clause-found : goal.returns-clause-found
returns-clause-found c = λ labels rest row stops there.
    items_end (label_items c.args.most) c.args.width c.args.text.now c.labels.text c.labels._i c.labels.labels.items c.labels.invariant (omega arith)
    labels rest (labels_stand c.args.width c.args.most c.args.text.now labels rest row stops there)
