use Rattle.std.proofs.Common.{◌++◌, ◌∷◌, [], refl, sym, ap, ◌∙◌, ℕ, List, arith}
use Rattle.std.specs.Fmt.{signed_decimal}
use Rattle.std.proofs.lemmas.Int.{ints}
use Rattle.pf_rat.proofs.Products.{comes_back}
use Rattle.pf_text.specs.Spelling.{spaced, fraction_text}
use Rattle.pf_text.proofs.SpellingLemmas.{line_then}
use Rattle.pf_lines.proofs.RowsTaken.{behind_head, stops_fields, line_taken, valued_fields, same_point}
use Rattle.pf_lines.proofs.taking.take_valued_row.Goals as goal

pub returns-in_err-take_head-clause-found : goal.returns-in_err-take_head-clause-found
returns-in_err-take_head-clause-found c = λ point rest shape there.
    let fields = signed_decimal point.at.p ∷ signed_decimal point.at.q ∷ signed_decimal point.value ∷ [] in
    absurd (c.in_err-take_head.ensures.found (spaced fields ++ (10 ∷ rest)) (stops_fields fields (10 ∷ rest) refl) (there ∙ line_then c.args.word.now c.args.indices.now fields rest))

pub returns-in_err-at-clause-found : goal.returns-in_err-at-clause-found
returns-in_err-at-clause-found c = λ point rest shape there.
    let fields = signed_decimal point.at.p ∷ signed_decimal point.at.q ∷ signed_decimal point.value ∷ [] in
    let head = behind_head c.args.word.now c.args.indices.now fields rest c.args.text.now c.take_head.new.text c.in_ok-take_head.ensures.found there in
    absurd (c.in_err-at.ensures.found point.at ((32 ∷ signed_decimal point.value) ++ (10 ∷ rest)) shape.at refl (head ∙ valued_fields point.at point.value (10 ∷ rest)))

pub returns-in_err-value-clause-found : goal.returns-in_err-value-clause-found
returns-in_err-value-clause-found c = λ point rest shape there.
    let fields = signed_decimal point.at.p ∷ signed_decimal point.at.q ∷ signed_decimal point.value ∷ [] in
    let head = behind_head c.args.word.now c.args.indices.now fields rest c.args.text.now c.take_head.new.text c.in_ok-take_head.ensures.found there in
    let at = c.in_ok-at.ensures.found point.at ((32 ∷ signed_decimal point.value) ++ (10 ∷ rest)) shape.at refl (head ∙ valued_fields point.at point.value (10 ∷ rest)) in
    absurd (c.in_err-value.ensures.found point.value (10 ∷ rest) shape.value refl at.1)

pub returns-in_err-take_word-clause-found : goal.returns-in_err-take_word-clause-found
returns-in_err-take_word-clause-found c = λ point rest shape there.
    let fields = signed_decimal point.at.p ∷ signed_decimal point.at.q ∷ signed_decimal point.value ∷ [] in
    let head = behind_head c.args.word.now c.args.indices.now fields rest c.args.text.now c.take_head.new.text c.in_ok-take_head.ensures.found there in
    let at = c.in_ok-at.ensures.found point.at ((32 ∷ signed_decimal point.value) ++ (10 ∷ rest)) shape.at refl (head ∙ valued_fields point.at point.value (10 ∷ rest)) in
    let value = c.in_ok-value.ensures.found point.value (10 ∷ rest) shape.value refl at.1 in
    absurd (c.in_err-take_word.ensures.found rest value.1)

pub returns-clause-taken : goal.returns-clause-taken
returns-clause-taken c =
    let at = c.in_ok-at.at in
    let value = c.in_ok-value.value in
    let size = c.in_ok-value.ensures.shape in
    let back = comes_back value (omega (arith, ints, size.low, size.high)) in
    let fields = signed_decimal at.p ∷ signed_decimal at.q ∷ signed_decimal value ∷ [] in
    rw back (line_taken c.args.word.now c.args.indices.now fields c.args.text.now c.take_head.new.text c.take_value.new.text c.take_word.new.text
    c.in_ok-take_head.ensures.taken
    (c.in_ok-at.ensures.taken ∙ ap (λ (t : List ℕ). fraction_text at ++ t) c.in_ok-value.ensures.taken ∙ sym (valued_fields at value c.take_value.new.text))
    c.in_ok-take_word.ensures.taken)

pub returns-clause-found : goal.returns-clause-found
returns-clause-found c = λ point rest shape there.
    let fields = signed_decimal point.at.p ∷ signed_decimal point.at.q ∷ signed_decimal point.value ∷ [] in
    let head = behind_head c.args.word.now c.args.indices.now fields rest c.args.text.now c.take_head.new.text c.in_ok-take_head.ensures.found there in
    let at = c.in_ok-at.ensures.found point.at ((32 ∷ signed_decimal point.value) ++ (10 ∷ rest)) shape.at refl (head ∙ valued_fields point.at point.value (10 ∷ rest)) in
    let value = c.in_ok-value.ensures.found point.value (10 ∷ rest) shape.value refl at.1 in
    let size = c.in_ok-value.ensures.shape in
    let back = comes_back c.in_ok-value.value (omega (arith, ints, size.low, size.high)) in
    (rw back (same_point c.in_ok-at.at c.in_ok-value.value point at.0 value.0), c.in_ok-take_word.ensures.found rest value.1)
