use Rattle.std.proofs.Common.{◌++◌, ◌∷◌, [], refl, sym, ◌∙◌}
use Rattle.std.specs.Fmt.{signed_decimal}
use Rattle.pf_text.specs.Spelling.{spaced}
use Rattle.pf_text.proofs.SpellingLemmas.{line_then}
use Rattle.pf_lines.proofs.RowsTaken.{behind_head, stops_fields, line_taken, fraction_fields}
use Rattle.pf_lines.proofs.taking.take_fraction_row.Goals as goal

pub returns-in_err-take_head-clause-found : goal.returns-in_err-take_head-clause-found
returns-in_err-take_head-clause-found c = λ at rest shape there.
    let fields = signed_decimal at.p ∷ signed_decimal at.q ∷ [] in
    absurd (c.in_err-take_head.ensures.found (spaced fields ++ (10 ∷ rest)) (stops_fields fields (10 ∷ rest) refl) (there ∙ line_then c.args.word.now c.args.indices.now fields rest))

pub returns-in_err-at-clause-found : goal.returns-in_err-at-clause-found
returns-in_err-at-clause-found c = λ at rest shape there.
    let fields = signed_decimal at.p ∷ signed_decimal at.q ∷ [] in
    let behind = behind_head c.args.word.now c.args.indices.now fields rest c.args.text.now c.take_head.new.text c.in_ok-take_head.ensures.found there in
    absurd (c.in_err-at.ensures.found at (10 ∷ rest) shape refl (behind ∙ fraction_fields at (10 ∷ rest)))

pub returns-in_err-take_word-clause-found : goal.returns-in_err-take_word-clause-found
returns-in_err-take_word-clause-found c = λ at rest shape there.
    let fields = signed_decimal at.p ∷ signed_decimal at.q ∷ [] in
    let behind = behind_head c.args.word.now c.args.indices.now fields rest c.args.text.now c.take_head.new.text c.in_ok-take_head.ensures.found there in
    absurd (c.in_err-take_word.ensures.found rest (c.in_ok-at.ensures.found at (10 ∷ rest) shape refl (behind ∙ fraction_fields at (10 ∷ rest))).1)

pub returns-clause-taken : goal.returns-clause-taken
returns-clause-taken c =
    let at = c.in_ok-at.at in
    line_taken c.args.word.now c.args.indices.now (signed_decimal at.p ∷ signed_decimal at.q ∷ []) c.args.text.now c.take_head.new.text c.take_fraction.new.text c.take_word.new.text
    c.in_ok-take_head.ensures.taken (c.in_ok-at.ensures.taken ∙ sym (fraction_fields at c.take_fraction.new.text)) c.in_ok-take_word.ensures.taken

pub returns-clause-found : goal.returns-clause-found
returns-clause-found c = λ at rest shape there.
    let fields = signed_decimal at.p ∷ signed_decimal at.q ∷ [] in
    let behind = behind_head c.args.word.now c.args.indices.now fields rest c.args.text.now c.take_head.new.text c.in_ok-take_head.ensures.found there in
    let f = c.in_ok-at.ensures.found at (10 ∷ rest) shape refl (behind ∙ fraction_fields at (10 ∷ rest)) in
    (f.0, c.in_ok-take_word.ensures.found rest f.1)
