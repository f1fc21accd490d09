use Rattle.std.proofs.Common.{◌++◌, ◌∷◌, [], refl, ◌∙◌}
use Rattle.std.specs.Prelude.{codes}
use Rattle.std.specs.Fmt.{signed_decimal}
use Rattle.std.specs.Int.{w128}
use Rattle.std.proofs.lemmas.Int.{to_z-of_z}
use Rattle.pf_text.specs.Spelling.{spaced}
use Rattle.pf_text.proofs.SpellingLemmas.{line_then}
use Rattle.pf_lines.proofs.RowsTaken.{behind_head, stops_fields}
use Rattle.pf_share.proofs.KnownRows.{two_fields, second_field, known_taken}
use Rattle.pf_share.proofs.answers.take_known_row.Goals as goal

pub returns-in_err-take_head-clause-found : goal.returns-in_err-take_head-clause-found
returns-in_err-take_head-clause-found c = λ rest there.
    let fields = signed_decimal c.args.p ∷ signed_decimal c.args.q ∷ [] in
    absurd (c.in_err-take_head.ensures.found (spaced fields ++ (10 ∷ rest)) (stops_fields fields (10 ∷ rest) refl) (there ∙ line_then (codes "x") (c.args.v ∷ []) fields rest))

pub returns-in_err-take_known-clause-found : goal.returns-in_err-take_known-clause-found
returns-in_err-take_known-clause-found c = λ rest there.
    let fields = signed_decimal c.args.p ∷ signed_decimal c.args.q ∷ [] in
    let behind = behind_head (codes "x") (c.args.v ∷ []) fields rest c.args.text.now c.take_head.new.text c.in_ok-take_head.ensures.found there in
    let found = rw (to_z-of_z w128 c.args.p c.ranges.p) at c.in_err-take_known.ensures.found in
    absurd (found (second_field c.args.q rest) refl (behind ∙ two_fields c.args.p c.args.q rest))

pub returns-in_err-take_known-2-clause-found : goal.returns-in_err-take_known-2-clause-found
returns-in_err-take_known-2-clause-found c = λ rest there.
    let fields = signed_decimal c.args.p ∷ signed_decimal c.args.q ∷ [] in
    let behind = behind_head (codes "x") (c.args.v ∷ []) fields rest c.args.text.now c.take_head.new.text c.in_ok-take_head.ensures.found there in
    let first = rw (to_z-of_z w128 c.args.p c.ranges.p) at c.in_ok-take_known.ensures.found in
    let second = rw (to_z-of_z w128 c.args.q c.ranges.q) at c.in_err-take_known-2.ensures.found in
    absurd (second (10 ∷ rest) refl (first (second_field c.args.q rest) refl (behind ∙ two_fields c.args.p c.args.q rest)))

pub returns-in_err-take_word-clause-found : goal.returns-in_err-take_word-clause-found
returns-in_err-take_word-clause-found c = λ rest there.
    let fields = signed_decimal c.args.p ∷ signed_decimal c.args.q ∷ [] in
    let behind = behind_head (codes "x") (c.args.v ∷ []) fields rest c.args.text.now c.take_head.new.text c.in_ok-take_head.ensures.found there in
    let first = rw (to_z-of_z w128 c.args.p c.ranges.p) at c.in_ok-take_known.ensures.found in
    let second = rw (to_z-of_z w128 c.args.q c.ranges.q) at c.in_ok-take_known-2.ensures.found in
    absurd (c.in_err-take_word.ensures.found rest (second (10 ∷ rest) refl (first (second_field c.args.q rest) refl (behind ∙ two_fields c.args.p c.args.q rest))))

pub returns-clause-taken : goal.returns-clause-taken
returns-clause-taken c =
    let first = rw (to_z-of_z w128 c.args.p c.ranges.p) at c.in_ok-take_known.ensures.taken in
    let second = rw (to_z-of_z w128 c.args.q c.ranges.q) at c.in_ok-take_known-2.ensures.taken in
    known_taken c.args.v c.args.p c.args.q c.args.text.now c.take_head.new.text c.take_known.new.text c.take_known-2.new.text c.take_word.new.text
    c.in_ok-take_head.ensures.taken first second c.in_ok-take_word.ensures.taken

pub returns-clause-found : goal.returns-clause-found
returns-clause-found c = λ rest there.
    let fields = signed_decimal c.args.p ∷ signed_decimal c.args.q ∷ [] in
    let behind = behind_head (codes "x") (c.args.v ∷ []) fields rest c.args.text.now c.take_head.new.text c.in_ok-take_head.ensures.found there in
    let first = rw (to_z-of_z w128 c.args.p c.ranges.p) at c.in_ok-take_known.ensures.found in
    let second = rw (to_z-of_z w128 c.args.q c.ranges.q) at c.in_ok-take_known-2.ensures.found in
    c.in_ok-take_word.ensures.found rest (second (10 ∷ rest) refl (first (second_field c.args.q rest) refl (behind ∙ two_fields c.args.p c.args.q rest)))
