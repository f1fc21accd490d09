-- What readers conclude that take one piece, and ask that nothing is left.
use Rattle.std.proofs.Common.{◌≡◌, [], ◌++◌, ℕ, List, Result, Ok, Err, sym, ap, subst, ◌∙◌}
use Rattle.std.specs.Prelude.{IsErrAnd}
use Rattle.std.proofs.lemmas.List.{append-nil}
use Rattle.pf_lines.specs.declared.errors.AnswerBad.{AnswerBad}
use Rattle.pf_lines.specs.declared.errors.AnswerBad.TheVariants.{NotText}
use Rattle.pf_lines.specs.Taking.{IsExcused}

-- a piece that is the whole text stands in front of nothing
pub alone : {old text piece : List ℕ} → old ≡ text → text ≡ piece → old ≡ piece ++ []
alone {piece = piece} begun there = begun ∙ there ∙ sym (append-nil piece)

-- a piece that was taken in front of nothing is the whole text
pub whole : {old text piece left : List ℕ} → old ≡ text → old ≡ piece ++ left → left ≡ [] → text ≡ piece
whole {piece = piece} begun taken none = sym begun ∙ taken ∙ ap (λ (rest : List ℕ). piece ++ rest) none ∙ append-nil piece

-- an exit that is excused refuses nothing
pub not_refused : {X : Type 0} (bad : AnswerBad) (result : Result X AnswerBad) → IsErrAnd result (λ y. y ≡ bad) → result ≡ Err NotText → IsExcused bad → ⊥
not_refused bad (Ok x) exit e excused = absurd exit
not_refused bad (Err y) exit e excused =
    let told : y ≡ NotText = cc in
    subst IsExcused (sym exit ∙ told) excused
