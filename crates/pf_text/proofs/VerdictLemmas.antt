-- Verdicts and their texts.
use Rattle.std.proofs.Common.{◌≡◌, ℕ, Bool, true, false, List, refl, sym, ap, ◌∙◌, get_or, arith}
use Rattle.pf_text.specs.Verdict.{verdict_text, IsRightVerdict}

pub same_verdict : (a b : Bool) → verdict_text a ≡ verdict_text b → a ≡ b
unfolding verdict_text
same_verdict true true e = refl
same_verdict false false e = refl
same_verdict true false e = absurd (let byte = ap (λ (t : List ℕ). get_or t 8 0) e in omega (arith, byte))
same_verdict false true e = absurd (let byte = ap (λ (t : List ℕ). get_or t 8 0) e in omega (arith, byte))

equal_tests : (a b : Bool) → (a ≡ true → b ≡ true) → (b ≡ true → a ≡ true) → a ≡ b
equal_tests true b f g = sym (f refl)
equal_tests false true f g = g refl
equal_tests false false f g = refl

-- there is one right verdict
pub one_right_text : {claim : Type 0} (text other : List ℕ) → IsRightVerdict claim text → IsRightVerdict claim other → text ≡ other
one_right_text text other a b =
    a.text_is ∙ ap verdict_text (equal_tests a.verdict b.verdict (λ t. b.exact.1 (a.exact.0 t)) (λ t. a.exact.1 (b.exact.0 t))) ∙ sym b.text_is
