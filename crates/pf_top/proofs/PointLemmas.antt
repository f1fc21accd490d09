-- What `at` refuses of a network, as the search for a cut says it.
use Rattle.std.proofs.Common.{◌≡◌, Bool, true, false, Some, None, refl, inl, inr}
use Rattle.std.specs.Prelude.{◌⊎◌, ◌||◌}
use Rattle.pf_model.specs.Fraction.{Fraction, IsBelow, is_below}
use Rattle.pf_model.specs.Network.{Network}
use Rattle.pf_model.proofs.Lowest.{below_test}
use Rattle.pf_text.specs.declared.Refusal.TheVariants.{Outside}
use Rattle.pf_top.specs.Job.{at, job_of}

either_true : (a b : Bool) → (a ≡ true) ⊎ (b ≡ true) → (a || b) ≡ true
either_true true b h = refl
either_true false true h = refl
either_true false false h = elim h [ inl e ↦ absurd cc | inr e ↦ absurd cc ]

both_false : (a b : Bool) → (a ≡ true → ⊥) → (b ≡ true → ⊥) → (a || b) ≡ false
both_false true b f g = absurd (f refl)
both_false false true f g = absurd (g refl)
both_false false false f g = refl

pub refused_outside : (x : Fraction) (net : Network) → IsBelow x net.low ⊎ IsBelow net.high x → (job_of (at x)).refusal net ≡ Some Outside
refused_outside x net out =
    let test : (is_below x net.low || is_below net.high x) ≡ true = either_true (is_below x net.low) (is_below net.high x)
    (elim out [ inl below ↦ inl ((below_test x net.low).1 below) | inr above ↦ inr ((below_test net.high x).1 above) ]) in
    rw test refl

pub passed_inside : (x : Fraction) (net : Network) → (IsBelow x net.low ⊎ IsBelow net.high x → ⊥) → (job_of (at x)).refusal net ≡ None
passed_inside x net inside =
    let test : (is_below x net.low || is_below net.high x) ≡ false = both_false (is_below x net.low) (is_below net.high x)
    (λ below. inside (inl ((below_test x net.low).0 below))) (λ above. inside (inr ((below_test net.high x).0 above))) in
    rw test refl
