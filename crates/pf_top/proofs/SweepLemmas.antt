-- What `sweep` refuses of a network, and that a network of a text has near ends.
use Rattle.std.proofs.Common.{◌≡◌, ℕ, Bool, true, false, List, Some, None, Ok, refl, arith, subst}
use Rattle.std.specs.Prelude.{◌↔◌}
use Rattle.std.proofs.lemmas.Int.{ints}
use Rattle.pf_model.specs.Fraction.{Fraction}
use Rattle.pf_model.specs.Network.{Network}
use Rattle.pf_text.specs.declared.Refusal.TheVariants.{TooFine}
use Rattle.pf_text.specs.Lines.{Line}
use Rattle.pf_text.specs.Kinds.{Accepted, problem_of_lines}
use Rattle.pf_par.specs.Laws.{IsTextFraction}
use Rattle.pf_par.specs.Text.{par}
use Rattle.pf_par.proofs.ParLaw.{accepted_lines_are_good}
use Rattle.pf_sweep.specs.Parameters.{IsNearEnd, HasNearEnds, is_too_fine}
use Rattle.pf_top.specs.Job.{sweep, job_of}

not_true : (b : Bool) → (b ≡ true → ⊥) → b ≡ false
not_true true f = absurd (f refl)
not_true false f = refl

pub refused_fine : (k : ℕ) (net : Network) → is_too_fine k net ≡ true → (job_of (sweep k)).refusal net ≡ Some TooFine
refused_fine k net fine = rw fine refl

pub passed_coarse : (k : ℕ) (net : Network) → (is_too_fine k net ≡ true → ⊥) → (job_of (sweep k)).refusal net ≡ None
passed_coarse k net coarse = rw (not_true (is_too_fine k net) coarse) refl

-- what is known of the number of steps and the network that are at hand
pub fine_seen : (R : Type 0) (k k' : ℕ) (net net' : Network) → R ↔ (is_too_fine k net ≡ true) → k ≡ k' → net ≡ net' → R ↔ (is_too_fine k' net' ≡ true)
fine_seen R k k' net net' exact e f =
    let P : ℕ → Type 0 = λ n. R ↔ (is_too_fine n net ≡ true) in
    let Q : Network → Type 0 = λ n. R ↔ (is_too_fine k' n ≡ true) in
    subst Q f (subst P e exact)

near_end : (x : Fraction) → IsTextFraction x → IsNearEnd x
near_end x text =
    let low = text.low in
    let high = text.high in
    let some = text.parameter in
    record { low = omega (arith, ints, low, some); high = omega (arith, ints, high, some) }

pub near_ends : (lines : List Line) (read : Accepted Network) → problem_of_lines par lines ≡ Ok read → HasNearEnds read.problem
near_ends lines read e =
    let good = (accepted_lines_are_good lines read e).1 in
    record { low = near_end read.problem.low good.low; high = near_end read.problem.high good.high }
