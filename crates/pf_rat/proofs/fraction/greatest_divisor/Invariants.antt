use Rattle.std.proofs.Common.{ℕ}
use Rattle.std.specs.Int.{IsGcd}
use Rattle.pf_rat.proofs.fraction.greatest_divisor.Given as goal

-- whatever is the greatest common divisor of what is left is that of the two numbers
abbrev pub invariant-steps : goal.invariant-steps
invariant-steps l = (g : ℕ) → IsGcd l.x l.y g → IsGcd l.a l.b g

abbrev pub decreases-steps : goal.decreases-steps
decreases-steps l = l.y
