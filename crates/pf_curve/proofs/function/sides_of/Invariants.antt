use Rattle.std.proofs.Common.{◌≡◌}
use Rattle.std.specs.Prelude.{map}
use Rattle.pf_curve.proofs.function.sides_of.Given as goal

abbrev pub invariant-parts : goal.invariant-parts
invariant-parts l = l.cuts ≡ map (λ p. p.member.side.items) l.yielded
