use Rattle.std.proofs.Common.{◌≡◌}
use Rattle.std.specs.Prelude.{map}
use Rattle.pf_principal.proofs.search.partitions_of.Given as goal

abbrev pub invariant-parts : goal.invariant-parts
invariant-parts l = l.partitions ≡ map (λ p. p.member.partition) l.yielded
