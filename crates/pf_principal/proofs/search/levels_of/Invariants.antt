use Rattle.pf_principal.proofs.Levels.{AreRights}
use Rattle.pf_principal.proofs.search.levels_of.Given as goal

abbrev pub invariant-parts : goal.invariant-parts
invariant-parts l = AreRights (λ p. p.right) l.parts l.i l.levels
