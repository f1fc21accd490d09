use Rattle.pf_share.specs.Tests.{HaveSources}
use Rattle.pf_share.proofs.checking.have_sources.Given as goal

abbrev pub invariant-groups : goal.invariant-groups
invariant-groups l = HaveSources l.sharing l.j l.answer.groups
