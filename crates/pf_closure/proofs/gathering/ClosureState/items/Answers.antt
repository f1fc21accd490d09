use Rattle.std.proofs.Common.{sym, ◌∙◌}
use Rattle.std.proofs.lemmas.Result.{err_from_is_err_and}
use Rattle.pf_closure.proofs.GatheringLemmas.{obeys_refused, decided_same}
use Rattle.pf_closure.proofs.gathering.ClosureState.items.Goals as goal

pub returns-in_err-costs : goal.returns-in_err-costs
returns-in_err-costs c =
    let p = err_from_is_err_and c.from_residual.result c.from_residual.ensures.1 in
    rw (p.1, p.2)
    (obeys_refused _ _ _ (decided_same c.deref.result.now c.args.self.slots.items c.args.self.needs.items c.deref.ensures.value)
    (c.in_err-costs.ensures.refused c.args.self.needs.items))

pub from_vecs-requires : goal.from_vecs-requires
from_vecs-requires c =
    c.requires _ (sym (decided_same c.deref.result.now c.args.self.slots.items c.args.self.needs.items c.deref.ensures.value)
    ∙ c.in_ok-costs.ensures.found c.args.self.needs.items)
