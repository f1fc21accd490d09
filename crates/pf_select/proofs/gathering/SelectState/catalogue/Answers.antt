use Rattle.std.proofs.Common.{sym, ◌∙◌}
use Rattle.std.proofs.lemmas.Result.{err_from_is_err_and}
use Rattle.pf_select.specs.Text.{all_given}
use Rattle.pf_select.proofs.GatheringLemmas.{costs_missing, gains_missing, decided, same_given}
use Rattle.pf_select.proofs.gathering.SelectState.catalogue.Goals as goal

pub returns-in_err-all_costs : goal.returns-in_err-all_costs
returns-in_err-all_costs c =
    let p = err_from_is_err_and c.from_residual.result c.from_residual.ensures.1 in
    let same = same_given c.deref.result.now c.args.self.costs.items c.deref.ensures.value in
    rw (p.1, p.2) (costs_missing (all_given c.args.self.costs.items) (all_given c.args.self.gains.items) c.args.self.needs.items _
    (rw same at c.in_err-all_costs.ensures.refused))

pub returns-in_err-all_gains : goal.returns-in_err-all_gains
returns-in_err-all_gains c =
    let p = err_from_is_err_and c.from_residual-in_err-all_gains.result c.from_residual-in_err-all_gains.ensures.1 in
    let same = same_given c.deref-2.result.now c.args.self.gains.items c.deref-2.ensures.value in
    rw (p.1, p.2) (gains_missing (all_given c.args.self.costs.items) (all_given c.args.self.gains.items) c.args.self.needs.items _
    (rw same at c.in_err-all_gains.ensures.refused))

pub from_vecs-requires : goal.from_vecs-requires
from_vecs-requires c =
    c.requires _
    (decided (all_given c.args.self.costs.items) (all_given c.args.self.gains.items) c.args.self.needs.items c.in_ok-all_costs.all_costs.items c.in_ok-all_gains.all_gains.items
    (sym (same_given c.deref.result.now c.args.self.costs.items c.deref.ensures.value) ∙ c.in_ok-all_costs.ensures.found)
    (sym (same_given c.deref-2.result.now c.args.self.gains.items c.deref-2.ensures.value) ∙ c.in_ok-all_gains.ensures.found))

pub returns : goal.returns
returns c =
    rw c.from_vecs.ensures
    (decided (all_given c.args.self.costs.items) (all_given c.args.self.gains.items) c.args.self.needs.items c.in_ok-all_costs.all_costs.items c.in_ok-all_gains.all_gains.items
    (sym (same_given c.deref.result.now c.args.self.costs.items c.deref.ensures.value) ∙ c.in_ok-all_costs.ensures.found)
    (sym (same_given c.deref-2.result.now c.args.self.gains.items c.deref-2.ensures.value) ∙ c.in_ok-all_gains.ensures.found))
