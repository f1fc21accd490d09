use Rattle.std.proofs.Common.{◌<◌, length, sym, subst, arith}
use Rattle.pf_share.specs.Problem.{ShareProblem}
use Rattle.pf_share.proofs.CheckLemmas.{high_number, length_numbers}
use Rattle.pf_share.proofs.sharing.Sharing.capacity.Goals as goal

pub returns-clause-high : goal.returns-clause-high
returns-clause-high c =
    let P : ShareProblem → Type 0 = λ p. c.args.i < length p.ends in
    let low = subst P (sym c.self.view_is) c.requires in
    let full = c.self.invariant.problem.capacities_full in
    let many = length_numbers c.self.inside.capacities.items in
    high_number c.self.inside.capacities.items c.args.i c.index.result.now 1000000000 (omega (arith, low, full, many)) c.index.ensures
    (c.self.invariant.capacity_high c.args.i low)
