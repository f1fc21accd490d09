use Rattle.std.proofs.Common.{◌<◌, sym, subst}
use Rattle.pf_share.specs.Problem.{ShareProblem}
use Rattle.pf_share.proofs.CheckLemmas.{high_number}
use Rattle.pf_share.proofs.sharing.Sharing.weight.Goals as goal

pub returns-clause-high : goal.returns-clause-high
returns-clause-high c =
    let P : ShareProblem → Type 0 = λ p. c.args.v < p.nodes in
    let low = subst P (sym c.self.view_is) c.requires in
    high_number c.self.inside.weights.items c.args.v c.index.result.now 1000000 low c.index.ensures (c.self.invariant.weight_high c.args.v low)
