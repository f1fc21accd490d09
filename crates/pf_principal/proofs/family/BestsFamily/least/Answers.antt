use Rattle.std.proofs.Common.{arith}
use Rattle.std.proofs.lemmas.Int.{ints}
use Rattle.pf_model.proofs.Certificate.{at_most_trans}
use Rattle.pf_graph.specs.Best.{level_zero}
use Rattle.pf_principal.proofs.family.BestsFamily.least.Goals as goal

pub find_best-requires : goal.find_best-requires
find_best-requires c =
    let left = c.requires.left_served in
    let parameter = c.q-q.ensures.bounds.parameter in
    record {
      parameter = parameter;
      low = at_most_trans level_zero c.args._left_at.now c.args.at.now (omega (arith, ints)) left.parameter parameter left.low c.requires.from_left;
    }
