use Rattle.pf_sweep.proofs.Keeping.{within_found, caps_found, found}
use Rattle.pf_sweep.proofs.sweep.write_side.Goals as goal

pub reach-requires-clause-caps : goal.reach-requires-clause-caps
reach-requires-clause-caps c =
    caps_found c.args.net.now c.args.at.now.unit c.args.at.now.p c.frame.result.now c.args.caps.now c.frame.ensures.frame c.requires.caps c.frame.ensures.built c.requires.inside c.requires.bounds

pub reach-requires-clause-flow : goal.reach-requires-clause-flow
reach-requires-clause-flow c =
    within_found c.args.net.now c.args.at.now.unit c.args.at.now.p c.frame.result.now _ c.args.caps.now c.args.flow.now c.frame.ensures.frame c.requires.caps c.requires.greatest

pub returns-clause-smallest : goal.returns-clause-smallest
returns-clause-smallest c =
    found c.args.net.now c.args.at.now.unit c.args.at.now.p c.frame.result.now c.source.result c.args.caps.now c.args.flow.now c.reach.new.side c.frame.ensures.built c.frame.ensures.frame
    c.source.ensures c.requires.caps c.requires.greatest c.reach.ensures.smallest
