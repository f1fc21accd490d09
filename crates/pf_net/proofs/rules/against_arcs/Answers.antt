use Rattle.std.proofs.Common.{sym, ◌∙◌}
use Rattle.pf_model.specs.Network.{Network}
use Rattle.pf_net.specs.Limits.{with_arcs}
use Rattle.pf_net.proofs.FirstRefusal.{one_found, none_found}
use Rattle.pf_net.proofs.rules.against_arcs.Goals as goal

pub returns-in-Some : goal.returns-in-Some
returns-in-Some c all =
    let net : Network = with_arcs c.args.setting.now all in
    sym (c.arcs.invariant all ∙ one_found net c.args.arcs.now c.arcs.i c.in-Some.bad c.arcs-test.true (sym c.in-Some.is ∙ c.against_arc.ensures all))

pub arcs-preserved : goal.arcs-preserved
arcs-preserved c all =
    let net : Network = with_arcs c.args.setting.now all in
    c.arcs.invariant all ∙ none_found net c.args.arcs.now c.arcs.i c.arcs-test.true (sym c.in_default.is ∙ c.against_arc.ensures all)
