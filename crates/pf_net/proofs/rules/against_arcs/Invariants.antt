use Rattle.std.proofs.Common.{◌≡◌, List, drop}
use Rattle.pf_model.specs.declared.AffineArc.{AffineArc}
use Rattle.pf_net.specs.Limits.{with_arcs}
use Rattle.pf_net.specs.Refusal.{arcs_refusal}
use Rattle.pf_net.proofs.rules.against_arcs.Given as goal

-- nothing is against the arcs so far
abbrev pub invariant-arcs : goal.invariant-arcs
invariant-arcs l = (all : List AffineArc) →
    arcs_refusal (with_arcs l.setting all) 0 l.arcs
    ≡ arcs_refusal (with_arcs l.setting all) l.i (drop l.i l.arcs)
