-- The first reason against arcs, found arc by arc.
use Rattle.std.proofs.Common.{◌≡◌, ℕ, ◌+◌, ◌<◌, List, length, get_or, drop, drop-cons, add-one, refl, ◌∙◌}
use Rattle.std.specs.Prelude.{Some, None}
use Rattle.pf_model.specs.declared.AffineArc.{AffineArc}
use Rattle.pf_model.specs.Network.{Network}
use Rattle.pf_model.proofs.Affine.{no_arc}
use Rattle.pf_net.specs.declared.net.NetBad.{NetBad}
use Rattle.pf_net.specs.Refusal.{arc_refusal, arcs_refusal, or_else}

pub one_arc : (net : Network) (arcs : List AffineArc) (i : ℕ) → i < length arcs →
    arcs_refusal net i (drop i arcs) ≡ or_else (arc_refusal net i (get_or arcs i no_arc)) (arcs_refusal net (i + 1) (drop (i + 1) arcs))
one_arc net arcs i low = rw (add-one, drop-cons arcs i no_arc) refl

pub one_found : (net : Network) (arcs : List AffineArc) (i : ℕ) (bad : NetBad) → i < length arcs →
    Some bad ≡ arc_refusal net i (get_or arcs i no_arc) → arcs_refusal net i (drop i arcs) ≡ Some bad
one_found net arcs i bad low e = one_arc net arcs i low ∙ rw (← e) refl

pub none_found : (net : Network) (arcs : List AffineArc) (i : ℕ) → i < length arcs →
    None ≡ arc_refusal net i (get_or arcs i no_arc) → arcs_refusal net i (drop i arcs) ≡ arcs_refusal net (i + 1) (drop (i + 1) arcs)
none_found net arcs i low e = one_arc net arcs i low ∙ rw (← e) refl
