use Rattle.std.proofs.Common.{◌≡◌, ap, subst, ◌∙◌, map, List}
use Rattle.std.specs.Prelude.{ℤ}
use Rattle.pf_model.specs.Fraction.{Fraction, IsBoundedFraction}
use Rattle.pf_model.specs.Network.{Network, IsInInterval, capacity_at}
use Rattle.pf_frame.specs.Numbers.{IsBounded}
use Rattle.pf_net.specs.Limits.{IsBuilt, digraph_of}
use Rattle.pf_net.proofs.CapacityBounds.{bounded_capacities}
use Rattle.pf_net.proofs.net.Net.caps_at.Goals as goal

bounded : (net : Network) (x : Fraction) (caps : List ℤ) → IsBuilt net → IsInInterval net x → IsBoundedFraction x →
    caps ≡ map (capacity_at x) net.arcs → IsBounded (digraph_of net) caps
bounded net x caps b inside f e = rw e (bounded_capacities net x b inside f)

pub returns-clause-bounded : goal.returns-clause-bounded
returns-clause-bounded c =
    let b = subst IsBuilt c.self.view_is c.self.invariant.0 in
    let arcs = ap (λ (net : Network). map (capacity_at c.args.at.now) net.arcs) c.self.view_is in
    bounded c.args.self.now c.args.at.now c.capacities.new.caps b c.requires.inside c.q-q.ensures.bounds
    (c.capacities.ensures ∙ ap (map (capacity_at c.args.at.now)) c.as_slice.ensures.value ∙ arcs)
