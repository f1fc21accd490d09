use Rattle.std.proofs.Common.{◌≡◌, List, Bool, map}
use Rattle.std.specs.Prelude.{All}
use Rattle.pf_model.specs.Fraction.{Fraction}
use Rattle.pf_model.specs.Line.{AffineLine}
use Rattle.pf_model.specs.Network.{Network}
use Rattle.pf_envelope.specs.Envelope.{Segment, IsLowerEnvelope}
use Rattle.pf_curve.specs.Cuts.{IsCutFound, IsLineOfCut}
use Rattle.pf_curve.proofs.Envelopes.{end_served, high_end_served}
use Rattle.pf_curve.proofs.function.parts_of.Goals as goal

pub envelope-requires-clause-interval : goal.envelope-requires-clause-interval
envelope-requires-clause-interval c = rw (c.lo.ensures, c.hi.ensures) c.frame.ensures.built.monotone.interval

pub envelope-requires-clause-low_served : goal.envelope-requires-clause-low_served
envelope-requires-clause-low_served c = rw c.in_ok-finder.ensures (end_served c.args.net.now c.lo.result.now c.frame.ensures.built.monotone c.requires c.lo.ensures)

pub envelope-requires-clause-high_served : goal.envelope-requires-clause-high_served
envelope-requires-clause-high_served c = rw c.in_ok-finder.ensures (high_end_served c.args.net.now c.hi.result.now c.frame.ensures.built.monotone c.requires c.hi.ensures)

members_of : {A : Type 0} (net found : Network) (at : A → Fraction) (line : A → AffineLine) (side : A → List Bool) (parts : List A) → found ≡ net →
    All (λ p. IsCutFound found (at p) (line p) (side p)) parts → All (λ p. IsCutFound net (at p) (line p) (side p)) parts
members_of net found at line side parts e h = rw e at h

envelope_of : (net found : Network) (lo hi : Fraction) (segments : List Segment) → found ≡ net → lo ≡ net.low → hi ≡ net.high →
    IsLowerEnvelope (IsLineOfCut found) lo hi segments → IsLowerEnvelope (IsLineOfCut net) net.low net.high segments
envelope_of net found lo hi segments e f g h = rw (e, f, g) at h

pub returns-clause-members : goal.returns-clause-members
returns-clause-members c =
    members_of c.args.net.now c.in_ok-finder.finder (λ p. p.member.at) (λ p. p.member.line) (λ p. p.member.side.items) c.in_ok-parts.parts.items c.in_ok-finder.ensures
    c.in_ok-parts.ensures.members

pub returns-clause-envelope : goal.returns-clause-envelope
returns-clause-envelope c =
    let segments : List Segment = map (λ p. record { right = p.right; line = p.member.line }) c.in_ok-parts.parts.items in
    envelope_of c.args.net.now c.in_ok-finder.finder c.lo.result.now c.hi.result.now segments c.in_ok-finder.ensures c.lo.ensures c.hi.ensures c.in_ok-parts.ensures.envelope
