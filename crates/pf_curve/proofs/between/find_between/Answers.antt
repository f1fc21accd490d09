use Rattle.std.proofs.Common.{◌≡◌, sym, subst, IfOk}
use Rattle.pf_model.specs.declared.Sense.TheVariants.{Rising}
use Rattle.pf_model.specs.Network.{IsInInterval, line_of}
use Rattle.pf_envelope.specs.Envelope.{IsLeastAt}
use Rattle.pf_piece.specs.Piece.{Between}
use Rattle.pf_piece.specs.Laws.{AreEndsAt}
use Rattle.pf_curve.specs.Cuts.{IsCutFound, IsLineOfCut}
use Rattle.pf_curve.proofs.Contracting.{nested_ends}
use Rattle.pf_curve.proofs.between.find_between.Goals as goal

pub between-requires : goal.between-requires
between-requires c = nested_ends c.args.net.now c.args.small.now c.args.large.now c.args.at.now c.frame.ensures.built c.requires.rising c.requires.ends

pub find_in-requires : goal.find_in-requires
find_in-requires c =
    let P : Between → Type 0 = λ p. IsInInterval p.net c.args.at.now in
    subst P (sym c.in_ok-core.ensures) c.requires.inside

pub lifted-requires-clause-rising : goal.lifted-requires-clause-rising
lifted-requires-clause-rising c =
    let P : Between → Type 0 = λ p. p.net.sense ≡ Rising in
    subst P (sym c.in_ok-core.ensures) c.requires.rising

pub lifted-requires-clause-inside : goal.lifted-requires-clause-inside
lifted-requires-clause-inside c =
    let P : Between → Type 0 = λ p. IsInInterval p.net c.args.at.now in
    subst P (sym c.in_ok-core.ensures) c.requires.inside

pub lifted-requires-clause-ends : goal.lifted-requires-clause-ends
lifted-requires-clause-ends c =
    let P : Between → Type 0 = λ p. AreEndsAt p c.args.at.now in
    subst P (sym c.in_ok-core.ensures) c.requires.ends

pub lifted-requires-clause-line : goal.lifted-requires-clause-line
lifted-requires-clause-line c =
    let P : Between → Type 0 = λ p. c.args.line.now ≡ line_of p.net p.small in
    subst P (sym c.in_ok-core.ensures) c.requires.line

pub returns-clause-found : goal.returns-clause-found
returns-clause-found c =
    let P : Between → Type 0 = λ p. IfOk c.lifted.result (λ m. IsCutFound p.net m.at m.line m.side.items) in
    subst P c.in_ok-core.ensures c.lifted.ensures.found

pub returns-clause-least : goal.returns-clause-least
returns-clause-least c =
    let P : Between → Type 0 = λ p. IfOk c.lifted.result (λ m. IsLeastAt (IsLineOfCut p.net) m.line c.args.at.now) in
    subst P c.in_ok-core.ensures c.lifted.ensures.least
