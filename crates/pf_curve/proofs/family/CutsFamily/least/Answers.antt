use Rattle.std.proofs.Common.{sym, subst, ap, ◌∙◌, IfOk}
use Rattle.pf_model.specs.Network.{Network, IsInInterval, line_of}
use Rattle.pf_envelope.specs.Envelope.{IsLeastAt}
use Rattle.pf_curve.specs.Cuts.{IsCutFound, IsLineOfCut}
use Rattle.pf_curve.proofs.Contracting.{ends_between, ends_here, served_inside}
use Rattle.pf_curve.proofs.family.CutsFamily.least.Goals as goal

pub find_between-requires-clause-rising : goal.find_between-requires-clause-rising
find_between-requires-clause-rising c = ap (λ (net : Network). net.sense) c.net-net.ensures ∙ c.requires.left_served.rising

pub find_between-requires-clause-inside : goal.find_between-requires-clause-inside
find_between-requires-clause-inside c =
    let P : Network → Type 0 = λ net. IsInInterval net c.args.at.now in
    subst P (sym c.net-net.ensures)
    (served_inside c.args.self.now.finder c.args.at.now c.args._left_at.now c.args._right_at.now c.q-q.ensures.bounds.parameter
    c.requires.left_served c.requires.right_served c.requires.from_left c.requires.to_right)

pub find_between-requires-clause-ends : goal.find_between-requires-clause-ends
find_between-requires-clause-ends c =
    ends_here c.args.self.now.finder c.net-net.result.now c.args.at.now c.args.left.now.side.items c.as_slice.result.now c.args.right.now.side.items c.as_slice-2.result.now
    c.net-net.ensures c.as_slice.ensures.value c.as_slice-2.ensures.value
    (ends_between c.args.self.now.finder c.args.at.now c.args._left_at.now c.args._right_at.now c.args.left.now.at c.args.right.now.at c.args.left.now.line c.args.right.now.line
    c.args.left.now.side.items c.args.right.now.side.items c.q-q.ensures.bounds.parameter c.requires.left_served c.requires.right_served
    c.requires.left_member c.requires.right_member c.requires.left_found c.requires.right_found c.requires.from_left c.requires.to_right)

pub find_between-requires-clause-line : goal.find_between-requires-clause-line
find_between-requires-clause-line c =
    c.requires.left_member.line_is
    ∙ sym (ap (λ (net : Network). line_of net c.as_slice.result.now) c.net-net.ensures ∙ ap (line_of c.args.self.now.finder) c.as_slice.ensures.value)

pub returns-clause-member : goal.returns-clause-member
returns-clause-member c =
    let P : Network → Type 0 = λ net. IfOk c.find_between.result (λ m. IsCutFound net m.at m.line m.side.items) in
    subst P c.net-net.ensures c.find_between.ensures.found

pub returns-clause-least : goal.returns-clause-least
returns-clause-least c =
    let P : Network → Type 0 = λ net. IfOk c.find_between.result (λ m. IsLeastAt (IsLineOfCut net) m.line c.args.at.now) in
    subst P c.net-net.ensures c.find_between.ensures.least
