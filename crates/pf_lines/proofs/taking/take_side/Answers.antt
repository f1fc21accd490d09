use Rattle.std.proofs.Common.{◌≡◌, ◌++◌, ◌∷◌, [], ◌<◌, arith}
use Rattle.pf_lines.proofs.ItemsTaken.{items_begin, item_taken, item_refused, items_end}
use Rattle.pf_lines.proofs.RowsTaken.{side_items, side_stands}
use Rattle.pf_lines.proofs.taking.take_side.Goals as goal

pub nodes-init : goal.nodes-init
nodes-init c = rw c.in_ok-items.ensures.items (items_begin side_items c.args.nodes c.args.text.now)

pub returns-in_err-inside-clause-found : goal.returns-in_err-inside-clause-found
returns-in_err-inside-clause-found c = λ side rest full there.
    let low : c.nodes.counter < c.args.nodes = omega arith in
    absurd (item_refused side_items c.args.nodes c.args.text.now c.nodes.text c.nodes.counter c.nodes.items.items ⊥ c.nodes.invariant low
    (λ inside later is ok e. c.in_err-inside.ensures.found inside later e) side rest (side_stands c.args.nodes c.args.text.now side rest full there))

pub nodes-preserved : goal.nodes-preserved
nodes-preserved c =
    let low : c.nodes.counter < c.args.nodes = omega arith in
    let items : c.push.new.self.items ≡ c.nodes.items.items ++ c.in_ok-inside.inside ∷ [] = c.in_ok-push.ensures.items in
    rw items (item_taken side_items c.args.nodes c.args.text.now c.nodes.text c.take_node.new.text c.nodes.counter c.nodes.items.items c.in_ok-inside.inside c.nodes.invariant low
    c.in_ok-inside.ensures.taken tt (λ inside later is ok e. c.in_ok-inside.ensures.found inside later e))

pub returns-clause-taken : goal.returns-clause-taken
returns-clause-taken c = rw c.from_vec.ensures c.nodes.invariant.taken

pub returns-clause-count : goal.returns-clause-count
returns-clause-count c = rw c.from_vec.ensures (omega (arith, c.nodes.invariant.number))

pub returns-clause-found : goal.returns-clause-found
returns-clause-found c = λ side rest full there.
    rw c.from_vec.ensures (items_end side_items c.args.nodes c.args.text.now c.nodes.text c.nodes.counter c.nodes.items.items c.nodes.invariant (omega arith)
    side rest (side_stands c.args.nodes c.args.text.now side rest full there))
