use Rattle.pf_graph.proofs.SlotLemmas.{ones_are}
use Rattle.pf_graph.proofs.slots.Slots.new.Goals as goal

pub returns : goal.returns
returns c =
    ones_are c.args.count c.in_ok-numbers.numbers.items c.in_ok-given.given.items (c.in_ok-numbers.ensures.items_if_clones_equal (λ y e. e))
    (c.in_ok-given.ensures.items_if_clones_equal (λ y e. e))
