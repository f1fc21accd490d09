use Rattle.std.proofs.Common.{◌≡◌, ◌-◌, ◌*◌, length, arith, ap, ◌∙◌}
use Rattle.std.specs.Prelude.{pos}
use Rattle.pf_trees.specs.Slots.{at, tree_number}
use Rattle.pf_trees.proofs.Whole.{table_full, list_full, none_written, first_state, some_free, all_full}
use Rattle.pf_trees.proofs.decide.decide.Goals as goal

pub begin-requires-clause-rows : goal.begin-requires-clause-rows
begin-requires-clause-rows c =
    let total = list_full (c.args.instance.k * (c.args.instance.n - 1)) (length c.args.instance.ends.now) c.args.packing.now.slot.now c.requires.slot in
    let rows = table_full ((c.args.instance.k * (c.args.instance.n - 1)) * c.args.instance.n) c.args.packing.now.cuts.now c.requires.cuts in
    let e = ap (λ t. t * c.args.instance.n) total in
    omega (arith, rows, e)

pub begin-requires-clause-none : goal.begin-requires-clause-none
begin-requires-clause-none c = λ i. none_written ((c.args.instance.k * (c.args.instance.n - 1)) * c.args.instance.n) i c.args.packing.now.cuts.now c.requires.cuts

pub grow-requires-clause-packing : goal.grow-requires-clause-packing
grow-requires-clause-packing c =
    let total = list_full (c.args.instance.k * (c.args.instance.n - 1)) (length c.args.instance.ends.now) c.args.packing.now.slot.now c.requires.slot in
    let rows = table_full ((c.args.instance.k * (c.args.instance.n - 1)) * c.args.instance.n) c.args.packing.now.cuts.now c.requires.cuts in
    let same = c.begin.auto.cuts in
    let full = ap (λ t. t * c.args.instance.n) total in
    record {
      rows = omega (arith, rows, same, full);
      state = first_state c.args.instance.n c.args.instance.k c.args.instance.ends.now c.begin.new.cuts c.args.packing.now.slot.now c.args.packing.now.place.now c.requires.instance.two c.requires.slot c.requires.place
          (λ r v h l. c.begin.ensures r v (omega (arith, total, h)) l);
    }

pub returns-then-free_slot-total-clause-blocked : goal.returns-then-free_slot-total-clause-blocked
returns-then-free_slot-total-clause-blocked c = λ e.
    let full = c.grow.ensures.packing.state.placed.slots_full in
    let test = c.if-free_slot-total.true in
    let total = list_full (c.args.instance.k * (c.args.instance.n - 1)) (length c.args.instance.ends.now) c.args.packing.now.slot.now c.requires.slot in
    some_free c.args.instance.n c.args.instance.k c.args.instance.ends.now c.grow.new.packing.cuts.now c.grow.new.packing.slot.now c.grow.new.packing.place.now c.join_marked.new.labels c.grow.new.room.mark.now c.free_slot.result
    c.requires.instance.two c.requires.instance.graph c.grow.ensures.packing.state c.grow.ensures.closed c.join_marked.ensures (omega (arith, test, total)) (c.free_slot.ensures.free (omega (arith, test, total, full)))

pub returns-clause-trees : goal.returns-clause-trees
returns-clause-trees c = λ e.
    let full = c.grow.ensures.packing.state.placed.slots_full in
    let places = c.grow.ensures.packing.state.placed.places_full in
    let test = c.if-free_slot-total.false in
    let total = list_full (c.args.instance.k * (c.args.instance.n - 1)) (length c.args.instance.ends.now) c.args.packing.now.slot.now c.requires.slot in
    let len : length c.number.new.numbers ≡ length c.args.instance.ends.now = omega arith in
    all_full c.args.instance.n c.args.instance.k c.args.instance.ends.now c.grow.new.packing.cuts.now c.grow.new.packing.slot.now c.grow.new.packing.place.now c.number.new.numbers
    c.requires.instance.two c.grow.ensures.packing.state (λ s h. c.free_slot.ensures.full (omega (arith, test, total, full)) s (omega (arith, h, full))) len
    (λ x h. c.number.ensures x (omega (arith, h, places)) ∙ ap (λ t. pos (tree_number (c.args.instance.n - 1) t (at c.grow.new.packing.place.now x))) total)
