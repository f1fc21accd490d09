use Rattle.std.proofs.Common.{◌+◌, ◌<◌, length, arith, sym, ap, ◌∙◌, refl}
use Rattle.pf_trees.specs.Sides.{cut_at}
use Rattle.pf_trees.specs.Slots.{at}
use Rattle.pf_trees.proofs.Marking.{marking_put, marking_room, ways_put, scan_visit, scan_skip, search_ends, placed_whole}
use Rattle.pf_trees.proofs.search.search.Goals as goal
use Rattle.pf_trees.proofs.search.search.Goals.{then-separates+else-y-m, else-separates}

pub offset_bounds-room-taken : goal.offset_bounds-room-taken
offset_bounds-room-taken c =
    let m = marking_put (length c.args.instance.ends.now) c.search.room.mark.now c.search.room.queue.now c.search.put c.search.invariant.marking in
    omega (arith, m, c.search-test.true, c.requires.instance.few)

pub bounds-room-taken : goal.bounds-room-taken
bounds-room-taken c =
    let m = marking_put (length c.args.instance.ends.now) c.search.room.mark.now c.search.room.queue.now c.search.put c.search.invariant.marking in
    let q = c.search.invariant.places.queue_full in
    omega (arith, m, q, c.search-test.true)

pub overflow_add-taken : goal.overflow_add-taken
overflow_add-taken c =
    let m = marking_put (length c.args.instance.ends.now) c.search.room.mark.now c.search.room.queue.now c.search.put c.search.invariant.marking in
    omega (arith, m, c.search-test.true, c.requires.instance.few)

pub overflow_add-depth : goal.overflow_add-depth
overflow_add-depth c =
    let m = marking_put (length c.args.instance.ends.now) c.search.room.mark.now c.search.room.queue.now c.search.put c.search.invariant.marking in
    let l = c.search.invariant.ways.levels (at c.search.room.queue.now c.search.taken) (c.search.invariant.marking.queued c.search.taken c.search-test.true) in
    omega (arith, m, l, c.requires.instance.few)

pub search-smaller : goal.search-smaller
search-smaller c =
    let m = marking_put (length c.args.instance.ends.now) c.search.room.mark.now c.search.room.queue.now c.search.put c.search.invariant.marking in
    omega (arith, m, c.search-test.true)

pub returns-then-y-m : goal.returns-then-y-m
returns-then-y-m c =
    let m = marking_put (length c.args.instance.ends.now) c.slots.room.mark.now c.slots.room.queue.now c.slots.put c.slots.invariant.marking in
    record {
      searched = record {
        places = c.slots.invariant.places;
        ways = ways_put c.args.instance.ends.now (cut_at c.args.packing.now.cuts.now c.args.instance.n) c.args.packing.now.place.now (length c.args.packing.now.slot.now)
            c.slots.room.mark.now c.slots.room.from.now c.slots.room.level.now c.slots.put (length c.args.instance.ends.now) c.slots.invariant.ways m;
        found = λ h. record { marked = c.slots.invariant.marked; free = c.if-y-m.true; crossing = sym c.separates.ensures ∙ c.if-separates.true };
        closed = λ h. absurd (let test = c.slots-test.true in omega (arith, h, test));
      };
    }

pub visit-put-requires-clause-space : goal.visit-put-requires-clause-space
visit-put-requires-clause-space c =
    let most = (placed_whole _ _ _ _ c.requires.packing.state.placed).slots_most c.slots.t c.slots-test.true in
    let ne = c.if-y-m.false in
    let low : at c.args.packing.now.slot.now c.slots.t < length c.args.instance.ends.now = omega (arith, most, ne) in
    λ out. marking_room (length c.args.instance.ends.now) c.slots.room.mark.now c.slots.room.queue.now c.slots.put (at c.args.packing.now.slot.now c.slots.t) c.slots.invariant.marking low out

pub slots-preserved : goal.slots-preserved
slots-preserved c =
    elim c.if-separates.branch [
      | then-separates+else-y-m w ↦
          scan_visit c.args.instance.ends.now (cut_at c.args.packing.now.cuts.now c.args.instance.n) c.args.packing.now.slot.now c.args.packing.now.place.now (length c.args.packing.now.slot.now) c.slots.room.mark.now c.if-separates.room.mark.now c.slots.room.queue.now c.if-separates.room.queue.now
          c.slots.room.from.now c.if-separates.room.from.now c.slots.room.level.now c.if-separates.room.level.now (c.search.taken + 1) c.slots.put c.if-separates.put (at c.search.room.queue.now c.search.taken) c.slots.t
          (at c.search.room.level.now (at c.search.room.queue.now c.search.taken) + 1) (at c.args.packing.now.slot.now c.slots.t)
          c.slots.invariant (placed_whole _ _ _ _ c.requires.packing.state.placed) c.slots-test.true (sym c.separates.ensures ∙ w.if-separates.true) refl w.if-y-m.false
          (ap (λ r. r.mark.now) w.room-is ∙ w.visit-put.ensures.mark) (ap (λ r. r.queue.now) w.room-is ∙ w.visit-put.ensures.queue)
          (ap (λ r. r.from.now) w.room-is ∙ w.visit-put.ensures.from) (ap (λ r. r.level.now) w.room-is ∙ w.visit-put.ensures.level)
          (w.put-is ∙ w.visit-put.ensures.put)
      | else-separates w ↦
          rw (w.room-is, w.put-is)
          (scan_skip c.args.instance.ends.now (cut_at c.args.packing.now.cuts.now c.args.instance.n) c.args.packing.now.slot.now c.args.packing.now.place.now (length c.args.packing.now.slot.now) c.slots.room.mark.now c.slots.room.queue.now
          c.slots.room.from.now c.slots.room.level.now (c.search.taken + 1) c.slots.put (at c.search.room.queue.now c.search.taken) c.slots.t
          (at c.search.room.level.now (at c.search.room.queue.now c.search.taken) + 1) c.slots.invariant (sym c.separates.ensures ∙ w.if-separates.false))
    ]

pub returns : goal.returns
returns c =
    let m = marking_put (length c.args.instance.ends.now) c.search.room.mark.now c.search.room.queue.now c.search.put c.search.invariant.marking in
    record {
      searched = record {
        places = c.search.invariant.places;
        ways = ways_put c.args.instance.ends.now (cut_at c.args.packing.now.cuts.now c.args.instance.n) c.args.packing.now.place.now (length c.args.packing.now.slot.now)
            c.search.room.mark.now c.search.room.from.now c.search.room.level.now c.search.put (length c.args.instance.ends.now) c.search.invariant.ways m;
        found = λ h. absurd (omega (arith, h));
        closed = λ h. search_ends c.args.instance.ends.now (cut_at c.args.packing.now.cuts.now c.args.instance.n) c.args.packing.now.slot.now c.args.packing.now.place.now (length c.args.packing.now.slot.now)
            c.search.room.mark.now c.search.room.queue.now c.search.room.from.now c.search.room.level.now c.search.taken c.search.put c.search.invariant c.search-test.false;
      };
    }
