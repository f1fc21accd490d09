use Rattle.std.proofs.Common.{◌≡◌, ◌<◌, false, length, get_or, replicate, arith, ap, sym, ◌∙◌, inl, inr, refl}
use Rattle.std.proofs.lemmas.Int.{ints}
use Rattle.std.proofs.lemmas.List.{get_or-set_same, length-set}
use Rattle.pf_model.specs.Cut.{has}
use Rattle.pf_model.specs.Digraph.{network_of}
use Rattle.pf_model.proofs.Search.{search_starts, scan_ends, visit, put_grows, queue_room, taken_room, only_source}
use Rattle.pf_model.proofs.Numbers.{closed_from_lists}
use Rattle.pf_forest.proofs.Lent.{lent}
use Rattle.pf_forest.proofs.Tree.{visit_sweep, same_length, sweep_starts, tree_put, search_shut}
use Rattle.pf_frame.proofs.Steps.{out_item, in_item, open_marked_skip, open_marked_take, open_marked_later, return_marked_skip, return_marked_take, return_marked_all, by_open, by_return}
use Rattle.pf_forest.proofs.gather.search.Goals as goal
use Rattle.pf_forest.proofs.gather.search.Goals.{then-heads-i, else-heads-i, then-heads-i-gt0, else-heads-i-gt0}

pub search-init : goal.search-init
search-init c =
    let side : length c.as_mut_slice-side.result.now ≡ c.args.frame.now.nodes = ap length c.as_mut_slice-side.ensures.value ∙ c.requires.tables.side_full in
    let queue : length c.as_mut_slice-queue.result.now ≡ c.args.frame.now.nodes = ap length c.as_mut_slice-queue.ensures.value ∙ c.requires.tables.queue_full in
    let via : length c.as_mut_slice-via.result.now ≡ c.args.frame.now.nodes = ap length c.as_mut_slice-via.ensures.value ∙ c.requires.tables.via_full in
    let rank : length c.as_mut_slice-rank.result.now ≡ c.args.frame.now.nodes = ap length c.as_mut_slice-rank.ensures.value ∙ c.requires.tables.rank_full in
    let none : c.fill.new.self ≡ replicate c.args.frame.now.nodes false = rw (← side) (c.fill.ensures.after (λ y e. e)) in
    let there : c.args.root < length c.as_mut_slice-rank.result.now = omega (arith, rank, c.requires.root) in
    record {
      search = search_starts (network_of c.args.frame.now c.as_slice-vector.result.now c.args.root c.args.root) c.as_slice-heads.result.now c.fill.new.self c.as_mut_slice-queue.result.now
          c.requires.root none (omega (arith, queue));
      sweep = rw c.nodes-none.ensures.value (sweep_starts c.args.frame.now c.as_slice-vector.result.now c.as_slice-heads.result.now c.as_slice-rooms.result.now c.args.root c.args.skip c.args.frame.now.nodes _ _ _
          (only_source c.args.frame.now.nodes c.args.root c.fill.new.self none) (rw get_or-set_same refl) via
          (length-set c.as_mut_slice-rank.result.now c.args.root 0 ∙ rank));
      queue = length-set c.as_mut_slice-queue.result.now 0 c.args.root ∙ queue;
      order = omega arith;
    }

pub returns-then-hit-none : goal.returns-then-hit-none
returns-then-hit-none c =
    let t = c.requires.tables in
    let m = c.search.invariant.search.marking in
    let sweep = c.search.invariant.sweep in
    let side = lent c.args.workspace.now.side.len c.args.workspace.now.side.items c.search.side (omega (arith, c.args.workspace.now.side.ok.0)) (omega (arith, t.side_full, m.full)) in
    let queue = lent c.args.workspace.now.queue.len c.args.workspace.now.queue.items c.search.queue (omega (arith, c.args.workspace.now.queue.ok.0)) (omega (arith, t.queue_full, c.search.invariant.queue)) in
    let via = lent c.args.workspace.now.via.len c.args.workspace.now.via.items c.search.via (omega (arith, c.args.workspace.now.via.ok.0)) (omega (arith, t.via_full, sweep.vias)) in
    let rank = lent c.args.workspace.now.rank.len c.args.workspace.now.rank.items c.search.rank (omega (arith, c.args.workspace.now.rank.ok.0)) (omega (arith, t.rank_full, sweep.ranks)) in
    record {
      tables = record {
        side_full = ap length side ∙ m.full;
        queue_full = ap length queue ∙ c.search.invariant.queue;
        via_full = ap length via ∙ sweep.vias;
        rank_full = ap length rank ∙ sweep.ranks;
        hits_full = t.hits_full;
      };
      tree = rw (side, via, rank, ← c.as_slice-vector.ensures.value, ← c.as_slice-heads.ensures.value)
          (tree_put _ _ _ _ _ _ _ c.search.put c.args.frame.now.nodes sweep.tree (taken_room _ _ _ _ _ m));
      marked = rw side m.source;
      hit = rw (side, ← c.as_slice-rooms.ensures.value) sweep.hits.found;
      none = rw (side, ← c.as_slice-rooms.ensures.value) sweep.hits.nothing;
      shut = λ e. absurd (c.if-hit-none.true (e ∙ sym c.nodes-none.ensures.value));
    }

pub bounds-queue-taken : goal.bounds-queue-taken
bounds-queue-taken c = omega (arith, c.search.invariant.queue, taken_room _ _ _ _ _ c.search.invariant.search.marking)

pub offset_bounds-queue-taken : goal.offset_bounds-queue-taken
offset_bounds-queue-taken c = omega (arith, c.search.invariant.queue, taken_room _ _ _ _ _ c.search.invariant.search.marking)

pub overflow_add-taken : goal.overflow_add-taken
overflow_add-taken c = omega (arith, c.search.invariant.queue, taken_room _ _ _ _ _ c.search.invariant.search.marking)

pub bounds-heads-i : goal.bounds-heads-i
bounds-heads-i c =
    let n = out_item c.args.frame.now _ c.outs.i-index _ c.outs.invariant.items (omega arith) in
    omega (arith, n.in_range, c.requires.heads, ap length c.as_slice-heads.ensures.value)

pub bounds-vector-i : goal.bounds-vector-i
bounds-vector-i c =
    let n = out_item c.args.frame.now _ c.outs.i-index _ c.outs.invariant.items (omega arith) in
    omega (arith, n.in_range, c.requires.vector, ap length c.as_slice-vector.ensures.value)

pub visit-put-requires-clause-space : goal.visit-put-requires-clause-space
visit-put-requires-clause-space c = queue_room _ _ _ _ _ c.head-w.result c.outs.invariant.scan.marking c.head-w.ensures.node

pub outs-preserved : goal.outs-preserved
outs-preserved c =
    let n = out_item c.args.frame.now _ c.outs.i-index _ c.outs.invariant.items (omega arith) in
    let full = c.outs.invariant.scan.marking.full in
    let v = get_or c.search.queue c.search.taken 0 in
    elim c.if-heads-i.branch [
      | then-heads-i w ↦
          let found = w.look-hit.ensures in
          record {
            scan = visit _ _ _ _ _ _ _ w.head-w.result _ _ _ c.outs.invariant.scan c.outs.invariant.order w.head-w.ensures.node
                (by_open c.args.frame.now c.as_slice-vector.result.now c.as_slice-heads.result.now _ _ _ _ _ n (sym w.head-w.ensures.value) (omega (arith, ints, w.if-heads-i.true)))
                (w.side-is ∙ w.visit-put.ensures.side) (w.queue-is ∙ w.visit-put.ensures.queue) (w.put-is ∙ w.visit-put.ensures.put);
            sweep = visit_sweep c.args.frame.now c.as_slice-vector.result.now c.as_slice-heads.result.now c.as_slice-rooms.result.now c.args.root c.args.skip c.args.frame.now.nodes
                c.outs.side c.outs.via c.outs.rank c.outs.put c.outs.hit v w.head-w.result _
                _ _ _ _ _ c.outs.invariant.sweep full w.head-w.ensures.node c.outs.invariant.scan.marked n.in_range
                (inl (record { from = n.from; to = sym w.head-w.ensures.value; part = omega (arith, ints, w.if-heads-i.true) }))
                (w.side-is ∙ w.visit-put.ensures.side) (w.via-is ∙ w.visit-put.ensures.via) (w.rank-is ∙ w.visit-put.ensures.rank) (w.put-is ∙ w.visit-put.ensures.put)
                (rw (w.hit-is, ← c.nodes-none.ensures.value) found.kept) (rw (w.hit-is, ← c.nodes-none.ensures.value) found.taken)
                (rw (w.hit-is, ← c.nodes-none.ensures.value) found.passed);
            queue = same_length (has c.outs.side w.head-w.result) c.outs.queue _ c.outs.put w.head-w.result c.args.frame.now.nodes c.outs.invariant.queue (w.queue-is ∙ w.visit-put.ensures.queue);
            order = let grows = put_grows (has c.outs.side w.head-w.result) c.outs.put c.if-heads-i.put (w.put-is ∙ w.visit-put.ensures.put) in omega (arith, grows);
            items = c.outs.invariant.items;
            seen = open_marked_take c.args.frame.now c.as_slice-vector.result.now c.as_slice-heads.result.now c.outs.side _ c.outs-i-items.result.now c.outs.i-index w.head-w.result c.outs.invariant.seen
                (w.side-is ∙ w.visit-put.ensures.side) (omega (arith, w.head-w.ensures.node, full)) (sym w.head-w.ensures.value);
          }
      | else-heads-i w ↦
          record {
            scan = rw (w.side-is, w.queue-is, w.put-is) c.outs.invariant.scan;
            sweep = rw (w.side-is, w.via-is, w.rank-is, w.put-is, w.hit-is) c.outs.invariant.sweep;
            queue = rw w.queue-is c.outs.invariant.queue;
            order = omega arith;
            items = c.outs.invariant.items;
            seen = rw w.side-is (open_marked_skip c.args.frame.now c.as_slice-vector.result.now c.as_slice-heads.result.now c.outs.side c.outs-i-items.result.now c.outs.i-index c.outs.invariant.seen (omega (arith, ints, w.if-heads-i.false)));
          }
    ]

pub search-smaller : goal.search-smaller
search-smaller c = omega (arith, taken_room _ _ _ _ _ c.search.invariant.search.marking)

pub search-preserved : goal.search-preserved
search-preserved c = record {
  search = scan_ends _ _ _ _ _ _ _ c.ins.invariant.scan
      (closed_from_lists c.args.frame.now c.as_slice-vector.result.now c.as_slice-heads.result.now c.args.root c.args.root _ c.ins.side c.ins.invariant.outs
      (return_marked_all c.args.frame.now c.as_slice-heads.result.now c.ins.side c.ins-i-items.result.now _ c.ins.i-index c.ins.invariant.seen c.ins.invariant.items c.ins-test.false));
  sweep = c.ins.invariant.sweep;
  queue = c.ins.invariant.queue;
  order = omega arith;
}

pub bounds-heads-i-in-ins : goal.bounds-heads-i-in-ins
bounds-heads-i-in-ins c =
    let n = in_item c.args.frame.now _ c.ins.i-index _ c.ins.invariant.items (omega arith) in
    omega (arith, n.in_range, c.requires.heads, ap length c.as_slice-heads.ensures.value)

pub visit-put-requires-then-heads-i-gt0-clause-space : goal.visit-put-requires-then-heads-i-gt0-clause-space
visit-put-requires-then-heads-i-gt0-clause-space c = queue_room _ _ _ _ _ c.tail-w.result c.ins.invariant.scan.marking c.tail-w.ensures.node

pub ins-preserved : goal.ins-preserved
ins-preserved c =
    let n = in_item c.args.frame.now _ c.ins.i-index _ c.ins.invariant.items (omega arith) in
    let full = c.ins.invariant.scan.marking.full in
    let v = get_or c.search.queue c.search.taken 0 in
    elim c.if-heads-i-gt0.branch [
      | then-heads-i-gt0 w ↦
          let visited = w.visit-put-then-heads-i-gt0.ensures in
          let found = w.look-hit-then-heads-i-gt0.ensures in
          record {
            scan = visit _ _ _ _ _ _ _ w.tail-w.result _ _ _ c.ins.invariant.scan c.ins.invariant.order w.tail-w.ensures.node
                (by_return c.args.frame.now c.as_slice-vector.result.now c.as_slice-heads.result.now _ _ _ _ _ n (sym w.tail-w.ensures.value) (omega (arith, ints, w.if-heads-i-gt0.true)))
                (w.side-is ∙ visited.side) (w.queue-is ∙ visited.queue) (w.put-is ∙ visited.put);
            sweep = visit_sweep c.args.frame.now c.as_slice-vector.result.now c.as_slice-heads.result.now c.as_slice-rooms.result.now c.args.root c.args.skip c.args.frame.now.nodes
                c.ins.side c.ins.via c.ins.rank c.ins.put c.ins.hit v w.tail-w.result _
                _ _ _ _ _ c.ins.invariant.sweep full w.tail-w.ensures.node c.ins.invariant.scan.marked n.in_range
                (inr (record { from = n.to; to = sym w.tail-w.ensures.value; part = omega (arith, ints, w.if-heads-i-gt0.true) }))
                (w.side-is ∙ visited.side) (w.via-is ∙ visited.via) (w.rank-is ∙ visited.rank) (w.put-is ∙ visited.put)
                (rw (w.hit-is, ← c.nodes-none.ensures.value) found.kept) (rw (w.hit-is, ← c.nodes-none.ensures.value) found.taken)
                (rw (w.hit-is, ← c.nodes-none.ensures.value) found.passed);
            queue = same_length (has c.ins.side w.tail-w.result) c.ins.queue _ c.ins.put w.tail-w.result c.args.frame.now.nodes c.ins.invariant.queue (w.queue-is ∙ visited.queue);
            order = let grows = put_grows (has c.ins.side w.tail-w.result) c.ins.put c.if-heads-i-gt0.put (w.put-is ∙ visited.put) in omega (arith, grows);
            items = c.ins.invariant.items;
            outs = open_marked_later c.args.frame.now c.as_slice-vector.result.now c.as_slice-heads.result.now c.ins.side _ _ _ w.tail-w.result (w.side-is ∙ visited.side) c.ins.invariant.outs;
            seen = return_marked_take c.args.frame.now c.as_slice-heads.result.now c.ins.side _ c.ins-i-items.result.now c.ins.i-index w.tail-w.result c.ins.invariant.seen
                (w.side-is ∙ visited.side) (omega (arith, w.tail-w.ensures.node, full)) (sym w.tail-w.ensures.value);
          }
      | else-heads-i-gt0 w ↦
          record {
            scan = rw (w.side-is, w.queue-is, w.put-is) c.ins.invariant.scan;
            sweep = rw (w.side-is, w.via-is, w.rank-is, w.put-is, w.hit-is) c.ins.invariant.sweep;
            queue = rw w.queue-is c.ins.invariant.queue;
            order = omega arith;
            items = c.ins.invariant.items;
            outs = rw w.side-is c.ins.invariant.outs;
            seen = rw w.side-is (return_marked_skip c.args.frame.now c.as_slice-heads.result.now c.ins.side c.ins-i-items.result.now c.ins.i-index c.ins.invariant.seen (omega (arith, ints, w.if-heads-i-gt0.false)));
          }
    ]

pub returns : goal.returns
returns c =
    let t = c.requires.tables in
    let m = c.search.invariant.search.marking in
    let sweep = c.search.invariant.sweep in
    let side = lent c.args.workspace.now.side.len c.args.workspace.now.side.items c.search.side (omega (arith, c.args.workspace.now.side.ok.0)) (omega (arith, t.side_full, m.full)) in
    let queue = lent c.args.workspace.now.queue.len c.args.workspace.now.queue.items c.search.queue (omega (arith, c.args.workspace.now.queue.ok.0)) (omega (arith, t.queue_full, c.search.invariant.queue)) in
    let via = lent c.args.workspace.now.via.len c.args.workspace.now.via.items c.search.via (omega (arith, c.args.workspace.now.via.ok.0)) (omega (arith, t.via_full, sweep.vias)) in
    let rank = lent c.args.workspace.now.rank.len c.args.workspace.now.rank.items c.search.rank (omega (arith, c.args.workspace.now.rank.ok.0)) (omega (arith, t.rank_full, sweep.ranks)) in
    record {
      tables = record {
        side_full = ap length side ∙ m.full;
        queue_full = ap length queue ∙ c.search.invariant.queue;
        via_full = ap length via ∙ sweep.vias;
        rank_full = ap length rank ∙ sweep.ranks;
        hits_full = t.hits_full;
      };
      tree = rw (side, via, rank, ← c.as_slice-vector.ensures.value, ← c.as_slice-heads.ensures.value)
          (tree_put _ _ _ _ _ _ _ c.search.put c.args.frame.now.nodes sweep.tree (taken_room _ _ _ _ _ m));
      marked = rw side m.source;
      hit = rw (side, ← c.as_slice-rooms.ensures.value) sweep.hits.found;
      none = rw (side, ← c.as_slice-rooms.ensures.value) sweep.hits.nothing;
      shut = rw (side, ← c.as_slice-vector.ensures.value, ← c.as_slice-heads.ensures.value) (λ _. search_shut _ _ _ _ _ _ _ _ _ c.search.invariant.search c.search-test.false);
    }
