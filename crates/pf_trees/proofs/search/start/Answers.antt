use Rattle.std.proofs.Common.{◌≡◌, length, replicate, false, arith}
use Rattle.pf_trees.proofs.Marking.{marking_none, started_none}
use Rattle.pf_trees.proofs.search.start.Goals as goal

pub later-init : goal.later-init
later-init c =
    let none : c.fill.new.self ≡ replicate (length c.args.place.now) false = rw (← c.requires.places.mark_full) (c.fill.ensures.after (λ y e. e)) in
    let marking = marking_none (length c.args.place.now) c.fill.new.self c.args.room.now.queue.now none c.requires.places.queue_full in
    record {
      begun = record {
        places = record {
          mark_full = marking.full;
          queue_full = c.requires.places.queue_full;
          from_full = c.requires.places.from_full;
          level_full = c.requires.places.level_full;
        };
        marking = marking;
        started = started_none c.args.total (length c.args.place.now) c.args.place.now c.fill.new.self c.args.room.now.level.now none;
      };
      roots = λ x low h out. absurd (omega arith);
    }
