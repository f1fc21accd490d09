use Rattle.std.proofs.Common.{◌≡◌, ◌+◌, take, ap, ◌∙◌, rules, arith}
use Rattle.std.proofs.lemmas.List.{length-take, with_items_is, places}
use Rattle.pf_io.specs.Told.{Gave}
use Rattle.pf_io.proofs.ToldLemmas.{gave_behind}
use Rattle.pf_io.proofs.transfer.read_counted.Goals as goal

pub returns-then-used-limit-clause-too_long : goal.returns-then-used-limit-clause-too_long
returns-then-used-limit-clause-too_long g c = λ _.
    let front : take c.reads.used c.read_at.new.room ≡ take c.reads.used c.reads.bytes.items =
    c.read_at.ensures.front ∙ ap (take c.reads.used) c.as_mut_slice.ensures.value ∙ c.make_room.ensures.front in
    let all : Gave (g.S.Source.left c.args.source.now) (g.S.Source.left c.read_at.new.source) (take (c.reads.used + c.in-Ok.count) c.read_at.new.room) =
    gave_behind (g.S.Source.left c.args.source.now) (g.S.Source.left c.reads.source) (g.S.Source.left c.read_at.new.source) c.reads.bytes.items c.read_at.new.room c.reads.used c.in-Ok.count c.reads.invariant.gave front c.in-Ok.ensures.gives in
    (take (c.reads.used + c.in-Ok.count) c.read_at.new.room, all, omega (arith, length-take (c.reads.used + c.in-Ok.count) c.read_at.new.room, c.in-Ok.ensures.fits, c.make_room.ensures.capped, c.if-used-limit.true, c.as_mut_slice.ensures.len, c.read_at.auto.room))

pub reads-preserved : goal.reads-preserved
reads-preserved g c =
    let front : take c.reads.used c.read_at.new.room ≡ take c.reads.used c.reads.bytes.items =
    c.read_at.ensures.front ∙ ap (take c.reads.used) c.as_mut_slice.ensures.value ∙ c.make_room.ensures.front in
    let all : Gave (g.S.Source.left c.args.source.now) (g.S.Source.left c.read_at.new.source) (take (c.reads.used + c.in-Ok.count) c.read_at.new.room) =
    gave_behind (g.S.Source.left c.args.source.now) (g.S.Source.left c.reads.source) (g.S.Source.left c.read_at.new.source) c.reads.bytes.items c.read_at.new.room c.reads.used c.in-Ok.count c.reads.invariant.gave front c.in-Ok.ensures.gives in
    record {
      gave = rw (with_items_is c.make_room.new.bytes c.read_at.new.room (search (rules, places))) all;
      few = search rules;
      used = search (rules, places);
      capped = search rules;
      reads = search (rules, places);
      later = search rules;
    }
