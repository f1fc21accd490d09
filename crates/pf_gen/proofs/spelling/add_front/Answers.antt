use Rattle.pf_gen.proofs.DrawnArcs.{front_text}
use Rattle.pf_gen.proofs.spelling.add_front.Goals as goal

pub returns : goal.returns
returns c =
    front_text c.args.n c.args.m
    c.args.text.now.items c.add.new.text.items c.add_count.new.text.items c.add_count-2.new.text.items c.add-2.new.text.items c.add_count-3.new.text.items c.add-3.new.text.items
    c.in_ok-add.ensures c.in_ok-add_count.ensures c.in_ok-add_count-2.ensures c.in_ok-add-2.ensures c.in_ok-add_count-3.ensures c.in_ok-add-3.ensures
