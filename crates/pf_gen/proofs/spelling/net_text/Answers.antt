use Rattle.std.proofs.Common.{arith}
use Rattle.pf_gen.specs.Generator.{text_of_lines, front_lines}
use Rattle.pf_gen.proofs.DrawnArcs.{three_more, text_begins, text_more, text_whole}
use Rattle.pf_gen.proofs.spelling.net_text.Goals as goal

pub arcs-init : goal.arcs-init
arcs-init c = record {
  drawn = c.begin-generator.ensures;
  spelled = text_begins c.new-text.result.items c.add_front.new.text.items (text_of_lines (front_lines c.args.n c.args.m)) c.new-text.ensures.items c.in_ok-add_front.ensures;
}

pub arcs-preserved : goal.arcs-preserved
arcs-preserved c = record {
  drawn = three_more c.args.seed c.arcs.i c.arcs.generator c.add_drawn.new.generator c.arcs.invariant.drawn c.add_drawn.ensures.moved;
  spelled = text_more (text_of_lines (front_lines c.args.n c.args.m)) c.arcs.text.items c.add_drawn.new.text.items c.args.seed c.args.n c.arcs.i c.arcs.generator c.arcs.invariant.spelled c.arcs.invariant.drawn c.in_ok-add_drawn.ensures.added;
}

pub returns : goal.returns
returns c = text_whole c.arcs.text.items c.add.new.text.items c.args.seed c.args.n c.args.m c.arcs.i (omega arith) c.arcs.invariant.spelled c.in_ok-add.ensures
