use Rattle.std.specs.Fmt.{decimal, signed_decimal}
use Rattle.std.proofs.Common.{◌+◌}
use Rattle.pf_gen.proofs.DrawnArcs.{arc_line, comes_back}
use Rattle.pf_gen.proofs.spelling.add_arc.Goals as goal

pub returns : goal.returns
returns c =
    let number = rw (comes_back c.args.arc.a c.requires.constant) at c.in_ok-add_number.ensures in
    let slope = rw (comes_back c.args.arc.b c.requires.slope) at c.in_ok-add_number-2.ensures in
    arc_line (decimal (c.args.arc.tail + 1)) (decimal (c.args.arc.head + 1)) (signed_decimal c.args.arc.a) (signed_decimal c.args.arc.b)
    c.args.text.now.items c.add.new.text.items c.add_count.new.text.items c.add_count-2.new.text.items c.add_number.new.text.items c.add_number-2.new.text.items c.add-2.new.text.items
    c.in_ok-add.ensures c.in_ok-add_count.ensures c.in_ok-add_count-2.ensures number slope c.in_ok-add-2.ensures
