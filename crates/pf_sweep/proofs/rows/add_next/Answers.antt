use Rattle.std.proofs.Common.{arith}
use Rattle.pf_rat.proofs.Products.{comes_back}
use Rattle.pf_sweep.proofs.Rowing.{stands_inside, underway_more, underway_passed}
use Rattle.pf_sweep.proofs.rows.add_next.Goals as goal

pub row_before-requires-clause-inside : goal.row_before-requires-clause-inside
row_before-requires-clause-inside g c =
    let size = c.numerator-p.ensures.size in
    rw (comes_back c.numerator-p.result (omega (arith, size)))
    (stands_inside c.args.net.now c.args.k c.args.j c.args.sweep.now c.numerator-p.result c.frame.ensures.built.monotone c.requires.some c.requires.sweep.net_is c.requires.sweep.unit_is c.requires.index
    c.numerator-p.ensures.value)

pub advance-requires-clause-inside : goal.advance-requires-clause-inside
advance-requires-clause-inside g c =
    let size = c.numerator-p.ensures.size in
    rw (comes_back c.numerator-p.result (omega (arith, size)))
    (stands_inside c.args.net.now c.args.k c.args.j c.args.sweep.now c.numerator-p.result c.frame.ensures.built.monotone c.requires.some c.requires.sweep.net_is c.requires.sweep.unit_is c.requires.index
    c.numerator-p.ensures.value)

pub returns-in_ok-push-in-Some : goal.returns-in_ok-push-in-Some
returns-in_ok-push-in-Some g c =
    let size = c.numerator-p.ensures.size in
    let right = rw (comes_back c.numerator-p.result (omega (arith, size))) at c.in-Some.ensures in
    underway_passed c.args.net.now c.args.k c.args.j c.args.sweep.now c.args.rows.now c.push.new.self c.in-Some.row c.numerator-p.result c.frame.ensures.built.monotone c.requires.sweep c.requires.index
    c.numerator-p.ensures.value c.in_ok-push-in-Some.ensures.added right

pub returns-in_ok-add_row-in-None : goal.returns-in_ok-add_row-in-None
returns-in_ok-add_row-in-None g c =
    let size = c.numerator-p.ensures.size in
    let a = rw (comes_back c.numerator-p.result (omega (arith, size))) at c.advance.ensures in
    underway_more c.args.net.now c.args.k c.args.j c.args.sweep.now c.advance.new.self c.add_row.new.sweep c.args.rows.now c.add_row.new.rows c.numerator-p.result _ _ c.frame.ensures.built.monotone
    c.requires.sweep c.requires.index c.numerator-p.ensures.value a c.in_ok-add_row-in-None.ensures.same c.in_ok-add_row-in-None.ensures.rows
