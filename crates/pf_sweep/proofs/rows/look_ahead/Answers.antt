use Rattle.std.proofs.Common.{◌≡◌, arith, ◌∙◌, to_z, of_z}
use Rattle.std.proofs.lemmas.Int.{ints}
use Rattle.pf_rat.proofs.Products.{comes_back}
use Rattle.pf_sweep.proofs.Rowing.{stands_inside, ahead_later, ahead_more, seen_of}
use Rattle.pf_sweep.proofs.rows.look_ahead.Goals as goal
use mir.Syntax.{w128}

pub advance-requires-clause-inside : goal.advance-requires-clause-inside
advance-requires-clause-inside g c =
    let size = c.numerator-p.ensures.size in
    rw (comes_back c.numerator-p.result (omega (arith, size)))
    (stands_inside c.args.net.now c.args.k c.args.to c.args.ahead.now c.numerator-p.result c.frame.ensures.built.monotone c.requires.some c.requires.ahead.net_is c.requires.ahead.unit_is c.requires.last
    c.numerator-p.ensures.value)

pub advance-requires-clause-later : goal.advance-requires-clause-later
advance-requires-clause-later g c =
    let size = c.numerator-p.ensures.size in
    rw (comes_back c.numerator-p.result (omega (arith, size))) (ahead_later c.args.net.now c.args.k c.args.to c.args.ahead.now c.numerator-p.result c.requires.ahead c.numerator-p.ensures.value)

pub returns-clause-seen : goal.returns-clause-seen
returns-clause-seen g c =
    let size = c.numerator-p.ensures.size in
    let back = comes_back c.numerator-p.result (omega (arith, size)) in
    let a = rw back at c.advance.ensures in
    let least : to_z w128 (of_z w128 c.value-least.result) ≡ c.value-least.result = omega (arith, ints) in
    rw (back, least)
    (seen_of c.args.net.now c.args.k c.args.to c.advance.new.self c.numerator-p.result c.value-least.result c.frame.ensures.built.monotone c.requires.some
    (a.net_is ∙ c.requires.ahead.net_is) (a.unit_is ∙ c.requires.ahead.unit_is) a.at_is c.numerator-p.ensures.value c.requires.last c.value-least.ensures.least)

pub returns-clause-ahead : goal.returns-clause-ahead
returns-clause-ahead g c =
    let size = c.numerator-p.ensures.size in
    let a = rw (comes_back c.numerator-p.result (omega (arith, size))) at c.advance.ensures in
    ahead_more c.args.net.now c.args.k c.args.to c.args.ahead.now c.advance.new.self c.numerator-p.result _ _ c.frame.ensures.built.monotone c.requires.ahead c.numerator-p.ensures.value a
