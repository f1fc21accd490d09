use Rattle.std.proofs.Common.{ap, ◌∙◌, arith, of_z}
use Rattle.std.specs.Int.{w128}
use Rattle.std.proofs.lemmas.Int.{ints}
use Rattle.pf_model.specs.Fraction.{Fraction}
use Rattle.pf_model.proofs.Lowest.{lowest_stays}
use Rattle.pf_rat.proofs.Products.{comes_back}
use Rattle.pf_lines.proofs.taking.lowest_of.Goals as goal

pub returns-then-p-clause-none : goal.returns-then-p-clause-none
returns-then-p-clause-none c = λ lowest.
    let x : Fraction = record { p = c.args.p; q = c.args.q } in
    let bounds = c.requires in
    let value = rw (comes_back c.args.p (omega (arith, ints, bounds.p_low, bounds.p_high)), comes_back c.args.q (omega (arith, ints, bounds.parameter, bounds.q_high))) at c.new-at.ensures.value in
    let same = value ∙ lowest_stays x bounds.parameter lowest in
    c.if-p.true (ap (of_z w128) (c.p.ensures.value ∙ ap (λ (y : Fraction). y.p) same))

pub returns-then-q-clause-none : goal.returns-then-q-clause-none
returns-then-q-clause-none c = λ lowest.
    let x : Fraction = record { p = c.args.p; q = c.args.q } in
    let bounds = c.requires in
    let value = rw (comes_back c.args.p (omega (arith, ints, bounds.p_low, bounds.p_high)), comes_back c.args.q (omega (arith, ints, bounds.parameter, bounds.q_high))) at c.new-at.ensures.value in
    let same = value ∙ lowest_stays x bounds.parameter lowest in
    c.if-q.true (ap (of_z w128) (c.q.ensures.value ∙ ap (λ (y : Fraction). y.q) same))
