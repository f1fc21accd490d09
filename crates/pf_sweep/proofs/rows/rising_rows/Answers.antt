use Rattle.std.proofs.Common.{arith, ap, ◌∙◌}
use Rattle.std.specs.Prelude.{◌*ℤ◌}
use Rattle.std.proofs.lemmas.Int.{ints}
use Rattle.pf_rat.proofs.Products.{comes_back}
use Rattle.pf_sweep.specs.Swept.{Swept}
use Rattle.pf_sweep.proofs.Units.{unit_is_multiple}
use Rattle.pf_sweep.proofs.Rowing.{ahead_begins, first_step, too_fine_is}
use Rattle.pf_sweep.proofs.rows.rising_rows.Goals as goal

pub make-requires-clause-whole : goal.make-requires-clause-whole
make-requires-clause-whole c =
    let size = c.unit-unit.ensures.size in
    let back = comes_back c.unit-unit.result (omega (arith, size)) in
    rw (back, c.unit-unit.ensures.value) (unit_is_multiple c.args.net.now c.args.k)

pub make-requires-2-clause-whole : goal.make-requires-2-clause-whole
make-requires-2-clause-whole c =
    let size = c.unit-unit.ensures.size in
    let back = comes_back c.unit-unit.result (omega (arith, size)) in
    rw (back, c.unit-unit.ensures.value) (unit_is_multiple c.args.net.now c.args.k)

pub rows_from-requires-clause-fine : goal.rows_from-requires-clause-fine
rows_from-requires-clause-fine c =
    let size = c.unit-unit.ensures.size in
    let back = comes_back c.unit-unit.result (omega (arith, size)) in
    let unit = ap (λ (s : Swept). s.unit) c.sweep.view_is ∙ c.in_ok-sweep.ensures.made.unit_is ∙ back ∙ c.unit-unit.ensures.value in
    let high = c.sweep.invariant.unit_high in
    omega (arith, ints, unit, high)

pub rows_from-requires-clause-ahead : goal.rows_from-requires-clause-ahead
rows_from-requires-clause-ahead c =
    let size = c.unit-unit.ensures.size in
    let back = comes_back c.unit-unit.result (omega (arith, size)) in
    let made = c.in-Ok.ensures.made in
    let unit = made.unit_is ∙ back ∙ c.unit-unit.ensures.value in
    ahead_begins c.args.net.now c.args.k c.in-Ok.ahead c.frame.ensures.built.monotone made.net_is unit
    (first_step c.args.net.now c.args.k c.in-Ok.ahead.at c.frame.ensures.built.monotone (made.low_end ∙ ap (λ n. c.args.net.now.low.p *ℤ n) unit))

pub rows_from-requires-clause-at : goal.rows_from-requires-clause-at
rows_from-requires-clause-at c =
    let size = c.unit-unit.ensures.size in
    let back = comes_back c.unit-unit.result (omega (arith, size)) in
    let made = c.in_ok-sweep.ensures.made in
    first_step c.args.net.now c.args.k c.in_ok-sweep.sweep.at c.frame.ensures.built.monotone (made.low_end ∙ ap (λ n. c.args.net.now.low.p *ℤ n) (made.unit_is ∙ back ∙ c.unit-unit.ensures.value))

pub returns-in_default-clause-fine : goal.returns-in_default-clause-fine
returns-in_default-clause-fine c =
    let size = c.unit-unit.ensures.size in
    let back = comes_back c.unit-unit.result (omega (arith, size)) in
    let exact = rw back at c.in_ok-sweep.ensures.fine in (
      λ e. absurd cc,
      λ told. absurd (let e = exact.1 (too_fine_is c.args.net.now c.args.k c.unit-unit.result c.unit-unit.ensures.value told) in cc),
    )

pub returns-clause-fine : goal.returns-clause-fine
returns-clause-fine c =
    let size = c.unit-unit.ensures.size in
    let back = comes_back c.unit-unit.result (omega (arith, size)) in
    let exact = rw back at c.in_ok-sweep.ensures.fine in (
      λ e. absurd (c.rows_from.ensures.fine e),
      λ told. absurd (let e = exact.1 (too_fine_is c.args.net.now c.args.k c.unit-unit.result c.unit-unit.ensures.value told) in cc),
    )
