use Rattle.std.proofs.Common.{arith}
use Rattle.std.specs.Prelude.{FitsSigned}
use Rattle.std.specs.Int.{w128}
use Rattle.std.proofs.lemmas.Int.{to_z-of_z}
use Rattle.pf_lines.proofs.SpellingLemmas.{fits_between}
use Rattle.pf_lines.proofs.ItemsTaken.{items_begin, item_taken, item_refused, items_end}
use Rattle.pf_lines.proofs.RowsTaken.{number_items, numbers_stand}
use Rattle.pf_lines.proofs.taking.take_numbers.Goals as goal

pub numbers-init : goal.numbers-init
numbers-init c = rw (c.in_ok-numbers.ensures.items, to_z-of_z w128 c.args.min c.ranges.min, to_z-of_z w128 c.args.max c.ranges.max) (items_begin (number_items c.args.min c.args.max) c.args.width c.args.text.now)

pub returns-in_err-number-clause-found : goal.returns-in_err-number-clause-found
returns-in_err-number-clause-found c = λ numbers rest row stops there.
    let found = rw (to_z-of_z w128 c.args.min c.ranges.min, to_z-of_z w128 c.args.max c.ranges.max) at c.in_err-number.ensures.found in
    let so_far = rw (to_z-of_z w128 c.args.min c.ranges.min, to_z-of_z w128 c.args.max c.ranges.max) at c.numbers.invariant in
    absurd (item_refused (number_items c.args.min c.args.max) c.args.width c.args.text.now c.numbers.text c.numbers._i c.numbers.numbers.items ⊥ so_far c.numbers-test.true
    (λ n later is ok e. found n later is.low is.high ok e) numbers rest (numbers_stand c.args.width c.args.min c.args.max c.args.text.now numbers rest row stops there))

pub numbers-preserved : goal.numbers-preserved
numbers-preserved c =
    let range = rw (to_z-of_z w128 c.args.min c.ranges.min, to_z-of_z w128 c.args.max c.ranges.max) at c.in_ok-number.ensures.range in
    let found = rw (to_z-of_z w128 c.args.min c.ranges.min, to_z-of_z w128 c.args.max c.ranges.max) at c.in_ok-number.ensures.found in
    let fits : FitsSigned w128 c.in_ok-number.number = fits_between c.args.min c.args.max c.in_ok-number.number c.ranges.min c.ranges.max range.0 range.1 in
    let back = to_z-of_z w128 c.in_ok-number.number fits in
    let so_far = rw (to_z-of_z w128 c.args.min c.ranges.min, to_z-of_z w128 c.args.max c.ranges.max) at c.numbers.invariant in
    rw (c.in_ok-push.ensures.items, back, to_z-of_z w128 c.args.min c.ranges.min, to_z-of_z w128 c.args.max c.ranges.max) (item_taken (number_items c.args.min c.args.max) c.args.width c.args.text.now c.numbers.text c.take_number.new.text c.numbers._i c.numbers.numbers.items c.in_ok-number.number so_far c.numbers-test.true
    c.in_ok-number.ensures.taken (record { low = range.0; high = range.1 }) (λ n later is ok e. found n later is.low is.high ok e))

pub returns-clause-taken : goal.returns-clause-taken
returns-clause-taken c = rw c.from_vec.ensures c.numbers.invariant.taken

pub returns-clause-shape : goal.returns-clause-shape
returns-clause-shape c =
    let so_far = rw (to_z-of_z w128 c.args.min c.ranges.min, to_z-of_z w128 c.args.max c.ranges.max) at c.numbers.invariant in
    rw c.from_vec.ensures (record { full = omega (arith, so_far.number); each = so_far.each })

pub returns-clause-found : goal.returns-clause-found
returns-clause-found c = λ numbers rest row stops there.
    let so_far = rw (to_z-of_z w128 c.args.min c.ranges.min, to_z-of_z w128 c.args.max c.ranges.max) at c.numbers.invariant in
    rw c.from_vec.ensures (items_end (number_items c.args.min c.args.max) c.args.width c.args.text.now c.numbers.text c.numbers._i c.numbers.numbers.items so_far (omega arith)
    numbers rest (numbers_stand c.args.width c.args.min c.args.max c.args.text.now numbers rest row stops there))
