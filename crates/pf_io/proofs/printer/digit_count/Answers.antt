use Rattle.std.proofs.Common.{◌/◌, arith}
use Rattle.pf_io.proofs.Digits.{length_most, length_behind_eight}
use Rattle.pf_io.proofs.printer.digit_count.Goals as goal

pub overflow_add-result : goal.overflow_add-result
overflow_add-result c = omega (arith, length_most c.args.n c.ranges.n.fits, length_behind_eight c.args.n (omega arith) c.ranges.n.fits, c.count_short-then-left-lt100000000.ensures)

pub returns-then-left-lt100000000 : goal.returns-then-left-lt100000000
returns-then-left-lt100000000 c = omega (arith, length_behind_eight c.args.n (omega arith) c.ranges.n.fits, c.count_short-then-left-lt100000000.ensures)

pub overflow_add-result-2 : goal.overflow_add-result-2
overflow_add-result-2 c =
    omega (arith, length_most c.args.n c.ranges.n.fits, length_behind_eight c.args.n (omega arith) c.ranges.n.fits, length_behind_eight (c.args.n / 100000000) (omega arith) (omega arith), c.count_short-2.ensures)

pub returns : goal.returns
returns c = omega (arith, length_behind_eight c.args.n (omega arith) c.ranges.n.fits, length_behind_eight (c.args.n / 100000000) (omega arith) (omega arith), c.count_short-2.ensures)
