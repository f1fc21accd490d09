use Rattle.std.proofs.Common.{arith}
use Rattle.pf_io.proofs.Digits.{length_five, length_six, length_seven, length_eight}
use Rattle.pf_io.proofs.printer.count_to_eight.Goals as goal

pub returns-then-n-lt100000 : goal.returns-then-n-lt100000
returns-then-n-lt100000 c = omega (arith, length_five c.args.n (omega arith) c.if-n-lt100000.true)

pub returns-then-n-lt1000000 : goal.returns-then-n-lt1000000
returns-then-n-lt1000000 c = omega (arith, length_six c.args.n (omega arith) c.if-n-lt1000000.true)

pub returns-then-n-lt10000000 : goal.returns-then-n-lt10000000
returns-then-n-lt10000000 c = omega (arith, length_seven c.args.n (omega arith) c.if-n-lt10000000.true)

pub returns : goal.returns
returns c = omega (arith, length_eight c.args.n (omega arith) (omega arith))
