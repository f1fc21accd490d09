use Rattle.std.proofs.Common.{arith}
use Rattle.itoa.proofs.Decimal.{length_one, length_two}
use Rattle.pf_io.proofs.Digits.{length_three, length_fourth}
use Rattle.pf_io.proofs.printer.count_to_four.Goals as goal

pub returns-then-n-lt10 : goal.returns-then-n-lt10
returns-then-n-lt10 c = omega (arith, length_one c.args.n c.if-n-lt10.true)

pub returns-then-n-lt100 : goal.returns-then-n-lt100
returns-then-n-lt100 c = omega (arith, length_two c.args.n (omega arith) c.if-n-lt100.true)

pub returns-then-n-lt1000 : goal.returns-then-n-lt1000
returns-then-n-lt1000 c = omega (arith, length_three c.args.n (omega arith) c.if-n-lt1000.true)

pub returns : goal.returns
returns c = omega (arith, length_fourth c.args.n (omega arith) (omega arith))
