use Rattle.std.proofs.Common.{arith}
use Rattle.pf_io.proofs.Digits.{length_most, digit_put, text_put}
use Rattle.pf_io.proofs.printer.put_digits.Goals as goal

pub returns-then-n-lt10-clause-text : goal.returns-then-n-lt10-clause-text
returns-then-n-lt10-clause-text c = digit_put c.args.buffer.now c.args.at c.args.n (omega arith) c.if-n-lt10.true

pub overflow_add-end : goal.overflow_add-end
overflow_add-end c = omega (arith, length_most c.args.n c.ranges.n.fits)

pub write_digits-requires : goal.write_digits-requires
write_digits-requires c = (omega arith, omega (arith, length_most c.args.n c.ranges.n.fits))

pub returns-clause-text : goal.returns-clause-text
returns-clause-text c = text_put c.args.buffer.now c.write_digits.new.buf _ c.args.at c.write_digits.result _ c.write_digits.ensures.start (omega arith) c.write_digits.ensures.written c.write_digits.ensures.before

pub returns-clause-short : goal.returns-clause-short
returns-clause-short c = omega (arith, length_most c.args.n c.ranges.n.fits)
