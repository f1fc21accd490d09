use Rattle.std.proofs.Common.{◌++◌, [], Ok, Err}
use Rattle.std.proofs.lemmas.List.{append-nil}
use Rattle.std.proofs.lemmas.Result.{err_from_is_err_and}
use Rattle.pf_io.specs.Printing.{Adds}
use Rattle.pf_io.proofs.PrintingLemmas.{Adds-then, Adds-stopped}
use Rattle.pf_io.proofs.printer.Printer.pass_on.Goals as goal

pub returns-in_err-hand_buffer : goal.returns-in_err-hand_buffer
returns-in_err-hand_buffer g c =
    let p = err_from_is_err_and c.from_residual.result c.from_residual.ensures.1 in
    let filled : Adds {T = Unit {0}} c.args.self.now c.hand_buffer.new.self (c.args.front.now ++ []) (Err p.0) = Adds-then c.args.self.now c.keep.new.self c.hand_buffer.new.self c.args.front.now [] (Err p.0) c.keep.ensures.adds c.in_err-hand_buffer.ensures.adds in
    let kept : Adds {T = Unit {0}} c.args.self.now c.hand_buffer.new.self (c.args.front.now) (Err p.0) = rw append-nil at filled in
    record { adds = rw p.1 (Adds-stopped c.args.self.now c.hand_buffer.new.self c.args.front.now c.args.rest.now p.0 kept) }

pub returns : goal.returns
returns g c =
    let filled : Adds {T = Unit {0}} c.args.self.now c.hand_buffer.new.self (c.args.front.now ++ []) (Ok tt) = Adds-then c.args.self.now c.keep.new.self c.hand_buffer.new.self c.args.front.now [] (Ok tt) c.keep.ensures.adds c.in_ok-hand_buffer.ensures.adds in
    let kept : Adds {T = Unit {0}} c.args.self.now c.hand_buffer.new.self c.args.front.now (Ok tt) = rw append-nil at filled in
    record { adds = Adds-then c.args.self.now c.hand_buffer.new.self c.begin.new.self c.args.front.now c.args.rest.now c.begin.result kept c.begin.ensures.adds }
