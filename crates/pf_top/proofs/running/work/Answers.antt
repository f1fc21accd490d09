use Rattle.std.proofs.Common.{ap, ◌∙◌, Err}
use Rattle.pf_top.specs.Words.{text_command_of}
use Rattle.pf_top.proofs.RunningLemmas.{run_read_fault, run_too_long, run_no_memory, run_ended}
use Rattle.pf_top.proofs.running.work.Goals as goal

pub returns-in-Err-Failed : goal.returns-in-Err-Failed
returns-in-Err-Failed g c = λ words some.
    run_read_fault g.S.Source c.args.source.now c.read_all.new.source g.O.Sink c.args.out.now (text_command_of c.args.request.now) words some
    (c.read_all.ensures.others (λ e. absurd cc)) (c.read_all.ensures.failed (c.in-Err-Failed.is ∙ ap Err c.in-Err-Failed.field-0-is)) c.read_all.ensures.later

pub returns-in-Err-TooLong : goal.returns-in-Err-TooLong
returns-in-Err-TooLong g c = λ words some.
    run_too_long g.S.Source c.args.source.now c.read_all.new.source g.O.Sink c.args.out.now (text_command_of c.args.request.now) words some
    (c.read_all.ensures.too_long (c.in-Err-TooLong.is ∙ ap Err c.in-Err-TooLong.field-0-is)) c.read_all.ensures.later

pub returns-in-Err-NoMemory : goal.returns-in-Err-NoMemory
returns-in-Err-NoMemory g c = λ words some.
    run_no_memory g.S.Source c.args.source.now c.read_all.new.source g.O.Sink c.args.out.now (text_command_of c.args.request.now) words some
    (c.read_all.ensures.others (λ e. absurd cc)) c.read_all.ensures.later

pub returns : goal.returns
returns g c = λ words some.
    run_ended g.S.Source c.args.source.now c.read_all.new.source g.O.Sink c.args.out.now c.run_request.new.out (text_command_of c.args.request.now) words c.in-Ok.bytes.items _
    some c.in-Ok.ensures.whole c.in-Ok.ensures.end c.in-Ok.ensures.within c.read_all.ensures.later (rw c.deref.ensures.value at c.run_request.ensures)
