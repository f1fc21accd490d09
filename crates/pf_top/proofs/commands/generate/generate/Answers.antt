use Rattle.std.proofs.Common.{refl}
use Rattle.pf_gen.specs.Right.{summary_text}
use Rattle.pf_top.proofs.RunningLemmas.{drawn_no_memory, drawn_answered, drawn_write_fault}
use Rattle.pf_top.proofs.commands.generate.generate.Goals as goal

pub returns-in-Err : goal.returns-in-Err
returns-in-Err g c = drawn_no_memory g.O.Sink c.args.out.now c.args.seed

pub returns-in-Ok-hand_summary : goal.returns-in-Ok-hand_summary
returns-in-Ok-hand_summary g c =
    drawn_answered g.O.Sink c.args.out.now c.hand_summary.new.out c.args.seed (summary_text c.in-Ok.summary)
    (record { summary = c.in-Ok.summary; of = c.in-Ok.ensures; text_is = refl })
    c.hand_summary.ensures.cause.later c.in-Ok-hand_summary.ensures.whole

pub returns-in-Err-hand_summary : goal.returns-in-Err-hand_summary
returns-in-Err-hand_summary g c =
    drawn_write_fault g.O.Sink c.args.out.now c.hand_summary.new.out c.args.seed (summary_text c.in-Ok.summary)
    (record { summary = c.in-Ok.summary; of = c.in-Ok.ensures; text_is = refl })
    c.hand_summary.ensures.cause.later c.in-Err-hand_summary.ensures.cause.failed (c.hand_summary.ensures.grows, c.hand_summary.ensures.front)
