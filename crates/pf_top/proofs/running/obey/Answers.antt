use Rattle.std.proofs.Common.{◌∙◌, ap, Some}
use Rattle.pf_top.specs.Words.{command_of_request}
use Rattle.pf_top.proofs.RunningLemmas.{run_drawn}
use Rattle.pf_top.proofs.running.obey.Goals as goal

pub returns-in-Text : goal.returns-in-Text
returns-in-Text g c = λ words some. c.work.ensures words (some ∙ ap (λ r. Some (command_of_request r)) c.in-Text.is)

pub returns-in-Generate : goal.returns-in-Generate
returns-in-Generate g c = λ words some.
    run_drawn g.S.Source c.args.source.now g.O.Sink c.args.out.now c.generate.new.out c.in-Generate.seed words _ (some ∙ ap (λ r. Some (command_of_request r)) c.in-Generate.is) c.generate.ensures
