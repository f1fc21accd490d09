use Rattle.std.proofs.Common.{◌∙◌, ap}
use Rattle.std.specs.Option.{option_map}
use Rattle.pf_top.specs.Words.{word_bytes, command_of_request}
use Rattle.pf_top.proofs.RunningLemmas.{run_usage, usage_by_words}
use Rattle.pf_top.proofs.running.decide.Goals as goal

pub returns-in-None-clause-run : goal.returns-in-None-clause-run
returns-in-None-clause-run g c =
    run_usage g.S.Source c.args.source.now g.O.Sink c.args.out.now (word_bytes c.args.words.now) (c.read_words.ensures ∙ ap (option_map command_of_request) c.in-None.is)

pub returns-in-None-clause-usage : goal.returns-in-None-clause-usage
returns-in-None-clause-usage g c =
    usage_by_words g.S.Source c.args.source.now c.args.source.now g.O.Sink c.args.out.now c.args.out.now (word_bytes c.args.words.now) _ (returns-in-None-clause-run g c)

pub returns-in-Some-clause-run : goal.returns-in-Some-clause-run
returns-in-Some-clause-run g c =
    c.obey.ensures (word_bytes c.args.words.now) (c.read_words.ensures ∙ ap (option_map command_of_request) c.in-Some.is)

pub returns-in-Some-clause-usage : goal.returns-in-Some-clause-usage
returns-in-Some-clause-usage g c =
    usage_by_words g.S.Source c.args.source.now c.obey.new.source g.O.Sink c.args.out.now c.obey.new.out (word_bytes c.args.words.now) c.obey.result (returns-in-Some-clause-run g c)
