use Rattle.pf_lines.proofs.TakingLemmas.{rest_is}
use Rattle.pf_lines.proofs.taking.take_word.Goals as goal

pub returns-then-word-clause-found : goal.returns-then-word-clause-found
returns-then-word-clause-found c = λ rest e. rest_is c.args.text.now c.args.word.now c.word.new.self rest c.if-word.ensures.taken e
