use Rattle.std.proofs.Common.{ℕ, ap}
use Rattle.rand_pcg.specs.Lcg.{Lcg}
use Rattle.pf_gen.specs.Generator.{word_of, behind}
use Rattle.pf_gen.proofs.drawing.draw.Goals as goal

pub returns-clause-word : goal.returns-clause-word
unfolding word_of
returns-clause-word c = ap (λ (p : ℕ × Lcg). p.0) c.next_word.ensures

pub returns-clause-moved : goal.returns-clause-moved
unfolding behind
returns-clause-moved c = ap (λ (p : ℕ × Lcg). p.1) c.next_word.ensures
