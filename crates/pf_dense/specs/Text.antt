-- The text of a densest set.
use Rattle.std.specs.Prelude.{ℕ, List, codes}
use Rattle.pf_ratio.specs.Answer.{answer_text}
use Rattle.pf_dense.specs.Answer.{DenseAnswer}

-- the density, the set, and the charges to first ends
unfoldable pub dense_text : DenseAnswer → List ℕ
dense_text answer = answer_text (codes "densest") (codes "d") answer.density answer.chosen answer.charges
