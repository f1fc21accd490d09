-- Which texts are right answers.
use Rattle.std.specs.Prelude.{◌≡◌, ℕ, List}
use Rattle.pf_model.specs.Fraction.{Fraction}
use Rattle.pf_graph.specs.WeightedGraph.{WeightedGraph}
use Rattle.pf_reinforce.specs.declared.reinforcement.Reinforcement.{Reinforcement}
use Rattle.pf_reinforce.specs.Answer.{Answers}
use Rattle.pf_reinforce.specs.Text.{reinforcement_text}

-- `reinforce P/Q`: what to add for the level, or what blocks it. The level is that of the words in lowest terms.
pub record IsRightReinforcement (x : Fraction) (g : WeightedGraph) (text : List ℕ) : Type 0 where
  pub answer : Reinforcement
  pub means : Answers g x answer
  pub text_is : text ≡ reinforcement_text answer
