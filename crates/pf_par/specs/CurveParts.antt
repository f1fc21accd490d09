-- The parts of a curve's text: its outline, and its flows.
use Rattle.std.specs.Prelude.{◌≡◌, ℕ, List, ◌++◌, length, All, codes}
use Rattle.pf_model.specs.Network.{Network}
use Rattle.pf_model.specs.Answer.{IsFlowShape}
use Rattle.pf_par.specs.Answers.{flows_text}
use Rattle.pf_par.specs.Outline.{IsOutlineShape, outline_text}
use Rattle.pf_par.specs.declared.reading_curve.Parts.{Parts}

-- the first word, the outline, the flows and the last word
abbrev pub parts_text : Network → Parts → List ℕ
parts_text net parts = codes "o curve\n" ++ outline_text net parts.outline ++ flows_text 0 parts.flows ++ codes "end\n"

-- an outline of the right shape, and a flow for each of its points
pub record IsPartsShape (net : Network) (parts : Parts) : Type 0 where
  pub outline : IsOutlineShape net parts.outline
  pub count : length parts.flows ≡ length parts.outline.points
  pub flows : All (IsFlowShape net) parts.flows
