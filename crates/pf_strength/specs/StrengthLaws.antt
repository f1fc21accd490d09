-- What the certificate proves, and what texts tell.
use Rattle.std.specs.Prelude.{◌≡◌, ◌↔◌, ℕ, List}
use Rattle.pf_model.specs.Fraction.{Fraction, IsEqual}
use Rattle.pf_graph.specs.WeightedGraph.{WeightedGraph, IsWeightedGraph}
use Rattle.pf_graph.specs.Labels.{IsPartition}
use Rattle.pf_graph.specs.Limits.{IsWithinLimits}
use Rattle.pf_graph.specs.Best.{IsStrength}
use Rattle.pf_strength.specs.Strength.{StrengthAnswer, IsStrengthShape, CertifiesStrength}
use Rattle.pf_strength.specs.Text.{strength_text}
use Rattle.pf_strength.specs.Right.{IsRightStrength, IsCertifiedStrength}

-- no partition into at least two parts has a smaller ratio
abbrev pub CertificateIsStrength : Type 0
CertificateIsStrength = (g : WeightedGraph) (a : StrengthAnswer) → IsWeightedGraph g → IsPartition g.nodes a.parts → CertifiesStrength g a → IsStrength g a.level a.parts

-- answers of the right shape with equal texts are equal
abbrev pub StrengthFromText : Type 0
StrengthFromText = (g : WeightedGraph) (a b : StrengthAnswer) → IsWithinLimits g → IsStrengthShape g a → IsStrengthShape g b → strength_text a ≡ strength_text b → a ≡ b

-- the verdict is `yes` for exactly the texts of right answers
abbrev pub CertifiedIsRight : Type 0
CertifiedIsRight = (g : WeightedGraph) (text : List ℕ) → IsWithinLimits g → IsCertifiedStrength g text ↔ IsRightStrength g text

-- a graph has one strength, whichever partitions attain it
abbrev pub StrengthIsUnique : Type 0
StrengthIsUnique = (g : WeightedGraph) (x y : Fraction) (d r : List ℕ) → IsStrength g x d → IsStrength g y r → IsEqual x y

-- so two right answers have the same level
abbrev pub LevelIsUnique : Type 0
LevelIsUnique = (g : WeightedGraph) (text other : List ℕ) (a : IsRightStrength g text) (b : IsRightStrength g other) → a.answer.level ≡ b.answer.level
