-- The least-cut function without flows.
use Rattle.std.specs.Prelude.{List, Bool}
use Rattle.pf_model.specs.Fraction.{Fraction}

-- points, and a cut between each and the next
pub record CutFunction : Type 0 where
  pub points : List Fraction
  pub cuts : List (List Bool)
