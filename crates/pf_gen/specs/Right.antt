-- The summary of a network, its text, and which text is the right answer to `generate`.
use Rattle.std.specs.Prelude.{◌≡◌, ℕ, Bool, List, [], ◌∷◌, ◌++◌, length, codes}
use Rattle.pf_model.specs.Fraction.{Fraction}
use Rattle.pf_model.specs.Cut.{IsLeastValue}
use Rattle.pf_model.specs.Network.{Network, network_at}
use Rattle.pf_model.specs.Curve.{IsCurve}
use Rattle.pf_text.specs.Spelling.{line, row_line}
use Rattle.pf_gen.specs.declared.summary.Summary.{Summary}
use Rattle.pf_gen.specs.Generator.{net_of}

-- the numbers of nodes and arcs, how many segments the curve has, and the least values at the two ends of the interval
pub record Summarizes (net : Network) (s : Summary) : Type 0 where
  pub points : List Fraction
  pub cuts : List (List Bool)
  pub curve : IsCurve net points cuts
  pub nodes : s.nodes ≡ net.nodes
  pub arcs : s.arcs ≡ length net.arcs
  pub segments : s.segments ≡ length cuts
  pub low_value : IsLeastValue (network_at net net.low) s.low_value
  pub high_value : IsLeastValue (network_at net net.high) s.high_value

unfoldable pub summary_text : Summary → List ℕ
summary_text s =
    line (codes "o" ∷ codes "generate" ∷ [])
    ++ row_line (codes "g") (s.nodes ∷ s.arcs ∷ s.segments ∷ []) (s.low_value ∷ s.high_value ∷ [])
    ++ line (codes "end" ∷ [])

-- `generate`: the summary of the network of n nodes and m arcs that the seed draws
pub record IsRightSummary (seed n m : ℕ) (text : List ℕ) : Type 0 where
  pub summary : Summary
  pub of : Summarizes (net_of seed n m) summary
  pub text_is : text ≡ summary_text summary
