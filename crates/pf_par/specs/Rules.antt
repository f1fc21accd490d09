-- The rules of the kind `par`, apart from what a line gives.
use Rattle.std.specs.Prelude.{◌≡◌, ℕ, ℤ, pos, neg_ℤ, ◌≤ℤ◌, List, Option, Some, None, Result, Ok, Err}
use Rattle.pf_model.specs.declared.AffineArc.{AffineArc}
use Rattle.pf_model.specs.declared.Sense.{Sense}
use Rattle.pf_model.specs.Network.{Network, IsMonotone}
use Rattle.pf_text.specs.declared.RuleKind.{RuleKind}
use Rattle.pf_par.specs.Laws.{IsTextNetwork}
use Rattle.pf_par.specs.Text.{ParameterInterval, sense_or_rising, network_by}
use Rattle.pf_text.specs.Numbers.{billion}

-- the rule that is broken decides, and else what follows
abbrev pub broken_by : {X : Type 0} → Option RuleKind → Result X RuleKind → Result X RuleKind
broken_by (Some rule) next = Err rule
broken_by None next = next

-- an end of an interval as a line may spell it
pub record IsEnd (p q : ℤ) : Type 0 where
  pub p_low : neg_ℤ (pos billion) ≤ℤ p
  pub p_high : p ≤ℤ pos billion
  pub q_low : pos 1 ≤ℤ q
  pub q_high : q ≤ℤ pos billion

-- the network of what was given, where there is one, is monotone and within the limits of texts
abbrev pub IsGoodEnd : ℕ → Option Sense → Option ParameterInterval → Option ℕ → Option ℕ → List AffineArc → Type 0
IsGoodEnd nodes sense interval source sink arcs = (net : Network) → network_by nodes (sense_or_rising sense) interval source sink arcs ≡ Ok net → IsMonotone net × IsTextNetwork net
