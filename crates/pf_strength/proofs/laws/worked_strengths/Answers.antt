use Rattle.pf_strength.proofs.Examples.{triangle_certified, triangle_text, raised_past_weight, charged_root, loose_part, pairs_certified, one_part, heavy_certified}
use Rattle.pf_strength.proofs.laws.worked_strengths.Goals as goal

pub returns : goal.returns
returns c = record {
  triangle = triangle_certified;
  text = triangle_text;
  raised = raised_past_weight;
  charged = charged_root;
  loose = loose_part;
  pairs = pairs_certified;
  one = one_part;
  heavy = heavy_certified;
}
