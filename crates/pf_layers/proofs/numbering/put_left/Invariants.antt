use Rattle.std.proofs.Common.{suc, not}
use Rattle.std.specs.Prelude.{pos}
use Rattle.pf_model.specs.Cut.{has}
use Rattle.pf_layers.proofs.Putting.{IsPutTo}
use Rattle.pf_layers.proofs.numbering.put_left.Given as goal

abbrev pub invariant-elements : goal.invariant-elements
invariant-elements l = IsPutTo (λ v. not (has l.side (suc v))) (pos l.number) l.fn.layers l.layers l.v
