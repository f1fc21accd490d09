use Rattle.std.proofs.Common.{suc}
use Rattle.std.specs.Prelude.{pos}
use Rattle.pf_model.specs.Cut.{has}
use Rattle.pf_layers.proofs.Putting.{IsPutTo}
use Rattle.pf_layers.proofs.numbering.put_held.Given as goal

abbrev pub invariant-elements : goal.invariant-elements
invariant-elements l = IsPutTo (λ v. has l.side (suc v)) (pos l.number) l.fn.layers l.layers l.v
