use Rattle.pf_select.specs.Dropping.{IsTaken}
use Rattle.pf_select.proofs.dropping.take_charges.Given as goal

abbrev pub invariant-needs : goal.invariant-needs
invariant-needs l = record {
  parts : IsTaken (λ need. need.1) l.needs l.charges l.k l.fn.on_parts l.on_parts;
  products : IsTaken (λ need. need.0) l.needs l.charges l.k l.fn.by_products l.by_products;
}
