use Rattle.pf_select.proofs.worth.worth_at.Goals as goal

pub worth-requires-clause-places : goal.worth-requires-clause-places
worth-requires-clause-places c = c.parts.ensures.limits.few_products
