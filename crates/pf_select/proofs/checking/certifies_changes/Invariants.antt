use Rattle.std.proofs.Common.{◌≡◌, length, ℕ, ◌<◌}
use Rattle.pf_select.specs.Tests.{CertifiesChange}
use Rattle.pf_select.proofs.checking.certifies_changes.Given as goal

abbrev pub invariant-prices : goal.invariant-prices
invariant-prices l = record {
  on_parts : length l.on_parts ≡ length l.fn.on_parts;
  by_products : length l.by_products ≡ length l.fn.by_products;
  parts : length l.parts ≡ length l.fn.parts;
  products : length l.products ≡ length l.fn.products;
  each : (j : ℕ) → j < l.j → CertifiesChange l.catalogue l.answer.prices l.answer.selections l.answer.charges j;
}
