use Rattle.std.proofs.Common.{ℕ, ◌<◌, suc}
use Rattle.pf_model.specs.Fraction.{IsBelow}
use Rattle.pf_select.specs.Problem.{price_at}
use Rattle.pf_select.proofs.checking.prices_rise.Given as goal

abbrev pub invariant-prices : goal.invariant-prices
invariant-prices l = (j : ℕ) → j < l.j → IsBelow (price_at l.prices j) (price_at l.prices (suc j))
