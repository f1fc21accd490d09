-- Quotients that are rounded down.
use Rattle.std.specs.Prelude.{ℤ, ◌+ℤ◌, ◌*ℤ◌, ◌≤ℤ◌, ◌<ℤ◌}

-- q is the quotient of x by d, rounded down
pub record IsFloor (x d q : ℤ) : Type 0 where
  pub low : (q *ℤ d) ≤ℤ x
  pub high : x <ℤ ((q *ℤ d) +ℤ d)
