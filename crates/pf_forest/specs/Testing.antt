-- What the parts of the test tell.
use Rattle.std.specs.Prelude.{◌≡◌, ℕ, ◌<◌, ℤ, ◌≤ℤ◌, pos, List}
use Rattle.pf_model.specs.Cut.{at_arc}

-- from 0 to the other number
pub record IsBetween (number most : ℤ) : Type 0 where
  pub low : pos 0 ≤ℤ number
  pub high : number ≤ℤ most

-- the root has nothing, and no vertex below count more than the limit
pub record AreFair (sums : List ℤ) (limit : ℤ) (root count : ℕ) : Type 0 where
  pub none : at_arc sums root ≡ pos 0
  pub most : (v : ℕ) → v < count → at_arc sums v ≤ℤ limit
