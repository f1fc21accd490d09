-- The rows of a sweep.
use Rattle.std.specs.Prelude.{◌≡◌, ℕ, ◌+◌, ◌<◌, ◌≤◌, ℤ, pos, ◌≤ℤ◌, List, length, slice_index_or}
use Rattle.pf_model.specs.Fraction.{Fraction}
use Rattle.pf_model.specs.Cut.{IsLeastValue, IsLeastSize}
use Rattle.pf_model.specs.Network.{Network, IsInInterval, network_at}
use Rattle.pf_model.specs.Answer.{Row, IsRowShape}
use Rattle.pf_model.specs.Mirror.{negative}
use Rattle.pf_sweep.specs.Parameters.{of_units, unit_of, step_units, sweep_parameter}
use Rattle.pf_sweep.specs.Swept.{Swept}

-- the least value, in units of 1/q of the parameter, and the least size there
pub record IsRightRow (net : Network) (x : Fraction) (row : Row) : Type 0 where
  pub shape : IsRowShape row
  pub parameter : row.at ≡ x
  pub value : IsLeastValue (network_at net row.at) row.value
  pub size : IsLeastSize (network_at net row.at) row.size

-- row j, and past the last row one of the low end
abbrev pub row_at : Network → List Row → ℕ → Row
row_at net rows j = slice_index_or rows j (record { at = net.low; value = pos 0; size = 0 })

-- the first rows of a sweep of k steps
pub record AreFirstRows (net : Network) (k count : ℕ) (rows : List Row) : Type 0 where
  pub count_is : length rows ≡ count
  pub each : (j : ℕ) → j < length rows → IsRightRow net (sweep_parameter net k j) (row_at net rows j)

-- a row at each end of k equal steps through the interval
abbrev pub AreRows : Network → ℕ → List Row → Type 0
AreRows net k rows = AreFirstRows net k (k + 1) rows

-- the row of the mirror: with the parameter negated, and all else the same
abbrev pub turned_row : Row → Row
turned_row row = record { at = negative row.at; value = row.value; size = row.size }

-- a sweep from which row j and those after it are still to come: it stands at the parameter of row j or before it
pub record IsUnderway (net : Network) (k j : ℕ) (sweep : Swept) (rows : List Row) : Type 0 where
  pub net_is : sweep.net ≡ net
  pub unit_is : sweep.unit ≡ unit_of net k
  pub at_most : sweep.at ≤ℤ step_units net k j
  pub some : 1 ≤ j
  pub most : j ≤ k + 1
  pub held : AreFirstRows net k j rows

-- a sweep that goes ahead, and stands at the parameter of row j or before it
pub record IsAhead (net : Network) (k j : ℕ) (sweep : Swept) : Type 0 where
  pub net_is : sweep.net ≡ net
  pub unit_is : sweep.unit ≡ unit_of net k
  pub at_most : sweep.at ≤ℤ step_units net k j

-- what is known at a later parameter y: it is that of row j or after it, and this is the least value there
pub record IsSeen (net : Network) (k j : ℕ) (y least : ℤ) : Type 0 where
  pub inside : IsInInterval net (of_units (unit_of net k) y)
  pub later : step_units net k j ≤ℤ y
  pub value : IsLeastValue (network_at net (of_units (unit_of net k) y)) least
