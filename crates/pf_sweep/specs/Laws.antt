-- What holds of every sweep and of its rows.
use Rattle.std.specs.Prelude.{◌≡◌, ℕ, ◌+◌, ◌-◌, ◌*◌, ◌≤◌, List, [], ◌∷◌, All, map, reverse}
use Rattle.pf_model.specs.Fraction.{Fraction}
use Rattle.pf_model.specs.Network.{Network, IsMonotone}
use Rattle.pf_model.specs.Answer.{Row, IsRowShape}
use Rattle.pf_model.specs.Mirror.{negative, mirror}
use Rattle.pf_sweep.specs.Swept.{Swept, IsSettled, IsAdvanced, IsRaised}
use Rattle.pf_sweep.specs.Rows.{IsRightRow, AreRows, turned_row}
use Rattle.pf_sweep.specs.Text.{sweep_text, IsRightSweep}

-- a sweep, and a counter beside it
pub record Counted : Type 0 where
  pub sweep : Swept
  pub steps : ℕ

-- each follows from the one before by a step, to whichever parameter
abbrev pub AreSteps : Counted → List Counted → Type 0
AreSteps before [] = Unit {0}
AreSteps before (after ∷ later) = IsAdvanced before.sweep after.sweep after.sweep.at before.steps after.steps × AreSteps after later

-- the last of them
abbrev pub last_of : Counted → List Counted → Counted
last_of first [] = first
last_of first (next ∷ later) = last_of next later

-- over any list of steps no label falls, and the counter rises by at most (n - 2) (2 n - 1)
abbrev pub FewRelabellings : Type 0
FewRelabellings = (first : Counted) (later : List Counted) → IsMonotone first.sweep.net → IsSettled first.sweep → AreSteps first later →
    IsRaised first.sweep (last_of first later).sweep first.steps (last_of first later).steps
    × ((last_of first later).steps ≤ first.steps + (first.sweep.net.nodes - 2) * (2 * first.sweep.net.nodes - 1))

-- rows of the right shape with equal texts are equal
abbrev pub RowsFromText : Type 0
RowsFromText = (a b : List Row) → All IsRowShape a → All IsRowShape b → sweep_text a ≡ sweep_text b → a ≡ b

-- a right row of a network, turned, is one of its mirror
abbrev pub RowOfMirror : Type 0
RowOfMirror = (net : Network) (x : Fraction) (row : Row) → IsRightRow net x row → IsRightRow (mirror net) (negative x) (turned_row row)

-- the rows of k equal steps, turned and in reverse order, are those of the mirror
abbrev pub RowsOfMirror : Type 0
RowsOfMirror = (net : Network) (k : ℕ) (rows : List Row) → IsMonotone net → 1 ≤ k → AreRows net k rows → AreRows (mirror net) k (reverse (map turned_row rows))

-- there is one list of rows, and so one right text
abbrev pub RowsAreUnique : Type 0
RowsAreUnique = (net : Network) (k : ℕ) (a b : List Row) → AreRows net k a → AreRows net k b → a ≡ b

abbrev pub SweepIsUnique : Type 0
SweepIsUnique = (k : ℕ) (net : Network) (text other : List ℕ) → IsRightSweep k net text → IsRightSweep k net other → text ≡ other
