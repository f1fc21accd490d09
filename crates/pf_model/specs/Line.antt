-- Lines over the parameter.
use Rattle.std.specs.Prelude.{◌≡◌, ◌^◌, ℤ, pos, neg_ℤ, ◌+ℤ◌, ◌*ℤ◌, ◌≤ℤ◌}
use Rattle.pf_model.specs.Fraction.{Fraction, IsParameter, IsEqual}

-- the line a + b l
pub record AffineLine : Type 0 where
  pub a : ℤ
  pub b : ℤ

-- the value at p/q, in units of 1/q
abbrev pub value_at : AffineLine → Fraction → ℤ
value_at line x = (line.a *ℤ x.q) +ℤ (line.b *ℤ x.p)

-- the one parameter at which two lines have the same value
pub record IsMeeting (first second : AffineLine) (x : Fraction) : Type 0 where
  pub parameter : IsParameter x
  pub same_value : value_at first x ≡ value_at second x
  pub only : (y : Fraction) → IsParameter y → value_at first y ≡ value_at second y → IsEqual y x

-- the widths within which the code keeps a line
pub record IsBoundedLine (line : AffineLine) : Type 0 where
  pub a_low : neg_ℤ (pos (2 ^ 71)) ≤ℤ line.a
  pub a_high : line.a ≤ℤ pos (2 ^ 71)
  pub b_low : neg_ℤ (pos (2 ^ 45)) ≤ℤ line.b
  pub b_high : line.b ≤ℤ pos (2 ^ 45)
