-- The parameters of a sweep: fractions of one denominator, from the low end of the interval on.
use Rattle.std.specs.Prelude.{◌≡◌, ℕ, ◌^◌, Bool, ℤ, pos, neg_ℤ, ◌+ℤ◌, ◌-ℤ◌, ◌*ℤ◌, ◌≤ℤ◌, int_lt}
use Rattle.pf_model.specs.Fraction.{Fraction, lowest}
use Rattle.pf_model.specs.Network.{Network}
use Rattle.pf_sweep.specs.declared.parameter.Parameter.{Parameter}

-- p units of 1/unit
abbrev pub of_units : ℤ → ℤ → Fraction
of_units unit p = record { p = p; q = unit }

abbrev pub fraction_of : Parameter → Fraction
fraction_of x = of_units x.unit x.p

-- the greatest denominator of a sweep
abbrev pub most_unit : ℕ
most_unit = 2 ^ 40

-- an end of an interval is at most 2^33 in size
pub record IsNearEnd (x : Fraction) : Type 0 where
  pub low : neg_ℤ (pos (2 ^ 33) *ℤ x.q) ≤ℤ x.p
  pub high : x.p ≤ℤ (pos (2 ^ 33) *ℤ x.q)

pub record HasNearEnds (net : Network) : Type 0 where
  pub low : IsNearEnd net.low
  pub high : IsNearEnd net.high

-- the unit is a multiple of a denominator: so a fraction of this denominator is a whole number of units
pub record IsMultiple (unit q : ℤ) : Type 0 where
  pub times : ℤ
  pub is : unit ≡ times *ℤ q

-- the product of the denominators of both ends, times the number of steps
abbrev pub unit_of : Network → ℕ → ℤ
unit_of net k = (net.low.q *ℤ net.high.q) *ℤ pos k

-- the parameters of a sweep of k steps would have too large a denominator
abbrev pub is_too_fine : ℕ → Network → Bool
is_too_fine k net = int_lt (pos most_unit) (unit_of net k)

-- the parameter L + (H - L) j / k of the interval from L to H, in units of that product
abbrev pub step_units : Network → ℕ → ℕ → ℤ
step_units net k j =
    let low = net.low.p *ℤ net.high.q in
    let high = net.high.p *ℤ net.low.q in
    (low *ℤ pos k) +ℤ ((high -ℤ low) *ℤ pos j)

-- and in lowest terms
abbrev pub sweep_parameter : Network → ℕ → ℕ → Fraction
sweep_parameter net k j = lowest (of_units (unit_of net k) (step_units net k j))
