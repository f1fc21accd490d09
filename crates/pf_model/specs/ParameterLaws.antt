-- What holds of parameters.
use Rattle.std.specs.Prelude.{◌≡◌, ◌⊎◌}
use Rattle.std.specs.Ordering.{MatchOrdering}
use Rattle.pf_model.specs.Fraction.{Fraction, IsParameter, IsBelow, IsAtMost, IsEqual, IsLowest, fraction_cmp, lowest}

-- the order of parameters is an order: total, transitive, and antisymmetric up to equality
abbrev pub OrderIsTotal : Type 0
OrderIsTotal = (x y : Fraction) → IsBelow x y ⊎ IsAtMost y x

abbrev pub OrderIsTransitive : Type 0
OrderIsTransitive = (x y z : Fraction) → IsParameter x → IsParameter y → IsParameter z → IsAtMost x y → IsAtMost y z → IsAtMost x z

abbrev pub OrderIsAntisymmetric : Type 0
OrderIsAntisymmetric = (x y : Fraction) → IsAtMost x y → IsAtMost y x → IsEqual x y

-- and it is what `fraction_cmp` answers
abbrev pub OrderIsCompared : Type 0
OrderIsCompared = (x y : Fraction) → IsParameter x → IsParameter y → MatchOrdering (fraction_cmp x y) (IsBelow x y) (IsEqual x y) (IsBelow y x)

-- y is x in lowest terms
pub record IsLowestOf (x y : Fraction) : Type 0 where
  pub parameter : IsParameter y
  pub lowest : IsLowest y
  pub equal : IsEqual y x

-- `lowest x` is x in lowest terms, and nothing else is
abbrev pub LowestIsLowest : Type 0
LowestIsLowest = (x : Fraction) → IsParameter x → IsLowestOf x (lowest x)

abbrev pub OnlyLowest : Type 0
OnlyLowest = (x y : Fraction) → IsParameter x → IsLowestOf x y → y ≡ lowest x
