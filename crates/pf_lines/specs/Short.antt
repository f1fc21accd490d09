-- Numbers of few digits in front of a text.
use Rattle.std.specs.Prelude.{◌≡◌, ℕ, ◌<◌, ◌≤◌, ◌^◌, true, List, ◌++◌, length, take, ℤ, Some}
use Rattle.std.specs.List.{list_all, take_while}
use Rattle.pf_text.specs.Numbers.{is_digit, value_from, whole_of, number_front}

-- so many digits stand in front, and no more, and this is their value
pub record AreDigits (bytes : List ℕ) (value count : ℕ) : Type 0 where
  pub few : value < 10 ^ 18
  pub within : count ≤ length bytes
  pub front : take_while is_digit bytes ≡ take count bytes
  pub all : list_all is_digit (take count bytes) ≡ true
  pub exact : value ≡ value_from 0 (take count bytes)

-- a number in front of a text, its bytes, and what follows them
pub record IsFront (text : List ℕ) (number : ℤ) (bytes rest : List ℕ) : Type 0 where
  pub front : bytes ≡ number_front text
  pub whole : text ≡ bytes ++ rest
  pub value : whole_of bytes ≡ Some number
