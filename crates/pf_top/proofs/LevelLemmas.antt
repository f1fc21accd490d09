-- The level of a word, from its two numbers.
use Rattle.std.proofs.Common.{◌≡◌, ℕ, List, Some, None, refl}
use Rattle.std.specs.Prelude.{pos}
use Rattle.pf_model.specs.Fraction.{lowest}
use Rattle.pf_text.specs.Numbers.{natural_of, billion}
use Rattle.pf_text.specs.Words.{natural_within}
use Rattle.pf_top.specs.Asked.{level_of_parts}

-- both numbers are there
pub level_found : (front back : List ℕ) (p q : ℕ) → natural_within 0 billion (natural_of front) ≡ Some p → natural_within 1 billion (natural_of back) ≡ Some q
    → level_of_parts front back ≡ Some (lowest (record { p = pos p; q = pos q }))
level_found front back p q first second = rw (first, second) refl

-- one of them is not
pub level_no_front : (front back : List ℕ) → natural_within 0 billion (natural_of front) ≡ None → level_of_parts front back ≡ None
level_no_front front back e = rw e refl

pub level_no_back : (front back : List ℕ) (p : ℕ) → natural_within 0 billion (natural_of front) ≡ Some p → natural_within 1 billion (natural_of back) ≡ None → level_of_parts front back ≡ None
level_no_back front back p first second = rw (first, second) refl
