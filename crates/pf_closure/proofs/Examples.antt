-- Closure problems worked by hand: the definitions give what is written beside them.
use Rattle.std.proofs.Common.{◌≡◌, ℕ, zero, suc, ◌<◌, refl, true, false, arith}
use Rattle.std.proofs.lemmas.Int.{ints}
use Rattle.pf_model.specs.Cut.{has}
use Rattle.pf_closure.specs.Worked.{both, DearItem, EqualItems, SmallerClosure, CheapItem, WrongRouting, CheapNumbers, CheapLine}

one : (P : ℕ → Type 0) → P 0 → (k : ℕ) → k < 1 → P k
one P first zero low = first
one P first (suc k) low = absurd (omega (arith, low))

two : (P : ℕ → Type 0) → P 0 → P 1 → (k : ℕ) → k < 2 → P k
two P first second zero low = first
two P first second (suc zero) low = second
two P first second (suc (suc k)) low = absurd (omega (arith, low))

none : (v : ℕ) → has (both false false) v ≡ true → ⊥
none zero h = cc
none (suc zero) h = cc
none (suc (suc v)) h = cc

only_first : (P : ℕ → Type 0) → P 0 → (v : ℕ) → has (both true false) v ≡ true → P v
only_first P first zero h = first
only_first P first (suc zero) h = cc
only_first P first (suc (suc v)) h = cc

pub cheap_item : CheapItem
cheap_item = record {
  parameter = omega (arith, ints);
  routing_is = record {
    full = refl;
    low = one (λ k. _) (omega (arith, ints));
    high = one (λ k. _) (omega (arith, ints));
  };
  within = two (λ k. _) (omega (arith, ints)) (omega (arith, ints));
  dropped = both false false;
  dropped_is = record {
    rules = record {
      strict = two (λ k. _) (λ less. absurd (omega (arith, ints, less))) (λ less. absurd (omega (arith, ints, less)));
      needing = one (λ k. _) (λ h. absurd (none 1 h));
      carrying = one (λ k. _) (λ h. absurd (none 0 h));
    };
    least = λ other keeps v h. absurd (none v h);
  };
  full = refl;
  rest = two (λ k. _) refl refl;
  some = record { item = 0; held = refl };
}

pub equal_items : EqualItems
equal_items = record {
  parameter = omega (arith, ints);
  routing_is = record {
    full = refl;
    low = one (λ k. _) (omega (arith, ints));
    high = one (λ k. _) (omega (arith, ints));
  };
  within = two (λ k. _) (omega (arith, ints)) (omega (arith, ints));
  dropped = both false false;
  dropped_is = record {
    rules = record {
      strict = two (λ k. _) (λ less. absurd (omega (arith, ints, less))) (λ less. absurd (omega (arith, ints, less)));
      needing = one (λ k. _) (λ h. absurd (none 1 h));
      carrying = one (λ k. _) (λ h. absurd (none 0 h));
    };
    least = λ other keeps v h. absurd (none v h);
  };
  full = refl;
  rest = two (λ k. _) refl refl;
  some = record { item = 0; held = refl };
}

pub dear_item : DearItem
dear_item = record {
  parameter = omega (arith, ints);
  routing_is = record {
    full = refl;
    low = one (λ k. _) (omega (arith, ints));
    high = one (λ k. _) (omega (arith, ints));
  };
  within = two (λ k. _) (omega (arith, ints)) (omega (arith, ints));
  dropped = both true false;
  dropped_is = record {
    rules = record {
      strict = two (λ k. _) (λ less. refl) (λ less. absurd (omega (arith, ints, less)));
      needing = one (λ k. _) (λ h. refl);
      carrying = one (λ k. _) (λ h more. absurd (omega (arith, ints, more)));
    };
    least = λ other keeps. only_first (λ v. has other v ≡ true) (keeps.strict 0 (omega arith) (omega (arith, ints)));
  };
  full = refl;
  rest = two (λ k. _) refl refl;
  some = record { item = 1; held = refl };
}

pub smaller_closure : SmallerClosure
smaller_closure b =
    let h = b.greatest (both true true) (record { full = refl; closed = one (λ k. _) (λ h. refl) }) (record { item = 0; held = refl }) refl 0 refl in
    cc

pub wrong_routing : WrongRouting
wrong_routing c = let e = c.within 0 (omega arith) in omega (arith, ints, e)

pub cheap_numbers : CheapNumbers
cheap_numbers = (refl, refl)

pub cheap_line : CheapLine
cheap_line = refl
