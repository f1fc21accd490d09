-- Product selections worked by hand: the definitions give what is written beside them.
use Rattle.std.proofs.Common.{◌≡◌, ℕ, zero, suc, ◌<◌, List, [], ◌∷◌, refl, Bool, true, false, arith}
use Rattle.std.specs.Prelude.{pos}
use Rattle.std.proofs.lemmas.Int.{ints}
use Rattle.pf_model.specs.Cut.{has}
use Rattle.pf_select.specs.Problem.{part_at, IsProperPart}
use Rattle.pf_select.specs.Certificate.{CertifiesPrice}
use Rattle.pf_select.specs.Worked.{fraction, both, pair, whole_product, free_product, parallel_needs, WholeProduct, SmallerSelection, FreeProduct, ParallelNeeds}

one : (P : ℕ → Type 0) → P 0 → (k : ℕ) → k < 1 → P k
one P first zero low = first
one P first (suc k) low = absurd (omega (arith, low))

two : (P : ℕ → Type 0) → P 0 → P 1 → (k : ℕ) → k < 2 → P k
two P first second zero low = first
two P first second (suc zero) low = second
two P first second (suc (suc k)) low = absurd (omega (arith, low))

none : (v : ℕ) → has (both false false) v ≡ true → ⊥
none zero h = cc
none (suc zero) h = cc
none (suc (suc v)) h = cc

only_second : (P : ℕ → Type 0) → P 1 → (v : ℕ) → has (both false true) v ≡ true → P v
only_second P second zero h = cc
only_second P second (suc zero) h = second
only_second P second (suc (suc v)) h = cc

proper : (set : List Bool) → has set 0 ≡ true → IsProperPart (both false false) set
proper set held = record { contained = λ v h. absurd (none v h); different = λ e. cc }

no_product : (v : ℕ) → has (false ∷ []) v ≡ true → ⊥
no_product zero h = cc
no_product (suc v) h = cc

-- both parts are charged whole at the price 2, so nothing is dropped
whole_price : CertifiesPrice whole_product (fraction 2 1) (pair 4 6) (both true true)
whole_price = record {
  charges_are = record {
    full = refl;
    low = two (λ k. _) (omega (arith, ints)) (omega (arith, ints));
    product_high = one (λ k. _) (omega (arith, ints));
    part_high = two (λ k. _) (omega (arith, ints)) (omega (arith, ints));
  };
  parts = both false false;
  products = false ∷ [];
  dropped = record {
    rules = record {
      cheap = two (λ k. _) (λ less. absurd (omega (arith, ints, less))) (λ less. absurd (omega (arith, ints, less)));
      needing = two (λ k. _) (λ h. absurd (none 0 h)) (λ h. absurd (none 1 h));
      charging = two (λ k. _) (λ h more. absurd (no_product 0 h)) (λ h more. absurd (no_product 0 h));
    };
    least_parts = λ parts products keeps v h. absurd (none v h);
    least_products = λ parts products keeps v h. absurd (no_product v h);
  };
  paid = one (λ k. _) (λ h. absurd (no_product 0 h));
  rest = two (λ k. _) refl refl;
}

pub whole : WholeProduct
whole = record {
  count = refl;
  charges_count = refl;
  full = two (λ j. _) refl refl;
  parameters = one (λ j. _) (omega (arith, ints));
  rise = one (λ j. _) (omega (arith, ints));
  fall = one (λ j. _) (proper (both true true) refl);
  first_needed = two (λ i. _) (λ h. record { need = 0; there = omega arith; part = refl }) (λ h. record { need = 1; there = omega arith; part = refl });
  needed_first = λ i n. rw (← n.part) (two (λ k. has (both true true) (part_at whole_product k) ≡ true) refl refl n.need n.there);
  last_empty = two (λ i. _) refl refl;
  each = one (λ j. _) whole_price;
  equal = one (λ j. _) refl;
}

pub smaller : SmallerSelection
smaller best greatest = let h = greatest.greatest (both true true) best 0 refl in cc

-- the second part is charged nothing, so it is dropped; the product without needs is not
free_price : CertifiesPrice free_product (fraction 5 1) (pos 10 ∷ []) (both true false)
free_price = record {
  charges_are = record {
    full = refl;
    low = one (λ k. _) (omega (arith, ints));
    product_high = two (λ k. _) (omega (arith, ints)) (omega (arith, ints));
    part_high = two (λ k. _) (omega (arith, ints)) (omega (arith, ints));
  };
  parts = both false true;
  products = both false false;
  dropped = record {
    rules = record {
      cheap = two (λ k. _) (λ less. absurd (omega (arith, ints, less))) (λ less. refl);
      needing = one (λ k. _) (λ h. cc);
      charging = one (λ k. _) (λ h more. absurd (none 0 h));
    };
    least_parts = λ parts products keeps. only_second (λ v. has parts v ≡ true) (keeps.cheap 1 (omega arith) (omega (arith, ints)));
    least_products = λ parts products keeps v h. absurd (none v h);
  };
  paid = two (λ k. _) (λ h. absurd (none 0 h)) (λ h. absurd (none 1 h));
  rest = two (λ k. _) refl refl;
}

pub gained : FreeProduct
gained = record {
  count = refl;
  charges_count = refl;
  full = two (λ j. _) refl refl;
  parameters = one (λ j. _) (omega (arith, ints));
  rise = one (λ j. _) (omega (arith, ints));
  fall = one (λ j. _) (proper (both true false) refl);
  first_needed = two (λ i. _) (λ h. record { need = 0; there = omega arith; part = refl }) (λ h. cc);
  needed_first = λ i n. rw (← n.part) (one (λ k. has (both true false) (part_at free_product k) ≡ true) refl n.need n.there);
  last_empty = two (λ i. _) refl refl;
  each = one (λ j. _) free_price;
  equal = one (λ j. _) refl;
}

parallel_price : CertifiesPrice parallel_needs (fraction 5 1) (pair 4 6) (both true false)
parallel_price = record {
  charges_are = record {
    full = refl;
    low = two (λ k. _) (omega (arith, ints)) (omega (arith, ints));
    product_high = one (λ k. _) (omega (arith, ints));
    part_high = two (λ k. _) (omega (arith, ints)) (omega (arith, ints));
  };
  parts = both false true;
  products = false ∷ [];
  dropped = record {
    rules = record {
      cheap = two (λ k. _) (λ less. absurd (omega (arith, ints, less))) (λ less. refl);
      needing = two (λ k. _) (λ h. cc) (λ h. cc);
      charging = two (λ k. _) (λ h more. absurd (no_product 0 h)) (λ h more. absurd (no_product 0 h));
    };
    least_parts = λ parts products keeps. only_second (λ v. has parts v ≡ true) (keeps.cheap 1 (omega arith) (omega (arith, ints)));
    least_products = λ parts products keeps v h. absurd (no_product v h);
  };
  paid = one (λ k. _) (λ h. absurd (no_product 0 h));
  rest = two (λ k. _) refl refl;
}

pub parallel : ParallelNeeds
parallel = record {
  count = refl;
  charges_count = refl;
  full = two (λ j. _) refl refl;
  parameters = one (λ j. _) (omega (arith, ints));
  rise = one (λ j. _) (omega (arith, ints));
  fall = one (λ j. _) (proper (both true false) refl);
  first_needed = two (λ i. _) (λ h. record { need = 0; there = omega arith; part = refl }) (λ h. cc);
  needed_first = λ i n. rw (← n.part) (two (λ k. has (both true false) (part_at parallel_needs k) ≡ true) refl refl n.need n.there);
  last_empty = two (λ i. _) refl refl;
  each = one (λ j. _) parallel_price;
  equal = one (λ j. _) refl;
}
