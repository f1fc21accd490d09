-- What is added to each edge, and what it costs.
use Rattle.std.proofs.Common.{◌≡◌, ℕ, zero, suc, ◌+◌, ◌*◌, ◌^◌, ◌<◌, ◌≤◌, List, [], ◌∷◌, ◌++◌, length, take, refl, arith, ap, sym, ◌∙◌, add-one, inl, inr}
use Rattle.std.specs.Prelude.{ℤ, ◌+ℤ◌, ◌-ℤ◌, ◌*ℤ◌, ◌≤ℤ◌, pos}
use Rattle.std.proofs.lemmas.Int.{ints}
use Rattle.std.proofs.lemmas.Bool.{cases_lt}
use Rattle.std.proofs.lemmas.Grind.{common_steps}
use Rattle.std.proofs.lemmas.List.{get_or_push, get_or_append_left}
use Rattle.pf_model.specs.Cut.{at_arc}
use Rattle.pf_model.proofs.Integers.{mul_most, mul_nonneg, mul_comm}
use Rattle.pf_reinforce.specs.Reinforcement.{cost_of_added}
use Rattle.pf_reinforce.specs.Raising.{IsGain}
use Rattle.pf_model.proofs.Sums.{none_after}
use Rattle.pf_graph.proofs.EdgeSums.{cost_step}

-- the first numbers
pub record IsGainSoFar (first vector added : List ℤ) (count : ℕ) : Type 0 where
  pub full : length added ≡ count
  pub is : (i : ℕ) → i < count → at_arc added i ≡ at_arc vector i -ℤ at_arc first i

length_push : (xs : List ℤ) (x : ℤ) → length (xs ++ x ∷ []) ≡ suc (length xs)
length_push [] x = refl
length_push (y ∷ xs) x = ap suc (length_push xs x)

pub gain_step : (first vector added : List ℤ) (i : ℕ) (x : ℤ) → x ≡ at_arc vector i -ℤ at_arc first i → IsGainSoFar first vector added i → IsGainSoFar first vector (added ++ x ∷ []) (i + 1)
gain_step first vector added i x e g = record {
  full = let f = length_push added x in let h = g.full in omega (arith, f, h);
  is = λ k low. elim (cases_lt k i) [
    | inl before ↦ get_or_append_left added (x ∷ []) (pos 0) k (let h = g.full in omega (arith, before, h)) ∙ g.is k before
    | inr after ↦ (
        let here : k ≡ i = omega (arith, low, after) in
        get_or_push added x (pos 0) k (g.full ∙ sym here) ∙ (e ∙ ap (λ j. at_arc vector j -ℤ at_arc first j) (sym here)))
  ];
}

-- the cost of the first numbers
pub record IsCost (prices numbers : List ℤ) (i : ℕ) (sum : ℤ) : Type 0 where
  pub sum_is : sum ≡ cost_of_added (take i prices) (take i numbers)
  pub low : pos 0 ≤ℤ sum
  pub high : sum ≤ℤ pos (i * 2 ^ 112)

cost_more : (prices numbers : List ℤ) (i : ℕ) → length numbers ≡ length prices → i < length prices →
    cost_of_added (take (suc i) prices) (take (suc i) numbers) ≡ cost_of_added (take i prices) (take i numbers) +ℤ (at_arc prices i *ℤ at_arc numbers i)
cost_more [] numbers i full low = absurd (omega (arith, low))
cost_more (price ∷ prices) [] i full low = absurd (omega (arith, full))
cost_more (price ∷ prices) (x ∷ numbers) zero full low = none_after (price *ℤ x)
cost_more (price ∷ prices) (x ∷ numbers) (suc i) full low = cost_step (price *ℤ x) _ _ _ (cost_more prices numbers i (omega (arith, full)) (omega (arith, low)))

pub product_high : (price number : ℤ) → pos 0 ≤ℤ price → price ≤ℤ pos (2 ^ 32) → pos 0 ≤ℤ number → number ≤ℤ pos (2 ^ 80) → (price *ℤ number) ≤ℤ pos (2 ^ 112)
product_high price number p q m n =
    let a = mul_most price number (pos (2 ^ 80)) p n in
    let b = mul_comm price (pos (2 ^ 80)) in
    omega (arith, ints, a, b, q)

high_step : (x y z : ℤ) (i m : ℕ) → x ≤ℤ pos (i * m) → y ≤ℤ pos m → z ≡ x +ℤ y → z ≤ℤ pos ((i + 1) * m)
high_step x y z i m h k e = let more : (i + 1) * m ≡ i * m + m = grind arith in omega (arith, ints, h, k, e, more)

pub next_cost : (prices numbers : List ℤ) (i : ℕ) (x z : ℤ) → length numbers ≡ length prices → i < length prices → pos 0 ≤ℤ at_arc prices i → at_arc prices i ≤ℤ pos (2 ^ 32) →
    pos 0 ≤ℤ at_arc numbers i → at_arc numbers i ≤ℤ pos (2 ^ 80) → z ≡ x +ℤ (at_arc prices i *ℤ at_arc numbers i) → IsCost prices numbers i x → IsCost prices numbers (i + 1) z
next_cost prices numbers i x z full low p q m n e c =
    let most = product_high (at_arc prices i) (at_arc numbers i) p q m n in
    let least = mul_nonneg (at_arc prices i) (at_arc numbers i) p m in
    record {
      sum_is = rw add-one (e ∙ (ap (λ s. s +ℤ (at_arc prices i *ℤ at_arc numbers i)) c.sum_is ∙ sym (cost_more prices numbers i full low)));
      low = let h = c.low in omega (arith, ints, h, least, e);
      high = high_step x (at_arc prices i *ℤ at_arc numbers i) z i (2 ^ 112) c.high most e;
    }

take_whole : (xs : List ℤ) (i : ℕ) → length xs ≤ i → take i xs ≡ xs
take_whole xs i h = grind (arith, common_steps)

pub whole_cost : (prices numbers : List ℤ) (i : ℕ) (x : ℤ) → length numbers ≡ length prices → length prices ≤ i → IsCost prices numbers i x → x ≡ cost_of_added prices numbers
whole_cost prices numbers i x full all c =
    c.sum_is ∙ (ap (λ xs. cost_of_added xs (take i numbers)) (take_whole prices i all) ∙ ap (cost_of_added prices) (take_whole numbers i (omega (arith, full, all))))

pub gain_whole : (first vector added : List ℤ) (i : ℕ) → i ≡ length vector → IsGainSoFar first vector added i → IsGain first vector added
gain_whole first vector added i e g = record { full = g.full ∙ e; is = λ k low. g.is k (omega (arith, low, e)) }
