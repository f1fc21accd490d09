-- How large the worth of a selection can be.
use Rattle.std.proofs.Common.{ℕ, suc, ◌*◌, ◌^◌, ◌<◌, ◌≤◌, List, [], ◌∷◌, length, Bool, true, false, cond, arith}
use Rattle.std.specs.Prelude.{ℤ, ◌+ℤ◌, ◌-ℤ◌, ◌*ℤ◌, ◌≤ℤ◌, pos, nat_abs}
use Rattle.std.proofs.lemmas.Int.{ints}
use Rattle.pf_model.specs.Fraction.{Fraction}
use Rattle.pf_model.specs.Cut.{has, at_arc}
use Rattle.pf_model.specs.Answer.{IsFractionShape, IsWithinSize}
use Rattle.pf_rat.proofs.Products.{product_abs}
use Rattle.pf_select.specs.Problem.{SelectionProblem, IsBoundedProblem, is_gained, sum_of, gain_of, cost_of, worth}

record IsSumSize (n : ℕ) (sum : ℤ) : Type 0 where
  low : pos 0 ≤ℤ sum
  high : sum ≤ℤ pos (n * 1000000)

size_step : (test : Bool) (x a : ℤ) (n : ℕ) → pos 1 ≤ℤ x → x ≤ℤ pos 1000000 → IsSumSize n a → IsSumSize (suc n) (cond test x (pos 0) +ℤ a)
size_step true x a n low high size = let l = size.low in let h = size.high in record { low = omega (arith, ints); high = omega (arith, ints) }
size_step false x a n low high size = let l = size.low in let h = size.high in record { low = omega (arith, ints); high = omega (arith, ints) }

sum_size : (test : ℕ → Bool) (xs : List ℤ) → ((i : ℕ) → i < length xs → pos 1 ≤ℤ at_arc xs i) → ((i : ℕ) → i < length xs → at_arc xs i ≤ℤ pos 1000000) →
    IsSumSize (length xs) (sum_of test xs)
sum_size test [] low high = record { low = omega (arith, ints); high = omega (arith, ints) }
sum_size test (x ∷ xs) low high =
    size_step (test 0) x (sum_of (λ i. test (suc i)) xs) (length xs) (low 0 (omega arith)) (high 0 (omega arith))
    (sum_size (λ i. test (suc i)) xs (λ i less. low (suc i) (omega (arith, less))) (λ i less. high (suc i) (omega (arith, less))))

difference : (a b : ℤ) → nat_abs a ≤ 2 ^ 46 * 5000000000 → nat_abs b ≤ 2 ^ 73 * 500000000 → IsWithinSize (2 ^ 120) (a -ℤ b)
difference a b h k = record { low = omega (arith, ints, h, k); high = omega (arith, ints, h, k) }

pub worth_size : (p : SelectionProblem) (x : Fraction) (set : List Bool) → IsBoundedProblem p → IsFractionShape x → IsWithinSize (2 ^ 120) (worth p x set)
worth_size p x set b shape =
    let gain = sum_size (is_gained p.needs set) p.gains b.problem.gainful b.gain_high in
    let cost = sum_size (has set) p.costs b.problem.costly b.cost_high in
    let gl = gain.low in
    let gh = gain.high in
    let cl = cost.low in
    let ch = cost.high in
    let few = b.few_products in
    let parts = b.few_parts in
    let pl = shape.bounds.p_low in
    let ph = shape.bounds.p_high in
    let ql = shape.bounds.parameter in
    let qh = shape.bounds.q_high in
    difference (x.q *ℤ gain_of p set) (x.p *ℤ cost_of p set)
    (product_abs x.q (gain_of p set) (2 ^ 46) 5000000000 (omega (arith, ints, ql, qh)) (omega (arith, ints, gl, gh, few)))
    (product_abs x.p (cost_of p set) (2 ^ 73) 500000000 (omega (arith, ints, pl, ph)) (omega (arith, ints, cl, ch, parts)))
