-- The next layer of items, between two closures that are least at a level.
use Rattle.std.proofs.Common.{◌≡◌, List, Bool, arith, ap, sym, ◌∙◌, inl, inr}
use Rattle.std.specs.Prelude.{ℤ, ◌+ℤ◌, ◌-ℤ◌, ◌*ℤ◌, ◌≤ℤ◌, ◌<ℤ◌, pos}
use Rattle.std.proofs.lemmas.Int.{ints}
use Rattle.std.proofs.lemmas.Bool.{cases_Bool, or_cases, or_left, or_right, and_parts, and_from}
use Rattle.pf_model.specs.Fraction.{Fraction, IsParameter, IsBelow}
use Rattle.pf_model.specs.Cut.{has, union, intersection, IsContained}
use Rattle.pf_model.proofs.Exchange.{has-union, length-union, has-intersection, length-intersection}
use Rattle.pf_model.proofs.Integers.{mul_add, mul_assoc, mul_comm, mul_most, mul_less}
use Rattle.pf_closure.specs.Problem.{ClosureProblem, IsClosureProblem, IsClosure, cost_of, weight_of, needing_at, needed_at}
use Rattle.pf_layers.specs.Layers.{IsApart}
use Rattle.pf_layers.specs.RatioLayers.{ClosesBeside, IsLeastBeside}
use Rattle.pf_layers.proofs.Ratios.{scaled_plain}
use Rattle.pf_layers.proofs.SetSums.{sum_of_union, sum_modular, weight_more}
use Rattle.pf_layers.proofs.DenseNext.{other_part}

-- the cost of a set less the ratio p/q times its weight, in units of 1/q
abbrev pub excess : ClosureProblem → Fraction → List Bool → ℤ
excess p x set = (x.q *ℤ cost_of p set) -ℤ (x.p *ℤ weight_of p set)

-- no closure has less
pub record IsLeastClosure (p : ClosureProblem) (x : Fraction) (set : List Bool) : Type 0 where
  pub closure : IsClosure p set
  pub least : (other : List Bool) → IsClosure p other → excess p x set ≤ℤ excess p x other

-- closures have unions and intersections
pub union_is_closure : (p : ClosureProblem) (first second : List Bool) → IsClosure p first → IsClosure p second → IsClosure p (union first second)
union_is_closure p first second a b = record {
  full = length-union first second (a.full ∙ sym b.full) ∙ a.full;
  closed = λ k low held. elim (or_cases (has first (needing_at p k)) (has second (needing_at p k)) (sym (has-union first second (needing_at p k)) ∙ held)) [
    | inl here ↦ has-union first second (needed_at p k) ∙ or_left (has first (needed_at p k)) (has second (needed_at p k)) (a.closed k low here)
    | inr there ↦ has-union first second (needed_at p k) ∙ or_right (has first (needed_at p k)) (has second (needed_at p k)) (b.closed k low there)
  ];
}

intersection_is_closure : (p : ClosureProblem) (first second : List Bool) → IsClosure p first → IsClosure p second → IsClosure p (intersection first second)
intersection_is_closure p first second a b = record {
  full = length-intersection first second (a.full ∙ sym b.full) ∙ a.full;
  closed = λ k low held.
      let both = and_parts (has first (needing_at p k)) (has second (needing_at p k)) (sym (has-intersection first second (needing_at p k)) ∙ held) in
      has-intersection first second (needed_at p k)
      ∙ and_from (has first (needed_at p k)) (has second (needed_at p k)) (a.closed k low both.0) (b.closed k low both.1);
}

split_step : (p q c c' c'' w w' w'' : ℤ) → c'' ≡ c +ℤ c' → w'' ≡ w +ℤ w' → ((q *ℤ c'') -ℤ (p *ℤ w'')) ≡ ((q *ℤ c) -ℤ (p *ℤ w)) +ℤ ((q *ℤ c') -ℤ (p *ℤ w'))
split_step p q c c' c'' w w' w'' e f =
    let a = ap (λ n. q *ℤ n) e ∙ mul_add q c c' in
    let b = ap (λ n. p *ℤ n) f ∙ mul_add p w w' in
    omega (arith, ints, a, b)

pub beside : (p : ClosureProblem) (x : Fraction) (taken set : List Bool) → IsApart taken set → excess p x (union taken set) ≡ excess p x taken +ℤ excess p x set
beside p x taken set apart =
    split_step x.p x.q (cost_of p taken) (cost_of p set) (cost_of p (union taken set)) (weight_of p taken) (weight_of p set) (weight_of p (union taken set))
    (sum_of_union taken set p.costs apart) (sum_of_union taken set p.weights apart)

modular_step : (p q a b c d a' b' c' d' : ℤ) → c +ℤ d ≡ a +ℤ b → c' +ℤ d' ≡ a' +ℤ b' →
    ((q *ℤ c) -ℤ (p *ℤ c')) +ℤ ((q *ℤ d) -ℤ (p *ℤ d')) ≡ ((q *ℤ a) -ℤ (p *ℤ a')) +ℤ ((q *ℤ b) -ℤ (p *ℤ b'))
modular_step p q a b c d a' b' c' d' e f =
    let g = sym (mul_add q c d) ∙ ap (λ n. q *ℤ n) e ∙ mul_add q a b in
    let h = sym (mul_add p c' d') ∙ ap (λ n. p *ℤ n) f ∙ mul_add p a' b' in
    omega (arith, ints, g, h)

excess_modular : (p : ClosureProblem) (x : Fraction) (first second : List Bool) →
    excess p x (union first second) +ℤ excess p x (intersection first second) ≡ excess p x first +ℤ excess p x second
excess_modular p x first second =
    modular_step x.p x.q (cost_of p first) (cost_of p second) (cost_of p (union first second)) (cost_of p (intersection first second))
    (weight_of p first) (weight_of p second) (weight_of p (union first second)) (weight_of p (intersection first second))
    (sum_modular first second p.costs) (sum_modular first second p.weights)

-- what weighs more and has no greater excess at x has a smaller one above x
heavier : (p q p' q' c w c' w' : ℤ) → pos 1 ≤ℤ q → pos 1 ≤ℤ q' → (p *ℤ q') <ℤ (p' *ℤ q) → (w +ℤ pos 1) ≤ℤ w' → ((q *ℤ c') -ℤ (p *ℤ w')) ≤ℤ ((q *ℤ c) -ℤ (p *ℤ w)) →
    ((q' *ℤ c) -ℤ (p' *ℤ w)) ≤ℤ ((q' *ℤ c') -ℤ (p' *ℤ w')) → ⊥
heavier p q p' q' c w c' w' unit unit' order more here there =
    let dc : ℤ = c' -ℤ c in
    let dw : ℤ = w' -ℤ w in
    let ec : c' ≡ c +ℤ dc = omega (arith, ints) in
    let ew : w' ≡ w +ℤ dw = omega (arith, ints) in
    let a = split_step p q c dc c' w dw w' ec ew in
    let b = split_step p' q' c dc c' w dw w' ec ew in
    let l = mul_most q' (q *ℤ dc) (p *ℤ dw) (omega (arith, ints, unit')) (omega (arith, ints, a, here)) in
    let m = mul_most q (p' *ℤ dw) (q' *ℤ dc) (omega (arith, ints, unit)) (omega (arith, ints, b, there)) in
    let e1 : q' *ℤ (q *ℤ dc) ≡ q *ℤ (q' *ℤ dc) = sym (mul_assoc q' q dc) ∙ ap (λ n. n *ℤ dc) (mul_comm q' q) ∙ mul_assoc q q' dc in
    let e2 = scaled_plain p q' dw in
    let e3 = scaled_plain p' q dw in
    let less = mul_less dw (p *ℤ q') (p' *ℤ q) (omega (arith, ints, more)) order in
    omega (arith, ints, l, m, e1, e2, e3, less)

-- a closure that is least at x and above x contains each that is least at x
pub contains_least : (p : ClosureProblem) (x y : Fraction) (next other : List Bool) → IsClosureProblem p → IsParameter x → IsParameter y → IsBelow x y →
    IsLeastClosure p x next → IsLeastClosure p y next → IsLeastClosure p x other → IsContained other next
contains_least p x y next other problem px py order here there also v held = elim (cases_Bool (has next v)) [
  | inl on ↦ on
  | inr off ↦ absurd
      (let larger = union next other in
      let closed = union_is_closure p next other here.closure also.closure in
      let e = excess_modular p x next other in
      let low = also.least (intersection next other) (intersection_is_closure p next other here.closure also.closure) in
      let wide = problem.full in
      let more = weight_more next larger p.weights v (here.closure.full ∙ sym closed.full) (closed.full ∙ sym wide) (λ i h. problem.heavy i (omega (arith, h, wide)))
      (λ u on. has-union next other u ∙ or_left (has next u) (has other u) on) (has-union next other v ∙ or_right (has next v) (has other v) held) off in
      heavier x.p x.q y.p y.q (cost_of p next) (weight_of p next) (cost_of p larger) (weight_of p larger) px py order more (omega (arith, ints, e, low))
      (there.least larger closed))
]

pub ratio_next : (p : ClosureProblem) (x : Fraction) (taken next set : List Bool) → IsLeastClosure p x taken → IsLeastClosure p x next →
    ((other : List Bool) → IsLeastClosure p x other → IsContained other next) → ClosesBeside p taken set → next ≡ union taken set → IsLeastBeside p taken x set
ratio_next p x taken next set low s greatest closes same =
    let here = ap (excess p x) same ∙ beside p x taken set closes.apart in
    let up = s.least taken low.closure in
    let down = low.least next s.closure in
    record {
      closes = closes;
      ratio = omega (arith, ints, here, up, down);
      least = λ other o.
          let there = beside p x taken other o.apart in
          let most = low.least (union taken other) o.closure in
          omega (arith, ints, there, most);
      greatest = λ other o tie v held.
          let there = beside p x taken other o.apart in
          let also : IsLeastClosure p x (union taken other) = record {
            closure = o.closure;
            least = λ third c. let most = low.least third c in omega (arith, ints, there, most, tie);
          } in
          let within = greatest (union taken other) also v (has-union taken other v ∙ or_right (has taken v) (has other v) held) in
          other_part taken set v (ap (λ l. has l v) (sym same) ∙ within) (o.apart.outside v held);
    }
