-- At most one vector of shares is fair.
use Rattle.std.proofs.Common.{◌≡◌, ℕ, zero, suc, ◌<◌, List, refl, true, false, cond, arith, ap, sym, ◌∙◌, inl, inr}
use Rattle.std.specs.Prelude.{ℤ, ◌*ℤ◌, ◌≤ℤ◌, ◌<ℤ◌, pos, map, int_lt, ◌⊎◌, ◌==◌}
use Rattle.std.proofs.lemmas.Int.{ints, by_lt_z}
use Rattle.std.proofs.lemmas.Bool.{cases_eq}
use Rattle.pf_model.specs.Fraction.{Fraction, IsAtMost, IsEqual}
use Rattle.pf_model.specs.Cut.{at_arc}
use Rattle.pf_model.specs.Flow.{sum_in}
use Rattle.pf_model.proofs.Integers.{mul_add, mul_assoc, mul_comm, mul_most, mul_less, mul_most_inverse, swap}
use Rattle.pf_model.proofs.Certificate.{at_most_reflexive, at_most_trans}
use Rattle.pf_model.proofs.Affine.{sum_where_scaled}
use Rattle.pf_share.specs.Problem.{ShareProblem, IsShareProblem, IsFeasible, IsInUnit, share_at, IsFair}
use Rattle.pf_share.proofs.Counting.{at_times, length_times}

-- a vector in a finer unit
scale_share : (k u u' n p q : ℤ) → u' ≡ k *ℤ u → n *ℤ q ≡ u *ℤ p → (k *ℤ n) *ℤ q ≡ u' *ℤ p
scale_share k u u' n p q e h = mul_assoc k n q ∙ ap (λ x. k *ℤ x) h ∙ sym (mul_assoc k u p) ∙ ap (λ x. x *ℤ p) (sym e)

pub finer_unit : (p : ShareProblem) (k u u' : ℤ) (shares : List Fraction) (numbers : List ℤ) → u' ≡ k *ℤ u → pos 1 ≤ℤ u' → IsInUnit p u shares numbers →
    IsInUnit p u' shares (map (λ c. k *ℤ c) numbers)
finer_unit p k u u' shares numbers e low h = record {
  unit = low;
  full = length_times k numbers ∙ h.full;
  each = λ v small.
      let full = h.full in
      ap (λ x. x *ℤ (share_at shares v).q) (at_times k numbers v (omega (arith, small, full)))
      ∙ scale_share k u u' (at_arc numbers v) (share_at shares v).p (share_at shares v).q e (h.each v small);
}

scale_zero : (k x : ℤ) → x ≡ pos 0 → k *ℤ x ≡ pos 0
scale_zero k x e = let none : k *ℤ pos 0 ≡ pos 0 = omega (arith, ints) in ap (λ n. k *ℤ n) e ∙ none

scale_low : (k x : ℤ) → pos 1 ≤ℤ k → pos 0 ≤ℤ x → pos 0 ≤ℤ (k *ℤ x)
scale_low k x h l =
    let none : k *ℤ pos 0 ≡ pos 0 = omega (arith, ints) in
    let more = mul_most k (pos 0) x (omega (arith, ints, h)) l in
    omega (arith, ints, none, more)

pub finer_flow : (p : ShareProblem) (k u u' : ℤ) (shares : List ℤ) → u' ≡ k *ℤ u → pos 1 ≤ℤ k → IsFeasible p u shares → IsFeasible p u' (map (λ c. k *ℤ c) shares)
finer_flow p k u u' shares e low h =
    let full = h.full in
    let flow_full = h.carried.full in
    record {
      full = length_times k shares ∙ full;
      low = λ v small. let a = at_times k shares v (omega (arith, small, full)) in
          let b = scale_low k (at_arc shares v) low (h.low v small) in
          omega (arith, ints, a, b);
      sources = λ v small none. at_times k shares v (omega (arith, small, full)) ∙ scale_zero k (at_arc shares v) (h.sources v small none);
      flow = map (λ c. k *ℤ c) h.flow;
      carried = record {
        full = length_times k h.flow ∙ flow_full;
        low = λ i small. let a = at_times k h.flow i (omega (arith, small, flow_full)) in
            let b = scale_low k (at_arc h.flow i) low (h.carried.low i small) in
            omega (arith, ints, a, b);
        high = λ i small.
            let a = at_times k h.flow i (omega (arith, small, flow_full)) in
            let b = mul_most k (at_arc h.flow i) (at_arc p.capacities i *ℤ u) (omega (arith, ints, low)) (h.carried.high i small) in
            let c = swap k (at_arc p.capacities i) u ∙ ap (λ x. at_arc p.capacities i *ℤ x) (mul_comm u k ∙ sym e) in
            omega (arith, ints, a, b, c);
        kept = λ v small apart.
            let a = at_times k shares v (omega (arith, small, full)) in
            let b = sum_where_scaled (λ arc. arc.1 == v) k p.ends h.flow in
            let c = sum_where_scaled (λ arc. arc.0 == v) k p.ends h.flow in
            let d = ap (λ x. k *ℤ x) (h.carried.kept v small apart) in
            let f = mul_add k (at_arc shares v) (sum_in p.ends h.flow v) in
            omega (arith, ints, a, b, c, d, f);
      };
    }

-- an order of levels, in numbers of one unit
cross_level : (u n q p n' q' p' w w' : ℤ) → pos 1 ≤ℤ u → pos 1 ≤ℤ q → pos 1 ≤ℤ q' → n *ℤ q ≡ u *ℤ p → n' *ℤ q' ≡ u *ℤ p' →
    (p *ℤ (q' *ℤ w')) ≤ℤ (p' *ℤ (q *ℤ w)) → (n *ℤ w') ≤ℤ (n' *ℤ w)
cross_level u n q p n' q' p' w w' hu hq hq' e e' h =
    let both = mul_most u (p *ℤ (q' *ℤ w')) (p' *ℤ (q *ℤ w)) (omega (arith, ints, hu)) h in
    let left : u *ℤ (p *ℤ (q' *ℤ w')) ≡ q *ℤ (q' *ℤ (n *ℤ w')) =
    sym (mul_assoc u p (q' *ℤ w')) ∙ ap (λ x. x *ℤ (q' *ℤ w')) (sym e ∙ mul_comm n q) ∙ mul_assoc q n (q' *ℤ w')
    ∙ ap (λ x. q *ℤ x) (sym (mul_assoc n q' w') ∙ ap (λ x. x *ℤ w') (mul_comm n q') ∙ mul_assoc q' n w') in
    let right : u *ℤ (p' *ℤ (q *ℤ w)) ≡ q *ℤ (q' *ℤ (n' *ℤ w)) =
    sym (mul_assoc u p' (q *ℤ w)) ∙ ap (λ x. x *ℤ (q *ℤ w)) (sym e') ∙ mul_comm (n' *ℤ q') (q *ℤ w) ∙ mul_assoc q w (n' *ℤ q')
    ∙ ap (λ x. q *ℤ x) (mul_comm w (n' *ℤ q') ∙ ap (λ x. x *ℤ w) (mul_comm n' q') ∙ mul_assoc q' n' w) in
    mul_most_inverse q' (n *ℤ w') (n' *ℤ w) (omega (arith, ints, hq'))
    (mul_most_inverse q (q' *ℤ (n *ℤ w')) (q' *ℤ (n' *ℤ w)) (omega (arith, ints, hq)) (omega (arith, ints, both, left, right)))

-- a source with more in the other vector has not the least level of those that differ
pub no_least : (p : ShareProblem) (shares : List Fraction) (u : ℤ) (numbers other : List ℤ) → IsFair p shares → IsInUnit p u shares numbers → IsFeasible p u other →
    (i : ℕ) → i < p.nodes → pos 1 ≤ℤ at_arc p.weights i → at_arc numbers i <ℤ at_arc other i →
    ((k : ℕ) → k < p.nodes → pos 1 ≤ℤ at_arc p.weights k → at_arc other k <ℤ at_arc numbers k →
    (at_arc numbers i *ℤ at_arc p.weights k) ≤ℤ (at_arc other k *ℤ at_arc p.weights i)) → ⊥
no_least p shares u numbers other f unit feasible i low heavy more least =
    let h = f.fair u numbers other unit feasible i low more in
    let j = h.node in
    let a = cross_level u (at_arc numbers j) (share_at shares j).q (share_at shares j).p (at_arc numbers i) (share_at shares i).q (share_at shares i).p
    (at_arc p.weights j) (at_arc p.weights i) unit.unit (f.parameters j h.there) (f.parameters i low) (unit.each j h.there) (unit.each i low) h.level in
    let b = least j h.there h.source h.less in
    let c = mul_less (at_arc p.weights i) (at_arc other j) (at_arc numbers j) (omega (arith, ints, heavy)) h.less in
    omega (arith, ints, a, b, c, mul_comm (at_arc p.weights i) (at_arc other j), mul_comm (at_arc p.weights i) (at_arc numbers j))

-- either two lists are the same below n, or there is a least level among those that differ
abbrev lesser : ℤ → ℤ → ℤ
lesser a b = cond (int_lt a b) a b

first_lesser : (a b : ℤ) → a <ℤ b → lesser a b ≡ a
first_lesser a b h = let e : int_lt a b ≡ true = grind (arith, ints) in rw e refl

second_lesser : (a b : ℤ) → b <ℤ a → lesser a b ≡ b
second_lesser a b h = let e : int_lt a b ≡ false = grind (arith, ints) in rw e refl

abbrev low_level : (ℕ → ℤ) → (ℕ → ℤ) → (ℕ → ℤ) → ℕ → Fraction
low_level a b w k = record { p = lesser (a k) (b k); q = w k }

record IsLeastApart (a b w : ℕ → ℤ) (n i : ℕ) : Type 0 where
  pub there : i < n
  pub apart : (a i <ℤ b i) ⊎ (b i <ℤ a i)
  pub least : (k : ℕ) → k < n → (a k <ℤ b k) ⊎ (b k <ℤ a k) → IsAtMost (low_level a b w i) (low_level a b w k)

abbrev Found : (ℕ → ℤ) → (ℕ → ℤ) → (ℕ → ℤ) → ℕ → Type 0
Found a b w n = ((k : ℕ) → k < n → a k ≡ b k) ⊎ ((i : ℕ) × IsLeastApart a b w n i)

same_no_apart : (x y : ℤ) → x ≡ y → (x <ℤ y) ⊎ (y <ℤ x) → ⊥
same_no_apart x y e h = elim h [ inl less ↦ omega (arith, ints, e, less) | inr less ↦ omega (arith, ints, e, less) ]

-- the next one is the same
skip : (a b w : ℕ → ℤ) (n : ℕ) → a n ≡ b n → Found a b w n → Found a b w (suc n)
skip a b w n e f = elim f [
  | inl all ↦ inl (λ k low. elim (cases_eq k n) [
    | inl same ↦ rw same e
    | inr other ↦ all k (omega (arith, low, other))
  ])
  | inr found ↦ inr (
    found.0,
    record {
      there = (let low = found.1.there in omega (arith, low));
      apart = found.1.apart;
      least = λ k low h. elim (cases_eq k n) [
        | inl same ↦ absurd (same_no_apart (a k) (b k) (rw same e) h)
        | inr other ↦ found.1.least k (omega (arith, low, other)) h
      ];
    },
  )
]

-- the next one differs
join : (a b w : ℕ → ℤ) (n : ℕ) → (a n <ℤ b n) ⊎ (b n <ℤ a n) → ((k : ℕ) → k < suc n → (a k <ℤ b k) ⊎ (b k <ℤ a k) → pos 1 ≤ℤ w k) →
    Found a b w n → Found a b w (suc n)
join a b w n apart heavy f = elim f [
  | inl all ↦ inr (
    n,
    record {
      there = omega arith;
      apart = apart;
      least = λ k low h. elim (cases_eq k n) [
        | inl same ↦ rw same (at_most_reflexive (low_level a b w n))
        | inr other ↦ absurd (same_no_apart (a k) (b k) (all k (omega (arith, low, other))) h)
      ];
    },
  )
  | inr found ↦
      let i = found.0 in
      let there = found.1.there in
      by_lt_z (lesser (a n) (b n) *ℤ w i) (lesser (a i) (b i) *ℤ w n)
      (λ less. inr (
        n,
        record {
          there = omega arith;
          apart = apart;
          least = λ k low h. elim (cases_eq k n) [
            | inl same ↦ rw same (at_most_reflexive (low_level a b w n))
            | inr other ↦ at_most_trans (low_level a b w n) (low_level a b w i) (low_level a b w k) (heavy n (omega arith) apart)
                (heavy i (omega (arith, there)) found.1.apart) (heavy k low h) (omega (arith, ints, less)) (found.1.least k (omega (arith, low, other)) h)
          ];
        },
      ))
      (λ most. inr (
        i,
        record {
          there = omega (arith, there);
          apart = found.1.apart;
          least = λ k low h. elim (cases_eq k n) [
            | inl same ↦ rw same most
            | inr other ↦ found.1.least k (omega (arith, low, other)) h
          ];
        },
      ))
]

find_least : (a b w : ℕ → ℤ) (n : ℕ) → ((k : ℕ) → k < n → (a k <ℤ b k) ⊎ (b k <ℤ a k) → pos 1 ≤ℤ w k) → Found a b w n
find_least a b w zero heavy = inl (λ k low. absurd (omega (arith, low)))
find_least a b w (suc n) heavy =
    let before = find_least a b w n (λ k low. heavy k (omega (arith, low))) in
    by_lt_z (a n) (b n) (λ less. join a b w n (inl less) heavy before)
    (λ most. by_lt_z (b n) (a n) (λ less. join a b w n (inr less) heavy before) (λ least. skip a b w n (omega (arith, ints, most, least)) before))

-- equal numbers in one unit are equal fractions
equal_shares : (u n n' p q p' q' : ℤ) → pos 1 ≤ℤ u → n ≡ n' → n *ℤ q ≡ u *ℤ p → n' *ℤ q' ≡ u *ℤ p' → p *ℤ q' ≡ p' *ℤ q
equal_shares u n n' p q p' q' hu same e e' =
    let left : u *ℤ (p *ℤ q') ≡ n *ℤ (q *ℤ q') = sym (mul_assoc u p q') ∙ ap (λ x. x *ℤ q') (sym e) ∙ mul_assoc n q q' in
    let right : u *ℤ (p' *ℤ q) ≡ n *ℤ (q *ℤ q') =
    sym (mul_assoc u p' q) ∙ ap (λ x. x *ℤ q) (sym e') ∙ mul_assoc n' q' q ∙ ap (λ x. n' *ℤ x) (mul_comm q' q) ∙ ap (λ x. x *ℤ (q *ℤ q')) (sym same) in
    let up = mul_most_inverse u (p *ℤ q') (p' *ℤ q) (omega (arith, ints, hu)) (omega (arith, ints, left, right)) in
    let down = mul_most_inverse u (p' *ℤ q) (p *ℤ q') (omega (arith, ints, hu)) (omega (arith, ints, left, right)) in
    omega (arith, ints, up, down)

module _ (p : ShareProblem) (problem : IsShareProblem p) (x y : List Fraction) (fx : IsFair p x) (fy : IsFair p y) where
  abbrev unit : ℤ
  unit = fy.unit *ℤ fx.unit

  abbrev first : List ℤ
  first = map (λ c. fy.unit *ℤ c) fx.numbers

  abbrev second : List ℤ
  second = map (λ c. fx.unit *ℤ c) fy.numbers

  unit_low : pos 1 ≤ℤ unit
  unit_low =
      let a = fx.whole.unit in
      let b = fy.whole.unit in
      let more = mul_most fy.unit (pos 1) fx.unit (omega (arith, ints, b)) a in
      let one : fy.unit *ℤ pos 1 ≡ fy.unit = omega (arith, ints) in
      omega (arith, ints, more, one, b)

  first_unit : IsInUnit p unit x first
  first_unit = finer_unit p fy.unit fx.unit unit x fx.numbers refl unit_low fx.whole

  second_unit : IsInUnit p unit y second
  second_unit = finer_unit p fx.unit fy.unit unit y fy.numbers (mul_comm fy.unit fx.unit) unit_low fy.whole

  first_feasible : IsFeasible p unit first
  first_feasible = finer_flow p fy.unit fx.unit unit fx.numbers refl fy.whole.unit fx.feasible

  second_feasible : IsFeasible p unit second
  second_feasible = finer_flow p fx.unit fy.unit unit fy.numbers (mul_comm fy.unit fx.unit) fx.whole.unit fy.feasible

  heavy : (k : ℕ) → k < p.nodes → (at_arc first k <ℤ at_arc second k) ⊎ (at_arc second k <ℤ at_arc first k) → pos 1 ≤ℤ at_arc p.weights k
  heavy k low h =
      by_lt_z (pos 0) (at_arc p.weights k) (λ more. omega (arith, ints, more))
      (λ none.
      let least = problem.weight_low k low in
      let zero_is : at_arc p.weights k ≡ pos 0 = omega (arith, ints, none, least) in
      let a = first_feasible.sources k low zero_is in
      let b = second_feasible.sources k low zero_is in
      absurd (same_no_apart (at_arc first k) (at_arc second k) (omega (arith, ints, a, b)) h))

  not_least : (i : ℕ) → IsLeastApart (at_arc first) (at_arc second) (at_arc p.weights) p.nodes i → ⊥
  not_least i l = elim l.apart [
    | inl less ↦ no_least p x unit first second fx first_unit second_feasible i l.there (heavy i l.there (inl less)) less
        (λ k low source h.
        let most = l.least k low (inr h) in
        let a = first_lesser (at_arc first i) (at_arc second i) less in
        let b = second_lesser (at_arc first k) (at_arc second k) h in
        let e = ap (λ n. n *ℤ at_arc p.weights k) a in
        let f = ap (λ n. n *ℤ at_arc p.weights i) b in
        omega (arith, ints, most, e, f))
    | inr less ↦ no_least p y unit second first fy second_unit first_feasible i l.there (heavy i l.there (inr less)) less
        (λ k low source h.
        let most = l.least k low (inl h) in
        let a = second_lesser (at_arc first i) (at_arc second i) less in
        let b = first_lesser (at_arc first k) (at_arc second k) h in
        let e = ap (λ n. n *ℤ at_arc p.weights k) a in
        let f = ap (λ n. n *ℤ at_arc p.weights i) b in
        omega (arith, ints, most, e, f))
  ]

  pub same_shares : (v : ℕ) → v < p.nodes → IsEqual (share_at x v) (share_at y v)
  same_shares v low = elim (find_least (at_arc first) (at_arc second) (at_arc p.weights) p.nodes heavy) [
    | inl all ↦ equal_shares unit (at_arc first v) (at_arc second v) (share_at x v).p (share_at x v).q (share_at y v).p (share_at y v).q unit_low (all v low)
        (first_unit.each v low) (second_unit.each v low)
    | inr found ↦ absurd (not_least found.0 found.1)
  ]
