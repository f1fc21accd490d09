-- What certifies shares proves them fair: in a unit that all levels share, the numbers are one flow, which fills all arcs from the lower
-- groups to the higher ones and none back; so no other vector brings more from the lower groups in all.
use Rattle.std.proofs.Common.{◌≡◌, ◌≢◌, ℕ, zero, suc, ◌+◌, ◌-◌, ◌<◌, ◌≤◌, List, [], ◌∷◌, length, get_or, refl, Bool, true, false, not, ◌&&◌, arith, ap, sym, ◌∙◌, inl, inr}
use Rattle.std.specs.Prelude.{ℤ, ◌+ℤ◌, ◌*ℤ◌, ◌≤ℤ◌, ◌<ℤ◌, pos, negsuc, nat_abs, nat_le, ◌==◌}
use Rattle.std.proofs.lemmas.Int.{ints, by_lt_z}
use Rattle.std.proofs.lemmas.Bool.{cases_eq, and_parts}
use Rattle.std.proofs.lemmas.Bool.Decides.{nat_tests}
use Rattle.pf_model.specs.Fraction.{Fraction, IsParameter, IsAtMost}
use Rattle.pf_model.specs.Cut.{has, at_arc, leaves, enters, sum_where}
use Rattle.pf_model.specs.Flow.{sum_out, sum_in}
use Rattle.pf_model.proofs.Integers.{mul_add, mul_assoc, mul_comm, mul_most, mul_less, mul_nonneg, swap}
use Rattle.pf_model.proofs.Certificate.{at_most_reflexive, at_most_trans}
use Rattle.pf_model.proofs.Sums.{sum_where_most, sum_where_split, sum_where_empty}
use Rattle.pf_model.proofs.Duality.{leaves_parts, enters_parts}
use Rattle.pf_share.specs.Problem.{ShareProblem, IsShareProblem, IsCarried, IsFeasible, IsInUnit, no_share, tail_of, head_of, share_at, HasLess}
use Rattle.pf_share.specs.Certificate.{SharesAnswer, level_at, group_at, node_level, rank_of, rank_at, is_lower, CertifiesShares, share_of, shares_of, IsBestShares}
use Rattle.pf_share.specs.Grouped.{tabled}
use Rattle.pf_share.proofs.Counting.{length_tabled, at_tabled, sum_times, sum_nothing, sum_side, side_less, side_times, find_less, side_across}
use Rattle.pf_share.proofs.ReadOff.{lower_not, lower_told, node_told, rank_none, rank_some}

-- a unit in which all levels are whole

abbrev product : List Fraction → ℤ
product [] = pos 1
product (x ∷ xs) = x.q *ℤ product xs

abbrev cofactor : List Fraction → ℕ → ℤ
cofactor [] j = pos 1
cofactor (x ∷ xs) zero = product xs
cofactor (x ∷ xs) (suc j) = x.q *ℤ cofactor xs j

abbrev AreParameters : List Fraction → Type 0
AreParameters xs = (j : ℕ) → j < length xs → IsParameter (get_or xs j no_share)

product_step : (a b : ℤ) → pos 1 ≤ℤ a → pos 1 ≤ℤ b → pos 1 ≤ℤ (a *ℤ b)
product_step a b h l =
    let more = mul_most a (pos 1) b (omega (arith, ints, h)) l in
    let one : a *ℤ pos 1 ≡ a = omega (arith, ints) in
    omega (arith, ints, more, one, h)

product_low : (xs : List Fraction) → AreParameters xs → pos 1 ≤ℤ product xs
product_low [] h = omega (arith, ints)
product_low (x ∷ xs) h = product_step x.q (product xs) (h 0 (omega arith)) (product_low xs (λ j low. h (suc j) (omega (arith, low))))

cofactor_low : (xs : List Fraction) (j : ℕ) → AreParameters xs → pos 1 ≤ℤ cofactor xs j
cofactor_low [] j h = omega (arith, ints)
cofactor_low (x ∷ xs) zero h = product_low xs (λ j low. h (suc j) (omega (arith, low)))
cofactor_low (x ∷ xs) (suc j) h =
    product_step x.q (cofactor xs j) (h 0 (omega arith)) (cofactor_low xs j (λ k low. h (suc k) (omega (arith, low))))

cofactor_is : (xs : List Fraction) (j : ℕ) → j < length xs → cofactor xs j *ℤ (get_or xs j no_share).q ≡ product xs
cofactor_is [] j low = absurd (omega (arith, low))
cofactor_is (x ∷ xs) zero low = mul_comm (product xs) x.q
cofactor_is (x ∷ xs) (suc j) low =
    mul_assoc x.q (cofactor xs j) (get_or xs j no_share).q ∙ ap (λ n. x.q *ℤ n) (cofactor_is xs j (omega (arith, low)))

-- the numbers beside arcs, each times what its tail says
abbrev factored : (ℕ → ℤ) → List (ℕ × ℕ) → List ℤ → List ℤ
factored f [] xs = []
factored f (arc ∷ arcs) [] = []
factored f (arc ∷ arcs) (x ∷ xs) = (f arc.0 *ℤ x) ∷ factored f arcs xs

length_factored : (f : ℕ → ℤ) (arcs : List (ℕ × ℕ)) (xs : List ℤ) → length xs ≡ length arcs → length (factored f arcs xs) ≡ length arcs
length_factored f [] xs full = refl
length_factored f (arc ∷ arcs) [] full = absurd (omega (arith, full))
length_factored f (arc ∷ arcs) (x ∷ xs) full = ap suc (length_factored f arcs xs (omega (arith, full)))

at_factored : (f : ℕ → ℤ) (arcs : List (ℕ × ℕ)) (xs : List ℤ) (i : ℕ) → length xs ≡ length arcs → i < length arcs →
    at_arc (factored f arcs xs) i ≡ f (get_or arcs i (0, 0)).0 *ℤ at_arc xs i
at_factored f [] xs i full low = absurd (omega (arith, low))
at_factored f (arc ∷ arcs) [] i full low = absurd (omega (arith, full))
at_factored f (arc ∷ arcs) (x ∷ xs) zero full low = refl
at_factored f (arc ∷ arcs) (x ∷ xs) (suc i) full low = at_factored f arcs xs i (omega (arith, full)) (omega (arith, low))

-- groups and their order

pub same_rank : (count g k : ℕ) → g ≤ count → k ≤ count → rank_of count g ≡ rank_of count k → g ≡ k
same_rank count g k low low' e = elim (cases_eq g 0) [
  | inl none ↦ elim (cases_eq k 0) [
    | inl none' ↦ none ∙ sym none'
    | inr some' ↦ absurd (let a = rank_none count g none in let b = rank_some count k some' in omega (arith, a, b, e, low'))
  ]
  | inr some ↦ elim (cases_eq k 0) [
    | inl none' ↦ absurd (let a = rank_some count g some in let b = rank_none count k none' in omega (arith, a, b, e, low))
    | inr some' ↦ (let a = rank_some count g some in let b = rank_some count k some' in omega (arith, a, b, e))
  ]
]

pub abs_of : (g : ℤ) (n : ℕ) → pos 0 ≤ℤ g → g ≤ℤ pos n → nat_abs g ≤ n
abs_of (pos g) n h l = omega (arith, ints, l)
abs_of (negsuc g) n h l = absurd (omega (arith, ints, h))

abs_some : (g : ℤ) → pos 1 ≤ℤ g → nat_abs g ≢ 0
abs_some (pos g) h = λ e. absurd (omega (arith, ints, h, e))
abs_some (negsuc g) h = absurd (omega (arith, ints, h))

within_told : (a b : ℕ) → nat_le a b ≡ true → a ≤ b
within_told a b h = grind (arith, nat_tests)

within_not : (a b : ℕ) → nat_le a b ≡ false → b < a
within_not a b h = grind (arith, nat_tests)

within_is : (a b : ℕ) → a ≤ b → nat_le a b ≡ true
within_is a b h = grind (arith, nat_tests)

above_is : (a b : ℕ) → b < a → nat_le a b ≡ false
above_is a b h = grind (arith, nat_tests)

-- shares of levels
pub share_is : (levels : List Fraction) (weights groups : List ℤ) (v : ℕ) → length groups ≡ length weights → v < length weights →
    share_at (shares_of levels weights groups) v ≡ share_of (node_level levels groups v) (at_arc weights v)
share_is levels [] groups v full low = absurd (omega (arith, low))
share_is levels (w ∷ weights) [] v full low = absurd (omega (arith, full))
share_is levels (w ∷ weights) (g ∷ groups) zero full low = refl
share_is levels (w ∷ weights) (g ∷ groups) (suc v) full low = share_is levels weights groups v (omega (arith, full)) (omega (arith, low))

pub length_shares : (levels : List Fraction) (weights groups : List ℤ) → length groups ≡ length weights → length (shares_of levels weights groups) ≡ length weights
length_shares levels [] groups full = refl
length_shares levels (w ∷ weights) [] full = absurd (omega (arith, full))
length_shares levels (w ∷ weights) (g ∷ groups) full = ap suc (length_shares levels weights groups (omega (arith, full)))

-- numbers

scale_high : (h c q n u : ℤ) → pos 0 ≤ℤ h → h *ℤ q ≡ u → n ≤ℤ (c *ℤ q) → (h *ℤ n) ≤ℤ (c *ℤ u)
scale_high h c q n u low e l =
    let a = mul_most h n (c *ℤ q) low l in
    let b = swap h c q ∙ ap (λ x. c *ℤ x) (mul_comm q h ∙ e) in
    omega (arith, ints, a, b)

scale_full : (h c q n u : ℤ) → h *ℤ q ≡ u → n ≡ c *ℤ q → h *ℤ n ≡ c *ℤ u
scale_full h c q n u e l = ap (λ x. h *ℤ x) l ∙ swap h c q ∙ ap (λ x. c *ℤ x) (mul_comm q h ∙ e)

scale_none : (h n : ℤ) → n ≡ pos 0 → h *ℤ n ≡ pos 0
scale_none h n e = let none : h *ℤ pos 0 ≡ pos 0 = omega (arith, ints) in ap (λ x. h *ℤ x) e ∙ none

share_in_unit : (h q u p w : ℤ) → h *ℤ q ≡ u → (h *ℤ (p *ℤ w)) *ℤ q ≡ u *ℤ (p *ℤ w)
share_in_unit h q u p w e = mul_comm (h *ℤ (p *ℤ w)) q ∙ sym (mul_assoc q h (p *ℤ w)) ∙ ap (λ x. x *ℤ (p *ℤ w)) (mul_comm q h ∙ e)

-- the kept sums in the finer unit
kept_scaled : (h q share same low out in_same in_low out' : ℤ) → share +ℤ (same +ℤ (low *ℤ q)) ≡ out → in_same ≡ h *ℤ same → in_low ≡ (h *ℤ q) *ℤ low →
    out' ≡ h *ℤ out → (h *ℤ share) +ℤ (in_low +ℤ in_same) ≡ out'
kept_scaled h q share same low out in_same in_low out' e a b c =
    let d = ap (λ x. h *ℤ x) (sym e) ∙ mul_add h share (same +ℤ (low *ℤ q)) in
    let f = mul_add h same (low *ℤ q) in
    let g = swap h low q ∙ mul_comm low (q *ℤ h) ∙ ap (λ x. x *ℤ low) (mul_comm q h) in
    omega (arith, ints, a, b, c, d, f, g)

-- a share in the finer unit is the product times the share in the given one
refine : (u c q n p w total : ℤ) → c *ℤ q ≡ total → n *ℤ q ≡ u *ℤ (p *ℤ w) → (u *ℤ c) *ℤ (p *ℤ w) ≡ total *ℤ n
refine u c q n p w total e f =
    ap (λ x. x *ℤ (p *ℤ w)) (mul_comm u c) ∙ mul_assoc c u (p *ℤ w) ∙ ap (λ x. c *ℤ x) (sym f ∙ mul_comm n q) ∙ sym (mul_assoc c q n) ∙ ap (λ x. x *ℤ n) e

-- levels rise
level_order : (p q p' q' w w' : ℤ) → pos 0 ≤ℤ w → pos 0 ≤ℤ w' → (p *ℤ q') ≤ℤ (p' *ℤ q) → ((p *ℤ w) *ℤ (q' *ℤ w')) ≤ℤ ((p' *ℤ w') *ℤ (q *ℤ w))
level_order p q p' q' w w' h h' order =
    let a = mul_most (w *ℤ w') (p *ℤ q') (p' *ℤ q) (mul_nonneg w w' h h') order in
    let left : (p *ℤ w) *ℤ (q' *ℤ w') ≡ (w *ℤ w') *ℤ (p *ℤ q') =
    ap (λ x. x *ℤ (q' *ℤ w')) (mul_comm p w) ∙ mul_assoc w p (q' *ℤ w') ∙ ap (λ x. w *ℤ x) (sym (mul_assoc p q' w') ∙ mul_comm (p *ℤ q') w')
    ∙ sym (mul_assoc w w' (p *ℤ q')) in
    let right : (p' *ℤ w') *ℤ (q *ℤ w) ≡ (w *ℤ w') *ℤ (p' *ℤ q) =
    ap (λ x. x *ℤ (q *ℤ w)) (mul_comm p' w') ∙ mul_assoc w' p' (q *ℤ w) ∙ ap (λ x. w' *ℤ x) (sym (mul_assoc p' q w) ∙ mul_comm (p' *ℤ q) w)
    ∙ sym (mul_assoc w' w (p' *ℤ q)) ∙ ap (λ x. x *ℤ (p' *ℤ q)) (mul_comm w' w) in
    omega (arith, ints, a, left, right)

module _ (p : ShareProblem) (a : SharesAnswer) (problem : IsShareProblem p) (c : CertifiesShares p a) where
  abbrev all_levels : List Fraction
  all_levels = no_share ∷ a.levels

  abbrev level : ℕ → Fraction
  level v = node_level a.levels a.groups v

  abbrev rank : ℕ → ℕ
  rank v = rank_at a.levels a.groups v

  abbrev whole_unit : ℤ
  whole_unit = product all_levels

  abbrev co : ℕ → ℤ
  co v = cofactor all_levels (group_at a.groups v)

  parameters : AreParameters all_levels
  parameters zero low = omega (arith, ints)
  parameters (suc j) low = c.levels.parameters j (omega (arith, low))

  group_low : (v : ℕ) → v < p.nodes → group_at a.groups v ≤ length a.levels
  group_low v low = abs_of (at_arc a.groups v) (length a.levels) (c.groups.low v low) (c.groups.high v low)

  level_parameter : (v : ℕ) → v < p.nodes → IsParameter (level v)
  level_parameter v low = let h = group_low v low in parameters (group_at a.groups v) (omega (arith, h))

  co_is : (v : ℕ) → v < p.nodes → co v *ℤ (level v).q ≡ whole_unit
  co_is v low = let h = group_low v low in cofactor_is all_levels (group_at a.groups v) (omega (arith, h))

  source_group : (v : ℕ) → v < p.nodes → pos 1 ≤ℤ at_arc p.weights v → group_at a.groups v ≢ 0
  source_group v low heavy = abs_some (at_arc a.groups v) (c.groups.sources v low heavy)

  -- in units of 1/(k whole_unit)
  abbrev factor : ℤ → ℕ → ℤ
  factor k v = k *ℤ co v

  abbrev flow_in : ℤ → List ℤ
  flow_in k = factored (factor k) p.ends a.flow

  abbrev share_in : ℤ → ℕ → ℤ
  share_in k v = factor k v *ℤ ((level v).p *ℤ at_arc p.weights v)

  abbrev shares_in : ℤ → List ℤ
  shares_in k = tabled (share_in k) p.nodes

  factor_low : (k : ℤ) (v : ℕ) → pos 1 ≤ℤ k → pos 0 ≤ℤ factor k v
  factor_low k v h = let l = cofactor_low all_levels (group_at a.groups v) parameters in mul_nonneg k (co v) (omega (arith, ints, h)) (omega (arith, ints, l))

  factor_is : (k : ℤ) (v : ℕ) → v < p.nodes → factor k v *ℤ (level v).q ≡ k *ℤ whole_unit
  factor_is k v low = mul_assoc k (co v) (level v).q ∙ ap (λ x. k *ℤ x) (co_is v low)

  flow_at : (k : ℤ) (i : ℕ) → i < length p.ends → at_arc (flow_in k) i ≡ factor k (tail_of p i) *ℤ at_arc a.flow i
  flow_at k i low = at_factored (factor k) p.ends a.flow i c.flow.full low

  flow_up : (k : ℤ) (i : ℕ) → i < length p.ends → rank (tail_of p i) < rank (head_of p i) →
      at_arc (flow_in k) i ≡ at_arc p.capacities i *ℤ (k *ℤ whole_unit)
  flow_up k i low h =
      flow_at k i low
      ∙ scale_full (factor k (tail_of p i)) (at_arc p.capacities i) (level (tail_of p i)).q (at_arc a.flow i) (k *ℤ whole_unit)
      (factor_is k (tail_of p i) (problem.tails i low)) (c.flow.upward i low h)

  flow_down : (k : ℤ) (i : ℕ) → i < length p.ends → rank (head_of p i) < rank (tail_of p i) → at_arc (flow_in k) i ≡ pos 0
  flow_down k i low h = flow_at k i low ∙ scale_none (factor k (tail_of p i)) (at_arc a.flow i) (c.flow.downward i low h)

  -- what comes from the node's own group or from higher ones
  from_same : (k : ℤ) (v i : ℕ) → v < p.nodes → i < length p.ends → head_of p i ≡ v → rank v ≤ rank (tail_of p i) →
      at_arc (flow_in k) i ≡ factor k v *ℤ at_arc a.flow i
  from_same k v i low there e h = elim (cases_eq (rank (tail_of p i)) (rank v)) [
    | inl same ↦
        (let g = same_rank (length a.levels) (group_at a.groups (tail_of p i)) (group_at a.groups v) (group_low (tail_of p i) (problem.tails i there)) (group_low v low) same in
        flow_at k i there ∙ ap (λ n. (k *ℤ cofactor all_levels n) *ℤ at_arc a.flow i) g)
    | inr other ↦
        (let lower : rank (head_of p i) < rank (tail_of p i) = rw e (omega (arith, h, other)) in
        flow_down k i there lower ∙ sym (scale_none (factor k v) (at_arc a.flow i) (c.flow.downward i there lower)))
  ]

  from_lower : (k : ℤ) (v i : ℕ) → v < p.nodes → i < length p.ends → head_of p i ≡ v → rank (tail_of p i) < rank v →
      at_arc (flow_in k) i ≡ (factor k v *ℤ (level v).q) *ℤ at_arc p.capacities i
  from_lower k v i low there e h =
      flow_up k i there (rw e h) ∙ mul_comm (at_arc p.capacities i) (k *ℤ whole_unit) ∙ ap (λ x. x *ℤ at_arc p.capacities i) (sym (factor_is k v low))

  leaving_node : (k : ℤ) (v : ℕ) → sum_out p.ends (flow_in k) v ≡ factor k v *ℤ sum_out p.ends a.flow v
  leaving_node k v =
      sum_times (λ arc. arc.0 == v) p.ends (flow_in k) a.flow (factor k v) c.flow.full
      (λ i h. flow_at k i h.in_range ∙ ap (λ n. factor k n *ℤ at_arc a.flow i) (node_told (tail_of p i) v h.passes))

  entering_low : (k : ℤ) (v : ℕ) → v < p.nodes →
      sum_where (λ arc. (arc.1 == v) && is_lower a.levels a.groups arc.0 v) p.ends (flow_in k)
      ≡ (factor k v *ℤ (level v).q) *ℤ sum_where (λ arc. (arc.1 == v) && is_lower a.levels a.groups arc.0 v) p.ends p.capacities
  entering_low k v low =
      sum_times (λ arc. (arc.1 == v) && is_lower a.levels a.groups arc.0 v) p.ends (flow_in k) p.capacities (factor k v *ℤ (level v).q) problem.capacities_full
      (λ i h.
      let both = and_parts (head_of p i == v) (is_lower a.levels a.groups (tail_of p i) v) h.passes in
      from_lower k v i low h.in_range (node_told (head_of p i) v both.0) (lower_told (rank (tail_of p i)) (rank v) both.1))

  entering_same : (k : ℤ) (v : ℕ) → v < p.nodes →
      sum_where (λ arc. (arc.1 == v) && not (is_lower a.levels a.groups arc.0 v)) p.ends (flow_in k)
      ≡ factor k v *ℤ sum_where (λ arc. (arc.1 == v) && not (is_lower a.levels a.groups arc.0 v)) p.ends a.flow
  entering_same k v low =
      sum_times (λ arc. (arc.1 == v) && not (is_lower a.levels a.groups arc.0 v)) p.ends (flow_in k) a.flow (factor k v) c.flow.full
      (λ i h.
      let both = and_parts (head_of p i == v) (not (is_lower a.levels a.groups (tail_of p i) v)) h.passes in
      from_same k v i low h.in_range (node_told (head_of p i) v both.0) (lower_not (rank (tail_of p i)) (rank v) both.1))

  node_kept : (k : ℤ) (v : ℕ) → v < p.nodes → v ≢ p.sink → share_in k v +ℤ sum_in p.ends (flow_in k) v ≡ sum_out p.ends (flow_in k) v
  node_kept k v low apart =
      let split = sum_where_split (λ arc. arc.1 == v) (λ arc. is_lower a.levels a.groups arc.0 v) p.ends (flow_in k) in
      ap (λ n. share_in k v +ℤ n) split
      ∙ kept_scaled (factor k v) (level v).q ((level v).p *ℤ at_arc p.weights v)
      (sum_where (λ arc. (arc.1 == v) && not (is_lower a.levels a.groups arc.0 v)) p.ends a.flow)
      (sum_where (λ arc. (arc.1 == v) && is_lower a.levels a.groups arc.0 v) p.ends p.capacities) (sum_out p.ends a.flow v)
      (sum_where (λ arc. (arc.1 == v) && not (is_lower a.levels a.groups arc.0 v)) p.ends (flow_in k))
      (sum_where (λ arc. (arc.1 == v) && is_lower a.levels a.groups arc.0 v) p.ends (flow_in k)) (sum_out p.ends (flow_in k) v)
      (c.flow.kept v low apart) (entering_same k v low) (entering_low k v low) (leaving_node k v)

  share_here : (k : ℤ) (v : ℕ) → v < p.nodes → at_arc (shares_in k) v ≡ share_in k v
  share_here k v low = at_tabled (share_in k) (pos 0) p.nodes v low

  carried_in : (k : ℤ) → pos 1 ≤ℤ k → IsCarried p (k *ℤ whole_unit) (shares_in k) (flow_in k)
  carried_in k h = record {
    full = length_factored (factor k) p.ends a.flow c.flow.full;
    low = λ i low.
        let e = flow_at k i low in
        let f = mul_nonneg (factor k (tail_of p i)) (at_arc a.flow i) (factor_low k (tail_of p i) h) (c.flow.low i low) in
        omega (arith, ints, e, f);
    high = λ i low.
        let e = flow_at k i low in
        let f = scale_high (factor k (tail_of p i)) (at_arc p.capacities i) (level (tail_of p i)).q (at_arc a.flow i) (k *ℤ whole_unit) (factor_low k (tail_of p i) h)
        (factor_is k (tail_of p i) (problem.tails i low)) (c.flow.high i low) in
        omega (arith, ints, e, f);
    kept = λ v low apart. ap (λ n. n +ℤ sum_in p.ends (flow_in k) v) (share_here k v low) ∙ node_kept k v low apart;
  }

  -- levels are not below 0
  level_low : (j : ℕ) → j < length all_levels → pos 0 ≤ℤ (level_at a.levels j).p
  level_low zero low = omega (arith, ints)
  level_low (suc j) low = c.levels.low j (omega (arith, low))

  node_low : (v : ℕ) → v < p.nodes → pos 0 ≤ℤ (level v).p
  node_low v low = let h = group_low v low in level_low (group_at a.groups v) (omega (arith, h))

  feasible_in : (k : ℤ) → pos 1 ≤ℤ k → IsFeasible p (k *ℤ whole_unit) (shares_in k)
  feasible_in k h = record {
    full = length_tabled (share_in k) p.nodes;
    low = λ v low.
        let e = share_here k v low in
        let f = mul_nonneg (factor k v) ((level v).p *ℤ at_arc p.weights v) (factor_low k v h)
        (mul_nonneg (level v).p (at_arc p.weights v) (node_low v low) (problem.weight_low v low)) in
        omega (arith, ints, e, f);
    sources = λ v low none.
        share_here k v low ∙ scale_none (factor k v) ((level v).p *ℤ at_arc p.weights v) (scale_none (level v).p (at_arc p.weights v) none);
    flow = flow_in k;
    carried = carried_in k h;
  }

  abbrev shares : List Fraction
  shares = shares_of a.levels p.weights a.groups

  groups_wide : length a.groups ≡ length p.weights
  groups_wide = c.groups.full ∙ sym problem.weights_full

  share_fraction : (v : ℕ) → v < p.nodes → share_at shares v ≡ share_of (level v) (at_arc p.weights v)
  share_fraction v low = let full = problem.weights_full in share_is a.levels p.weights a.groups v groups_wide (omega (arith, full, low))

  unit_in : (k : ℤ) → pos 1 ≤ℤ k → IsInUnit p (k *ℤ whole_unit) shares (shares_in k)
  unit_in k h = record {
    unit = product_step k whole_unit h (product_low all_levels parameters);
    full = length_tabled (share_in k) p.nodes;
    each = λ v low.
        rw (share_fraction v low, share_here k v low)
        (share_in_unit (factor k v) (level v).q (k *ℤ whole_unit) (level v).p (at_arc p.weights v) (factor_is k v low));
  }

  -- the nodes of the groups up to one
  abbrev lower_side : ℕ → List Bool
  lower_side r = tabled (λ v. nat_le (rank v) r) p.nodes

  in_side : (r v : ℕ) → v < p.nodes → has (lower_side r) v ≡ nat_le (rank v) r
  in_side r v low = at_tabled (λ u. nat_le (rank u) r) false p.nodes v low

  side_held : (r v : ℕ) → v < p.nodes → has (lower_side r) v ≡ true → rank v ≤ r
  side_held r v low h = within_told (rank v) r (sym (in_side r v low) ∙ h)

  side_out : (r v : ℕ) → v < p.nodes → has (lower_side r) v ≡ false → r < rank v
  side_out r v low h = within_not (rank v) r (sym (in_side r v low) ∙ h)

  -- what all sources of these groups bring fills the arcs that leave them
  side_total : (k : ℤ) (r : ℕ) → pos 1 ≤ℤ k → has (lower_side r) p.sink ≡ false →
      sum_side (at_arc (shares_in k)) (lower_side r) p.nodes ≡ (k *ℤ whole_unit) *ℤ sum_where (leaves (lower_side r)) p.ends p.capacities
  side_total k r h out =
      let side = lower_side r in
      let e = side_across p (k *ℤ whole_unit) (shares_in k) (flow_in k) side (carried_in k h) out (length_tabled (λ v. nat_le (rank v) r) p.nodes) in
      let full = sum_times (leaves side) p.ends (flow_in k) p.capacities (k *ℤ whole_unit) problem.capacities_full
      (λ i t.
      let both = leaves_parts side (get_or p.ends i (0, 0)) t.passes in
      let first = side_held r (tail_of p i) (problem.tails i t.in_range) both.0 in
      let second = side_out r (head_of p i) (problem.heads i t.in_range) both.1 in
      flow_up k i t.in_range (omega (arith, first, second)) ∙ mul_comm (at_arc p.capacities i) (k *ℤ whole_unit)) in
      let empty = sum_nothing (enters side) p.ends (flow_in k)
      (λ i t.
      let both = enters_parts side (get_or p.ends i (0, 0)) t.passes in
      let first = side_held r (head_of p i) (problem.heads i t.in_range) both.0 in
      let second = side_out r (tail_of p i) (problem.tails i t.in_range) both.1 in
      flow_down k i t.in_range (omega (arith, first, second))) in
      omega (arith, ints, e, full, empty)

  -- and no other vector brings more
  side_bound : (u : ℤ) (other flow : List ℤ) (r : ℕ) → IsCarried p u other flow → has (lower_side r) p.sink ≡ false →
      sum_side (at_arc other) (lower_side r) p.nodes ≤ℤ (u *ℤ sum_where (leaves (lower_side r)) p.ends p.capacities)
  side_bound u other flow r f out =
      let side = lower_side r in
      let e = side_across p u other flow side f out (length_tabled (λ v. nat_le (rank v) r) p.nodes) in
      let full = sum_where_most (leaves side) p.ends flow (factored (λ v. u) p.ends p.capacities)
      (λ i t.
      let high = f.high i t.in_range in
      let same = at_factored (λ v. u) p.ends p.capacities i problem.capacities_full t.in_range in
      omega (arith, ints, high, same, mul_comm u (at_arc p.capacities i))) in
      let times = sum_times (leaves side) p.ends (factored (λ v. u) p.ends p.capacities) p.capacities u problem.capacities_full
      (λ i t. at_factored (λ v. u) p.ends p.capacities i problem.capacities_full t.in_range) in
      let empty = sum_where_most (enters side) p.ends [] flow (λ i t. f.low i t.in_range) in
      let none = sum_where_empty (enters side) p.ends in
      omega (arith, ints, e, full, times, empty, none)

  -- levels rise with the groups
  levels_rise : (d j : ℕ) → j + d < length a.levels → IsAtMost (level_at a.levels (suc j)) (level_at a.levels (suc (j + d)))
  levels_rise zero j low = let e : j + 0 ≡ j = omega arith in rw e (at_most_reflexive (level_at a.levels (suc j)))
  levels_rise (suc d) j low =
      let e : j + suc d ≡ suc (j + d) = omega arith in
      let before = levels_rise d j (omega (arith, low)) in
      let next = c.levels.rise (j + d) (omega (arith, low)) in
      rw e (at_most_trans (level_at a.levels (suc j)) (level_at a.levels (suc (j + d))) (level_at a.levels (suc (suc (j + d))))
      (c.levels.parameters j (omega (arith, low))) (c.levels.parameters (j + d) (omega (arith, low))) (c.levels.parameters (suc (j + d)) (omega (arith, low)))
      before (omega (arith, ints, next)))

  levels_order : (g k : ℕ) → g ≢ 0 → g ≤ k → k ≤ length a.levels → IsAtMost (level_at a.levels g) (level_at a.levels k)
  levels_order zero k some low high = absurd (some refl)
  levels_order (suc g) zero some low high = absurd (omega (arith, low))
  levels_order (suc g) (suc k) some low high =
      let d : ℕ = k - g in
      let e : g + d ≡ k = omega (arith, low) in
      rw e at (levels_rise d g (omega (arith, e, high)))

  -- a node with a share has a weight
  has_weight : (v : ℕ) (n u : ℤ) → v < p.nodes → pos 0 <ℤ n → n *ℤ (level v).q ≡ u *ℤ ((level v).p *ℤ at_arc p.weights v) → pos 1 ≤ℤ at_arc p.weights v
  has_weight v n u low more e =
      by_lt_z (pos 0) (at_arc p.weights v) (λ some. omega (arith, ints, some))
      (λ none.
      let least = problem.weight_low v low in
      let zero_is : at_arc p.weights v ≡ pos 0 = omega (arith, ints, none, least) in
      let right = scale_none u ((level v).p *ℤ at_arc p.weights v) (scale_none (level v).p (at_arc p.weights v) zero_is) in
      let q = level_parameter v low in
      let left = product_step n (level v).q (omega (arith, ints, more)) q in
      absurd (omega (arith, ints, e, right, left)))

  number_is : (u : ℤ) (numbers : List ℤ) (v : ℕ) → IsInUnit p u shares numbers → v < p.nodes →
      at_arc numbers v *ℤ (level v).q ≡ u *ℤ ((level v).p *ℤ at_arc p.weights v)
  number_is u numbers v unit low = rw (share_fraction v low) at (unit.each v low)

  -- no node of the groups up to one has less: then none of them has more
  fair_by : (u : ℤ) (numbers other : List ℤ) → IsInUnit p u shares numbers → IsFeasible p u other → (i : ℕ) → i < p.nodes → at_arc numbers i <ℤ at_arc other i →
      has (lower_side (rank i)) p.sink ≡ false →
      ((v : ℕ) → v < p.nodes → has (lower_side (rank i)) v ≡ true → at_arc numbers v ≤ℤ at_arc other v) → ⊥
  fair_by u numbers other unit f i low more out all =
      let r = rank i in
      let side = lower_side r in
      let less = side_less (at_arc numbers) (at_arc other) side p.nodes i all low (in_side r i low ∙ within_is (rank i) r (omega arith)) more in
      let bound = side_bound u other f.flow r f.carried out in
      let total = side_total u r unit.unit out in
      let same = side_times (at_arc (shares_in u)) (at_arc numbers) whole_unit side p.nodes
      (λ v small. share_here u v small
      ∙ refine u (co v) (level v).q (at_arc numbers v) (level v).p (at_arc p.weights v) whole_unit (co_is v small) (number_is u numbers v unit small)) in
      let positive = product_low all_levels parameters in
      let wide = mul_less whole_unit (sum_side (at_arc numbers) side p.nodes) (sum_side (at_arc other) side p.nodes) (omega (arith, ints, positive)) less in
      let most = mul_most whole_unit (sum_side (at_arc other) side p.nodes) (u *ℤ sum_where (leaves side) p.ends p.capacities) (omega (arith, ints, positive)) bound in
      let turn : (u *ℤ whole_unit) *ℤ sum_where (leaves side) p.ends p.capacities ≡ whole_unit *ℤ (u *ℤ sum_where (leaves side) p.ends p.capacities) =
      ap (λ x. x *ℤ sum_where (leaves side) p.ends p.capacities) (mul_comm u whole_unit) ∙ mul_assoc whole_unit u (sum_where (leaves side) p.ends p.capacities) in
      omega (arith, ints, total, same, wide, most, turn)

  sink_out : (i : ℕ) → i < p.nodes → group_at a.groups i ≢ 0 → has (lower_side (rank i)) p.sink ≡ false
  sink_out i low some =
      let first = rank_some (length a.levels) (group_at a.groups i) some in
      let few = group_low i low in
      let last = rank_none (length a.levels) (group_at a.groups p.sink) (ap nat_abs c.groups.sink) in
      in_side (rank i) p.sink problem.sink ∙ above_is (rank p.sink) (rank i) (omega (arith, first, few, last))

  -- whoever gains is a source
  gains_source : (u : ℤ) (numbers other : List ℤ) → IsInUnit p u shares numbers → IsFeasible p u other → (i : ℕ) → i < p.nodes → at_arc numbers i <ℤ at_arc other i →
      pos 1 ≤ℤ at_arc p.weights i
  gains_source u numbers other unit f i low more =
      by_lt_z (pos 0) (at_arc p.weights i) (λ some. omega (arith, ints, some))
      (λ none.
      let least = problem.weight_low i low in
      let zero_is : at_arc p.weights i ≡ pos 0 = omega (arith, ints, none, least) in
      let nothing = f.sources i low zero_is in
      let e = number_is u numbers i unit low in
      let right = scale_none u ((level i).p *ℤ at_arc p.weights i) (scale_none (level i).p (at_arc p.weights i) zero_is) in
      let q = level_parameter i low in
      let left = mul_less (level i).q (at_arc numbers i) (pos 0) (omega (arith, ints, q)) (omega (arith, ints, more, nothing)) in
      let zeros : (level i).q *ℤ pos 0 ≡ pos 0 = omega (arith, ints) in
      absurd (omega (arith, ints, e, right, left, zeros, mul_comm (level i).q (at_arc numbers i))))

  fair_here : (u : ℤ) (numbers other : List ℤ) → IsInUnit p u shares numbers → IsFeasible p u other → (i : ℕ) → i < p.nodes →
      at_arc numbers i <ℤ at_arc other i → HasLess p shares numbers other i
  fair_here u numbers other unit f i low more =
      let heavy = gains_source u numbers other unit f i low more in
      let some = source_group i low heavy in
      elim (find_less (at_arc numbers) (at_arc other) (lower_side (rank i)) p.nodes) [
        | inl all ↦ absurd (fair_by u numbers other unit f i low more (sink_out i low some) all)
        | inr found ↦
            let j = found.node in
            let there = found.there in
            let above = f.low j there in
            let less = found.less in
            let source = has_weight j (at_arc numbers j) u there (omega (arith, ints, above, less)) (number_is u numbers j unit there) in
            let group = source_group j there source in
            let within = side_held (rank i) j there found.held in
            let a_rank = rank_some (length a.levels) (group_at a.groups j) group in
            let b_rank = rank_some (length a.levels) (group_at a.groups i) some in
            let order = levels_order (group_at a.groups j) (group_at a.groups i) group (omega (arith, within, a_rank, b_rank)) (group_low i low) in
            record {
              node = j;
              there = there;
              source = source;
              level = rw (share_fraction j there, share_fraction i low)
                  (level_order (level j).p (level j).q (level i).p (level i).q (at_arc p.weights j) (at_arc p.weights i)
                  (problem.weight_low j there) (problem.weight_low i low) order);
              less = less;
            }
      ]

  pub certified_fair : IsBestShares p a
  certified_fair = record {
    fair = record {
      full = length_shares a.levels p.weights a.groups groups_wide ∙ problem.weights_full;
      parameters = λ v low. rw (share_fraction v low) (level_parameter v low);
      unit = pos 1 *ℤ whole_unit;
      numbers = shares_in (pos 1);
      whole = unit_in (pos 1) (omega (arith, ints));
      feasible = feasible_in (pos 1) (omega (arith, ints));
      fair = fair_here;
    };
  }
