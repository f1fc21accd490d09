-- The network of all groups at once: its arcs, its supplies, and what leaves and enters each node.
use Rattle.std.proofs.Common.{◌≡◌, ◌≢◌, ℕ, zero, suc, ◌+◌, ◌<◌, ◌≤◌, List, [], ◌∷◌, length, get_or, refl, Bool, true, false, cond, not, ◌&&◌, eqb, arith, ap, sym, ◌∙◌, subst}
use Rattle.std.specs.Prelude.{ℤ, ◌+ℤ◌, ◌*ℤ◌, ◌≤ℤ◌, pos, ◌==◌}
use Rattle.std.proofs.lemmas.Int.{ints}
use Rattle.std.proofs.lemmas.Bool.{both_ways, ne_eqb, false≢true}
use Rattle.std.proofs.lemmas.List.{length-map}
use Rattle.std.proofs.Math.Bool.{and-false}
use Rattle.pf_model.specs.Fraction.{Fraction}
use Rattle.pf_model.specs.Cut.{IsProper, has, at_arc, tail_at, head_at, leaves, enters, sum_where}
use Rattle.pf_model.specs.Flow.{sum_out, sum_in}
use Rattle.pf_model.specs.Network.{ends_of, capacity_at}
use Rattle.pf_model.proofs.Integers.{mul_nonneg}
use Rattle.pf_model.proofs.Duality.{IsTight, leaves_parts, enters_parts}
use Rattle.pf_share.specs.Problem.{ShareProblem, IsShareProblem, tail_of, head_of}
use Rattle.pf_share.specs.Certificate.{SharesAnswer, level_at, group_at, node_level, is_lower, AreLevels, CertifiesShares}
use Rattle.pf_share.specs.Reduction.{share_net}
use Rattle.pf_share.specs.Grouped.{redirected, own_capacity, brought_in, supply, group_problem, one}
use Rattle.pf_share.proofs.Counting.{length_tabled, at_tabled}
use Rattle.pf_share.proofs.NetArcs.{at_net, arcs_full, each_arc, ends_many, flow_ends, source_ends, flow_capacity, source_capacity, node_out, node_in}
use Rattle.pf_share.proofs.Soundness.{abs_of}
use Rattle.pf_share.proofs.ReadOff.{off_by, on_by, sum_least}

-- a network with its numbers as they are

-- the ends and the capacities of its arcs, one kind after the other
pub proper_one : (g : ShareProblem) → IsShareProblem g → IsProper (at_net g one)
proper_one g h =
    let net = at_net g one in
    let many = ends_many g one h in
    let all = arcs_full g h in
    let sink = h.sink in
    let T : ℕ → Type 0 = λ k. tail_at net k < suc g.nodes in
    let H : ℕ → Type 0 = λ k. head_at net k < suc g.nodes in
    let C : ℕ → Type 0 = λ k. pos 0 ≤ℤ at_arc net.capacities k in
    let first : ℕ × ℕ → Type 0 = λ e. e.0 < suc g.nodes in
    let second : ℕ × ℕ → Type 0 = λ e. e.1 < suc g.nodes in
    record {
      source = omega arith;
      sink = omega (arith, sink);
      apart = λ e. absurd (omega (arith, e, sink));
      tails = λ i low. each_arc g T h
          (λ k less. let t = h.tails k less in subst first (sym (flow_ends g one k h less)) (omega (arith, t)))
          (λ v less. subst first (sym (source_ends g one v h less)) (omega arith)) i (omega (arith, low, many, all));
      heads = λ i low. each_arc g H h
          (λ k less. let t = h.heads k less in subst second (sym (flow_ends g one k h less)) (omega (arith, t)))
          (λ v less. subst second (sym (source_ends g one v h less)) (omega (arith, less))) i (omega (arith, low, many, all));
      full = length-map (share_net g).arcs (capacity_at one) ∙ sym (length-map (share_net g).arcs ends_of);
      low = λ i low. each_arc g C h
          (λ k less. let e = flow_capacity g one k h less in let c = h.capacity_low k less in omega (arith, ints, e, c))
          (λ v less. let e = source_capacity g one v h less in let c = h.weight_low v less in omega (arith, ints, e, c)) i (omega (arith, low, many, all));
    }

-- a flow that fills the arcs out of a side, and the source's arcs, is tight there
pub tight_one : (g : ShareProblem) (flow : List ℤ) (side : List Bool) → IsShareProblem g → has side g.nodes ≡ true →
    ((i : ℕ) → i < length g.ends → has side (tail_of g i) ≡ true → has side (head_of g i) ≡ false → at_arc g.capacities i ≤ℤ at_arc flow i) →
    ((i : ℕ) → i < length g.ends → has side (head_of g i) ≡ true → has side (tail_of g i) ≡ false → at_arc flow i ≤ℤ pos 0) →
    ((v : ℕ) → v < g.nodes → at_arc g.weights v ≤ℤ at_arc flow (length g.ends + v)) → IsTight (at_net g one) flow side
tight_one g flow side h source full empty fed =
    let net = at_net g one in
    let many = ends_many g one h in
    let all = arcs_full g h in
    let L : ℕ → Type 0 = λ k. leaves side (get_or net.ends k (0, 0)) ≡ true → at_arc net.capacities k ≤ℤ at_arc flow k in
    let E : ℕ → Type 0 = λ k. enters side (get_or net.ends k (0, 0)) ≡ true → at_arc flow k ≤ℤ pos 0 in
    record {
      full = λ i h'.
          let low = h'.in_range in
          each_arc g L h
          (λ k less passes.
          let parts = leaves_parts side (get_or g.ends k (0, 0)) (sym (ap (leaves side) (flow_ends g one k h less)) ∙ passes) in
          let e = flow_capacity g one k h less in
          let f = full k less parts.0 parts.1 in
          omega (arith, ints, e, f))
          (λ v less passes. let e = source_capacity g one v h less in let f = fed v less in omega (arith, ints, e, f))
          i (omega (arith, low, many, all)) h'.passes;
      empty = λ i h'.
          let low = h'.in_range in
          each_arc g E h
          (λ k less passes.
          let parts = enters_parts side (get_or g.ends k (0, 0)) (sym (ap (enters side) (flow_ends g one k h less)) ∙ passes) in
          empty k less parts.0 parts.1)
          (λ v less passes.
          let parts = enters_parts side (g.nodes, v) (sym (ap (enters side) (source_ends g one v h less)) ∙ passes) in
          absurd (both_ways _ parts.1 source))
          i (omega (arith, low, many, all)) h'.passes;
    }

-- the same sum over other arcs
step_same : (b c : Bool) (x y s t : ℤ) → cond b x (pos 0) ≡ cond c y (pos 0) → s ≡ t → cond b x (pos 0) +ℤ s ≡ cond c y (pos 0) +ℤ t
step_same b c x y s t e f = ap (λ n. n +ℤ s) e ∙ ap (λ n. cond c y (pos 0) +ℤ n) f

sum_retold : (t u : ℕ × ℕ → Bool) (es fs : List (ℕ × ℕ)) (xs ys : List ℤ) → length es ≡ length fs → length es ≤ length xs → length fs ≤ length ys →
    ((i : ℕ) → i < length fs → cond (t (get_or es i (0, 0))) (at_arc xs i) (pos 0) ≡ cond (u (get_or fs i (0, 0))) (at_arc ys i) (pos 0)) →
    sum_where t es xs ≡ sum_where u fs ys
sum_retold t u [] [] xs ys a b c h = refl
sum_retold t u [] (f ∷ fs) xs ys a b c h = absurd (omega (arith, a))
sum_retold t u (e ∷ es) [] xs ys a b c h = absurd (omega (arith, a))
sum_retold t u (e ∷ es) (f ∷ fs) [] ys a b c h = absurd (omega (arith, b))
sum_retold t u (e ∷ es) (f ∷ fs) (x ∷ xs) [] a b c h = absurd (omega (arith, c))
sum_retold t u (e ∷ es) (f ∷ fs) (x ∷ xs) (y ∷ ys) a b c h =
    step_same (t e) (u f) x y _ _ (h 0 (omega arith))
    (sum_retold t u es fs xs ys (omega (arith, a)) (omega (arith, b)) (omega (arith, c)) (λ i low. h (suc i) (omega (arith, low))))

-- an arc into a node, where it ends at the sink if its tail is lower than its head
and_true : (b : Bool) → (b && true) ≡ b
and_true true = refl
and_true false = refl

into_step : (l m : Bool) (s h v : ℕ) (x : ℤ) → s ≢ v → (h ≡ v → l ≡ m) → cond (eqb (cond l s h) v) x (pos 0) ≡ cond (eqb h v && not m) x (pos 0)
into_step true true s h v x ne e =
    ap (λ b. cond b x (pos 0)) (ne_eqb s v ne) ∙ sym (ap (λ b. cond b x (pos 0)) (and-false (eqb h v)))
into_step false false s h v x ne e = sym (ap (λ b. cond b x (pos 0)) (and_true (eqb h v)))
into_step true false s h v x ne e =
    let off = ne_eqb h v (λ same. absurd (false≢true (sym (e same)))) in
    ap (λ b. cond b x (pos 0)) (ne_eqb s v ne) ∙ sym (ap (λ b. cond (b && true) x (pos 0)) off)
into_step false true s h v x ne e =
    let off = ne_eqb h v (λ same. absurd (false≢true (e same))) in
    ap (λ b. cond b x (pos 0)) off ∙ sym (ap (λ b. cond b x (pos 0)) (and-false (eqb h v)))

-- levels that are not below 0, of a unit of at least 1
pub record AreFine (p : ShareProblem) (levels : List Fraction) (groups : List ℤ) : Type 0 where
  pub low : (v : ℕ) → v < p.nodes → pos 0 ≤ℤ (node_level levels groups v).p
  pub unit : (v : ℕ) → v < p.nodes → pos 1 ≤ℤ (node_level levels groups v).q

level_fine : (levels : List Fraction) → AreLevels levels → (g : ℕ) → g ≤ length levels → (pos 0 ≤ℤ (level_at levels g).p) × (pos 1 ≤ℤ (level_at levels g).q)
level_fine levels l zero low = (omega (arith, ints), omega (arith, ints))
level_fine levels l (suc j) low =
    let unit = l.parameters j (omega (arith, low)) in
    (l.low j (omega (arith, low)), omega (arith, ints, unit))

pub fine_levels : (p : ShareProblem) (a : SharesAnswer) → CertifiesShares p a → AreFine p a.levels a.groups
fine_levels p a c =
    let within : (v : ℕ) → v < p.nodes → group_at a.groups v ≤ length a.levels =
    λ v low. abs_of (at_arc a.groups v) (length a.levels) (c.groups.low v low) (c.groups.high v low) in
    record {
      low = λ v low. (level_fine a.levels c.levels (group_at a.groups v) (within v low)).0;
      unit = λ v low. (level_fine a.levels c.levels (group_at a.groups v) (within v low)).1;
    }

none_or : (b : Bool) (x : ℤ) → pos 0 ≤ℤ x → pos 0 ≤ℤ cond b (pos 0) x
none_or true x h = omega (arith, ints)
none_or false x h = h

one_under : (b : Bool) (x y n : ℕ) → x < n → y < n → cond b x y < n
one_under true x y n h k = h
one_under false x y n h k = k

module _ (p : ShareProblem) (levels : List Fraction) (groups : List ℤ) (h : IsShareProblem p) (fine : AreFine p levels groups) where
  abbrev g : ShareProblem
  g = group_problem p levels groups

  pub ends_there : length g.ends ≡ length p.ends
  ends_there = length_tabled (λ i. redirected p levels groups (get_or p.ends i (0, 0))) (length p.ends)

  pub end_is : (i : ℕ) → i < length p.ends → get_or g.ends i (0, 0) ≡ redirected p levels groups (get_or p.ends i (0, 0))
  end_is i low = at_tabled (λ k. redirected p levels groups (get_or p.ends k (0, 0))) (0, 0) (length p.ends) i low

  pub capacity_here : (i : ℕ) → i < length p.ends → at_arc g.capacities i ≡ own_capacity p levels groups i
  capacity_here i low = at_tabled (own_capacity p levels groups) (pos 0) (length p.ends) i low

  pub supply_here : (v : ℕ) → v < p.nodes → at_arc g.weights v ≡ supply p levels groups v
  supply_here v low = at_tabled (supply p levels groups) (pos 0) p.nodes v low

  pub whole_low : (i : ℕ) → i < length p.ends → pos 0 ≤ℤ (at_arc p.capacities i *ℤ (node_level levels groups (tail_of p i)).q)
  whole_low i low =
      let unit = fine.unit (tail_of p i) (h.tails i low) in
      mul_nonneg (at_arc p.capacities i) (node_level levels groups (tail_of p i)).q (h.capacity_low i low) (omega (arith, ints, unit))

  lower_low : (v : ℕ) → pos 0 ≤ℤ sum_where (λ arc. (arc.1 == v) && is_lower levels groups arc.0 v) p.ends p.capacities
  lower_low v = sum_least (λ arc. (arc.1 == v) && is_lower levels groups arc.0 v) p.ends p.capacities h.capacities_full h.capacity_low

  pub brought_low : (v : ℕ) → v < p.nodes → pos 0 ≤ℤ brought_in p levels groups v
  brought_low v low =
      let unit = fine.unit v low in
      let own = mul_nonneg (node_level levels groups v).p (at_arc p.weights v) (fine.low v low) (h.weight_low v low) in
      let more = mul_nonneg (sum_where (λ arc. (arc.1 == v) && is_lower levels groups arc.0 v) p.ends p.capacities) (node_level levels groups v).q
      (lower_low v) (omega (arith, ints, unit)) in
      omega (arith, ints, own, more)

  supply_low : (v : ℕ) → v < p.nodes → pos 0 ≤ℤ supply p levels groups v
  supply_low v low = none_or (v == p.sink) (brought_in p levels groups v) (brought_low v low)

  pub is_problem : IsShareProblem g
  is_problem =
      let many = ends_there in
      let first : ℕ × ℕ → Type 0 = λ e. e.0 < p.nodes in
      let second : ℕ × ℕ → Type 0 = λ e. e.1 < p.nodes in
      record {
        sink = h.sink;
        weights_full = length_tabled (supply p levels groups) p.nodes;
        capacities_full = length_tabled (own_capacity p levels groups) (length p.ends) ∙ sym ends_there;
        weight_low = λ v low. let e = supply_here v low in let l = supply_low v low in omega (arith, ints, e, l);
        sink_weight = supply_here p.sink h.sink ∙ ap (λ b. cond b (pos 0) (brought_in p levels groups p.sink)) (on_by p.sink);
        tails = λ i low.
            let there : i < length p.ends = omega (arith, low, many) in
            subst first (sym (end_is i there)) (h.tails i there);
        heads = λ i low.
            let there : i < length p.ends = omega (arith, low, many) in
            subst second (sym (end_is i there)) (one_under (is_lower levels groups (tail_of p i) (head_of p i)) p.sink (head_of p i) p.nodes h.sink (h.heads i there));
        capacity_low = λ i low.
            let there : i < length p.ends = omega (arith, low, many) in
            let e = capacity_here i there in
            let l = none_or (is_lower levels groups (head_of p i) (tail_of p i)) (at_arc p.capacities i *ℤ (node_level levels groups (tail_of p i)).q) (whole_low i there) in
            omega (arith, ints, e, l);
      }

  -- what leaves and enters a node there
  pub out_there : (flow first : List ℤ) (v : ℕ) → v < p.nodes → length flow ≡ length p.ends + p.nodes → length first ≡ length p.ends →
      ((i : ℕ) → i < length p.ends → at_arc flow i ≡ at_arc first i) → sum_out (at_net g one).ends flow v ≡ sum_out p.ends first v
  out_there flow first v low full wide same =
      let many = ends_there in
      node_out g one flow v is_problem low
      ∙ sum_retold (λ arc. arc.0 == v) (λ arc. arc.0 == v) g.ends p.ends flow first many (omega (arith, many, full)) (omega (arith, wide))
      (λ i less.
      ap (λ (e : ℕ × ℕ). cond (e.0 == v) (at_arc flow i) (pos 0)) (end_is i less)
      ∙ ap (λ n. cond (tail_of p i == v) n (pos 0)) (same i less))

  pub in_there : (flow first : List ℤ) (v : ℕ) → v < p.nodes → v ≢ p.sink → length flow ≡ length p.ends + p.nodes → length first ≡ length p.ends →
      ((i : ℕ) → i < length p.ends → at_arc flow i ≡ at_arc first i) → sum_in (at_net g one).ends flow v
      ≡ sum_where (λ arc. (arc.1 == v) && not (is_lower levels groups arc.0 v)) p.ends first +ℤ at_arc flow (length p.ends + v)
  in_there flow first v low apart full wide same =
      let many = ends_there in
      let other : p.sink ≢ v = λ e. apart (sym e) in
      let lower : ℕ → ℕ → Bool = λ u w. is_lower levels groups u w in
      node_in g one flow v is_problem low (full ∙ ap (λ n. n + p.nodes) (sym many))
      ∙ ap (λ s. s +ℤ at_arc flow (length g.ends + v))
      (sum_retold (λ arc. arc.1 == v) (λ arc. (arc.1 == v) && not (is_lower levels groups arc.0 v)) g.ends p.ends flow first many (omega (arith, many, full)) (omega (arith, wide))
      (λ i less.
      ap (λ (e : ℕ × ℕ). cond (e.1 == v) (at_arc flow i) (pos 0)) (end_is i less)
      ∙ into_step (is_lower levels groups (tail_of p i) (head_of p i)) (is_lower levels groups (tail_of p i) v) p.sink (head_of p i) v (at_arc flow i) other
      (λ e. ap (lower (tail_of p i)) e)
      ∙ ap (λ n. cond ((head_of p i == v) && not (is_lower levels groups (tail_of p i) v)) n (pos 0)) (same i less)))
      ∙ ap (λ n. sum_where (λ arc. (arc.1 == v) && not (is_lower levels groups arc.0 v)) p.ends first +ℤ at_arc flow (n + v)) many

  pub supply_apart : (v : ℕ) → v < p.nodes → v ≢ p.sink → at_arc g.weights v ≡ brought_in p levels groups v
  supply_apart v low apart = supply_here v low ∙ ap (λ b. cond b (pos 0) (brought_in p levels groups v)) (off_by v p.sink apart)
