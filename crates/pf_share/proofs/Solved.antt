-- The network's arcs and what is read off its curve, one item after the other, and that the whole is right.
use Rattle.std.proofs.Common.{◌≡◌, ℕ, zero, suc, ◌+◌, ◌-◌, ◌<◌, ◌≤◌, List, [], ◌∷◌, ◌++◌, length, get_or, take, refl, Bool, arith, ap, sym, ◌∙◌, inl, inr, subst, add-one, zero-add}
use Rattle.std.specs.Prelude.{ℤ, pos, All}
use Rattle.std.proofs.lemmas.Int.{ints}
use Rattle.std.proofs.lemmas.Bool.{cases_lt}
use Rattle.std.proofs.lemmas.List.{get_or_push, get_or_append_left, get_or_default}
use Rattle.std.proofs.lemmas.List.Elements.{All-get_or}
use Rattle.pf_model.specs.declared.AffineArc.{AffineArc}
use Rattle.pf_model.specs.Fraction.{Fraction}
use Rattle.pf_model.specs.Answer.{IsFractionShape, IsWithinSize}
use Rattle.pf_model.specs.Limits.{capacity_bound}
use Rattle.pf_model.specs.Cut.{at_arc}
use Rattle.pf_model.specs.Network.{Network}
use Rattle.pf_model.specs.Curve.{IsCurve, point_at}
use Rattle.pf_model.proofs.Lowest.{same_fraction, whole_lowest}
use Rattle.pf_model.proofs.Certificate.{point_is_parameter}
use Rattle.pf_net.specs.Limits.{rising}
use Rattle.pf_share.specs.Problem.{ShareProblem, IsBoundedSharing, no_share, tail_of, head_of}
use Rattle.pf_share.specs.Certificate.{SharesAnswer, CertifiesShares, IsBestShares}
use Rattle.pf_share.specs.Right.{IsSharesShape}
use Rattle.pf_share.specs.Reduction.{flow_arc, source_arc, flow_arcs, source_arcs, highest, share_net, IsJoin, join_at, AreJoins, IsFirst, AreLevelsOf, group_of, AreGroupsOf, AreWide}
use Rattle.pf_share.specs.Grouped.{answer_of, IsStill, IsSplit}
use Rattle.pf_share.proofs.Soundness.{certified_fair}
use Rattle.pf_share.proofs.FlowExists.{flow_exists}
use Rattle.pf_model.proofs.Sums.{take_whole}
use Rattle.pf_model.proofs.Facts.{item_more, more_full}

-- the arcs, one after the other

flows_suc : (ends : List (ℕ × ℕ)) (cs : List ℤ) (k : ℕ) → length cs ≡ length ends → k < length ends →
    flow_arcs (take (suc k) ends) (take (suc k) cs) ≡ flow_arcs (take k ends) (take k cs) ++ (flow_arc (get_or ends k (0, 0)) (at_arc cs k) ∷ [])
flows_suc [] cs k full low = absurd (omega (arith, low))
flows_suc (arc ∷ ends) [] k full low = absurd (omega (arith, full))
flows_suc (arc ∷ ends) (c ∷ cs) zero full low = refl
flows_suc (arc ∷ ends) (c ∷ cs) (suc k) full low = ap (λ l. flow_arc arc c ∷ l) (flows_suc ends cs k (omega (arith, full)) (omega (arith, low)))

sources_suc : (s v : ℕ) (ws : List ℤ) (k : ℕ) → k < length ws →
    source_arcs s v (take (suc k) ws) ≡ source_arcs s v (take k ws) ++ (source_arc s (v + k) (at_arc ws k) ∷ [])
sources_suc s v [] k low = absurd (omega (arith, low))
sources_suc s v (w ∷ ws) zero low = let e : v ≡ v + 0 = omega arith in ap (λ n. source_arc s n w ∷ []) e
sources_suc s v (w ∷ ws) (suc k) low =
    let e : suc v + k ≡ v + suc k = omega arith in
    ap (λ l. source_arc s v w ∷ l) (sources_suc s (suc v) ws k (omega (arith, low))
    ∙ ap (λ n. source_arcs s (suc v) (take k ws) ++ (source_arc s n (at_arc ws k) ∷ [])) e)

pub pushed_flow : (p : ShareProblem) (k : ℕ) (old new : List AffineArc) (arc : AffineArc) → length p.capacities ≡ length p.ends → k < length p.ends →
    old ≡ flow_arcs (take k p.ends) (take k p.capacities) → new ≡ old ++ (arc ∷ []) → arc ≡ flow_arc (tail_of p k, head_of p k) (at_arc p.capacities k) →
    new ≡ flow_arcs (take (k + 1) p.ends) (take (k + 1) p.capacities)
pushed_flow p k old new arc full low before step e =
    step ∙ ap (λ l. l ++ (arc ∷ [])) before ∙ ap (λ x. flow_arcs (take k p.ends) (take k p.capacities) ++ (x ∷ [])) e
    ∙ sym (flows_suc p.ends p.capacities k full low) ∙ sym (ap (λ n. flow_arcs (take n p.ends) (take n p.capacities)) (add-one k))

pub all_flows : (p : ShareProblem) (k : ℕ) (arcs : List AffineArc) → length p.capacities ≡ length p.ends → length p.ends ≤ k →
    arcs ≡ flow_arcs (take k p.ends) (take k p.capacities) → arcs ≡ flow_arcs p.ends p.capacities
all_flows p k arcs full done e =
    e ∙ ap (λ l. flow_arcs l (take k p.capacities)) (take_whole p.ends k done)
    ∙ ap (flow_arcs p.ends) (take_whole p.capacities k (omega (arith, full, done)))

one_more : (xs ys : List AffineArc) (arc : AffineArc) → (xs ++ ys) ++ (arc ∷ []) ≡ xs ++ (ys ++ (arc ∷ []))
one_more [] ys arc = refl
one_more (x ∷ xs) ys arc = ap (λ l. x ∷ l) (one_more xs ys arc)

pub pushed_source : (p : ShareProblem) (v : ℕ) (start old new : List AffineArc) (arc : AffineArc) → length p.weights ≡ p.nodes → v < p.nodes →
    old ≡ start ++ source_arcs p.nodes 0 (take v p.weights) → new ≡ old ++ (arc ∷ []) → arc ≡ source_arc p.nodes v (at_arc p.weights v) →
    new ≡ start ++ source_arcs p.nodes 0 (take (v + 1) p.weights)
pushed_source p v start old new arc full low before step e =
    let here : arc ≡ source_arc p.nodes (0 + v) (at_arc p.weights v) = e ∙ ap (λ n. source_arc p.nodes n (at_arc p.weights v)) (sym (zero-add v)) in
    step ∙ ap (λ l. l ++ (arc ∷ [])) before ∙ one_more start (source_arcs p.nodes 0 (take v p.weights)) arc
    ∙ ap (λ x. start ++ (source_arcs p.nodes 0 (take v p.weights) ++ (x ∷ []))) here
    ∙ sym (ap (λ l. start ++ l) (sources_suc p.nodes 0 p.weights v (omega (arith, full, low))))
    ∙ sym (ap (λ n. start ++ source_arcs p.nodes 0 (take n p.weights)) (add-one v))

pub all_sources : (p : ShareProblem) (v : ℕ) (start arcs : List AffineArc) → length p.weights ≡ p.nodes → p.nodes ≤ v →
    arcs ≡ start ++ source_arcs p.nodes 0 (take v p.weights) → arcs ≡ start ++ source_arcs p.nodes 0 p.weights
all_sources p v start arcs full done e = e ∙ ap (λ l. start ++ source_arcs p.nodes 0 l) (take_whole p.weights v (omega (arith, full, done)))

-- the network is made of these parts
same_parts : (n n' s s' t t' : ℕ) (l l' h h' : Fraction) (xs xs' : List AffineArc) → n ≡ n' → s ≡ s' → t ≡ t' → l ≡ l' → h ≡ h' → xs ≡ xs' →
    rising n s t l h xs ≡ rising n' s' t' l' h' xs'
same_parts n n' s s' t t' l l' h h' xs xs' a b c d e f = rw (a, b, c, d, e, f) refl

pub same_net : (p : ShareProblem) (nodes sink : ℕ) (low high : Fraction) (first second : List AffineArc) → nodes ≡ p.nodes → sink ≡ p.sink → low ≡ no_share → high ≡ highest →
    first ≡ flow_arcs p.ends p.capacities → second ≡ first ++ source_arcs p.nodes 0 p.weights → rising (nodes + 1) nodes sink low high second ≡ share_net p
same_net p nodes sink low high first second n t l h a b =
    same_parts (nodes + 1) (suc p.nodes) nodes p.nodes sink p.sink low no_share high highest second (share_net p).arcs
    (add-one nodes ∙ ap suc n) n t l h (b ∙ ap (λ xs. xs ++ source_arcs p.nodes 0 p.weights) a)

pub join_more : (cuts : List (List Bool)) (old new : List ℕ) (v j : ℕ) → AreJoins cuts old v → new ≡ old ++ j ∷ [] → IsJoin cuts v j → AreJoins cuts new (v + 1)
join_more cuts old new v j a step here =
    let full = a.full in
    record {
      full = more_full old new j v full step;
      each = λ u low. elim (cases_lt u v) [
        | inl less ↦
            let e : join_at new u ≡ join_at old u = ap (λ l. join_at l u) step ∙ get_or_append_left old (j ∷ []) 0 u (omega (arith, less, full)) in
            subst (IsJoin cuts u) (sym e) (a.each u less)
        | inr most ↦
            let same : v ≡ u = omega (arith, low, most) in
            let e : join_at new u ≡ j = ap (λ l. join_at l u) step ∙ get_or_push old j 0 u (full ∙ same) in
            let P : ℕ → Type 0 = λ n. IsJoin cuts n j in
            subst (IsJoin cuts u) (sym e) (subst P same here)
      ];
    }

pub level_more : (p : ShareProblem) (points shown old new : List Fraction) (first j : ℕ) (x : Fraction) → AreLevelsOf p points old first j → shown ≡ points →
    first + j < length shown → x ≡ get_or shown (first + j) x → new ≡ old ++ x ∷ [] → AreLevelsOf p points new first (j + 1)
level_more p points shown old new first j x a same low is step =
    let here : x ≡ point_at (share_net p) points (first + j) =
    is ∙ get_or_default shown (first + j) x (share_net p).low low ∙ ap (λ (l : List Fraction). point_at (share_net p) l (first + j)) same in
    record {
      full = more_full old new x j a.full step;
      each = item_more old new x no_share j (λ k. point_at (share_net p) points (first + k)) a.full step a.each here;
    }

pub group_more : (joins : List ℕ) (first cuts : ℕ) (old new : List ℤ) (v g : ℕ) (x : ℤ) → AreGroupsOf joins first cuts old v → g ≡ group_of first cuts (join_at joins v) →
    x ≡ pos g → new ≡ old ++ x ∷ [] → AreGroupsOf joins first cuts new (v + 1)
group_more joins first cuts old new v g x a e is step = record {
  full = more_full old new x v a.full step;
  each = item_more old new x (pos 0) v (λ u. pos (group_of first cuts (join_at joins u))) a.full step a.each (is ∙ ap pos e);
}

-- the last point is a whole number
last_unit : (p : ShareProblem) (points : List Fraction) (cuts : List (List Bool)) → IsCurve (share_net p) points cuts → All IsFractionShape points →
    (point_at (share_net p) points (length cuts)).q ≡ pos 1
last_unit p points cuts v s =
    let many = v.division.count in
    let x = point_at (share_net p) points (length cuts) in
    let shape = All-get_or IsFractionShape points (length cuts) (share_net p).low (omega (arith, many)) s in
    ap (λ (y : Fraction). y.q)
    (same_fraction x highest (point_is_parameter (share_net p) points cuts v.division (length cuts) (omega arith)) (omega (arith, ints))
    shape.lowest (whole_lowest (pos 10000000000001)) v.division.high)

still_sized : (still : List ℤ) → IsStill still → All (IsWithinSize capacity_bound) still
still_sized still s = λ i d low.
    let e = get_or_default still i d (pos 0) low ∙ s.each i in
    let P : ℤ → Type 0 = λ n. IsWithinSize capacity_bound n in
    subst P (sym e) (record { low = omega (arith, ints); high = omega (arith, ints) })

split_from : (p : ShareProblem) (points : List Fraction) (cuts : List (List Bool)) (levels : List Fraction) (groups still : List ℤ) (joins : List ℕ) (first : ℕ) →
    IsBoundedSharing p → IsCurve (share_net p) points cuts → All IsFractionShape points → AreJoins cuts joins p.nodes → IsFirst joins first →
    AreLevelsOf p points levels first (length levels) → first + length levels ≡ length cuts → AreGroupsOf joins first (length cuts) groups p.nodes →
    IsStill still → length still ≡ length p.ends → IsSplit p (answer_of levels groups still)
split_from p points cuts levels groups still joins first b v shapes j f l count g s full =
    let some = flow_exists p points cuts levels groups joins first b v (last_unit p points cuts v shapes) j f l count g in
    let c = some.certified in
    let many = v.division.count in
    record {
      shape = record {
        levels = λ k d low.
            subst IsFractionShape (sym (get_or_default levels k d no_share low ∙ l.each k low))
            (All-get_or IsFractionShape points (first + k) (share_net p).low (omega (arith, count, many, low)) shapes);
        groups = record { full = c.groups.full; low = c.groups.low; high = c.groups.high; sources = c.groups.sources };
        flow_full = full;
        flow = still_sized still s;
      };
      still = s;
      some = some;
    }

pub record IsSolved (p : ShareProblem) (a : SharesAnswer) : Type 0 where
  pub best : IsBestShares p a
  pub certificate : CertifiesShares p a
  pub shape : IsSharesShape p a

pub solved : (p : ShareProblem) (split a : SharesAnswer) (flow : List ℤ) → IsBoundedSharing p → IsSharesShape p split → CertifiesShares p (answer_of split.levels split.groups flow) →
    All (IsWithinSize capacity_bound) flow → a ≡ answer_of split.levels split.groups flow → IsSolved p a
solved p split a flow b shape c sized is =
    subst (IsSolved p) (sym is) (record {
      best = certified_fair p (answer_of split.levels split.groups flow) b.problem c;
      certificate = c;
      shape = record { levels = shape.levels; groups = shape.groups; flow_full = c.flow.full; flow = sized };
    })

-- from the parts that the code has
pub first_least : (joins : List ℕ) (first : ℕ) → IsFirst joins first → (v : ℕ) → v < length joins → first ≤ join_at joins v
first_least joins first f v low = elim f [
  | inl zero_is ↦ (let e = zero_is.0 in omega (arith, e))
  | inr one_is ↦
      (let e = one_is.0 in
      let none = one_is.1.each v low in
      let some : 1 ≤ join_at joins v = omega (arith, none) in
      omega (arith, e, some))
]

first_small : (joins : List ℕ) (first : ℕ) → IsFirst joins first → first ≤ 1
first_small joins first f = elim f [
  | inl zero_is ↦ (let e = zero_is.0 in omega (arith, e))
  | inr one_is ↦ (let e = one_is.0 in omega (arith, e))
]

pub joins_within : (p : ShareProblem) (cuts : List (List Bool)) (points shown : List Fraction) (joins slice : List ℕ) → AreJoins cuts joins p.nodes → slice ≡ joins →
    shown ≡ points → length points ≡ length cuts + 1 → (v : ℕ) → v < length slice → join_at slice v ≤ length shown - 1
joins_within p cuts points shown joins slice j e same count =
    let P : List ℕ → Type 0 = λ l. (v : ℕ) → v < length l → join_at l v ≤ length shown - 1 in
    subst P (sym e) (λ v low.
    let full = j.full in
    let within = (j.each v (omega (arith, low, full))).within in
    let many = ap length same in
    omega (arith, within, many, count))

-- each cut has a truth value for the node
pub cuts_wide : (p : ShareProblem) (net : Network) (points : List Fraction) (cuts : List (List Bool)) → net ≡ share_net p → IsCurve net points cuts → (v : ℕ) → v < p.nodes →
    AreWide v cuts
cuts_wide p net points cuts same c v low =
    let P : Network → Type 0 = λ n. IsCurve n points cuts in
    let curve = subst P same c in
    record { each = λ i less. let full = (curve.smallest i less).least.cut.full in omega (arith, full, low) }

pub joins_least : (joins slice slice' : List ℕ) (first : ℕ) → slice ≡ joins → slice' ≡ joins → IsFirst slice first → (v : ℕ) → v < length slice' → first ≤ join_at slice' v
joins_least joins slice slice' first e e' f =
    let P : List ℕ → Type 0 = λ l. IsFirst l first in
    first_least slice' first (subst P (e ∙ sym e') f)

-- the points after the first are the levels
pub levels_count : (net : Network) (points shown : List Fraction) (cuts : List (List Bool)) (joins : List ℕ) (first : ℕ) → IsCurve net points cuts → shown ≡ points → IsFirst joins first →
    first + ((length shown - 1) - first) ≡ length cuts
levels_count net points shown cuts joins first v same f =
    let some = v.division.some in
    let count = v.division.count in
    let many = ap length same in
    let small = first_small joins first f in
    omega (arith, some, count, many, small)

pub split_is : (p : ShareProblem) (net : Network) (points : List Fraction) (cuts : List (List Bool)) (a : SharesAnswer) (levels shown : List Fraction) (groups still : List ℤ)
    (joins s s' : List ℕ) (first : ℕ) → IsBoundedSharing p → net ≡ share_net p → IsCurve net points cuts → All IsFractionShape points → shown ≡ points →
    AreJoins cuts joins p.nodes → s ≡ joins → s' ≡ joins → IsFirst s first → AreLevelsOf p points levels first ((length shown - 1) - first) →
    AreGroupsOf s' first (length shown - 1) groups (length s') → IsStill still → length still ≡ length p.ends → a ≡ answer_of levels groups still → IsSplit p a
split_is p net points cuts a levels shown groups still joins s s' first b same v shapes seen j e e' f l g quiet full is =
    let some = v.division.some in
    let count = v.division.count in
    let many = ap length seen in
    let small = first_small s first f in
    let wide = l.full in
    let all : length shown - 1 ≡ length cuts = omega (arith, many, count) in
    let total : first + length levels ≡ length cuts = omega (arith, all, small, some, wide) in
    let C : Network → Type 0 = λ n. IsCurve n points cuts in
    let F : List ℕ → Type 0 = λ k. IsFirst k first in
    let L : ℕ → Type 0 = λ n. AreLevelsOf p points levels first n in
    let G : List ℕ → Type 0 = λ k. AreGroupsOf k first (length shown - 1) groups (length k) in
    let H : ℕ → Type 0 = λ k. AreGroupsOf joins first k groups (length joins) in
    let K : ℕ → Type 0 = λ k. AreGroupsOf joins first (length cuts) groups k in
    subst (IsSplit p) (sym is)
    (split_from p points cuts levels groups still joins first b (subst C same v) shapes j (subst F e f) (subst L (sym wide) l) total
    (subst K j.full (subst H all (subst G e' g))) quiet full)
