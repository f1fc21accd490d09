-- Newton's iteration begins, goes on with a smaller closure, and ends with a certificate.
use Rattle.std.proofs.Common.{◌≡◌, ℕ, zero, suc, ◌+◌, ◌-◌, ◌*◌, ◌^◌, ◌<◌, List, [], ◌∷◌, ◌++◌, length, get_or, map, take, drop, replicate, refl, Bool, true, false, not, arith, ap, sym, ◌∙◌, inl, inr, add-one, subst}
use Rattle.std.specs.Prelude.{ℤ, ◌*ℤ◌, ◌≤ℤ◌, pos, All}
use Rattle.std.proofs.lemmas.Int.{ints}
use Rattle.std.proofs.lemmas.Bool.{cases_eq, both_ways}
use Rattle.std.proofs.lemmas.List.{get_or-drop, get_or_default, length-drop, length-map}
use Rattle.pf_model.specs.declared.AffineArc.{AffineArc}
use Rattle.pf_model.specs.Fraction.{Fraction, IsParameter, IsAtMost}
use Rattle.pf_model.specs.Cut.{has, size, capacity, IsSmallestLeast}
use Rattle.pf_model.specs.Answer.{IsWithinSize, IsFractionShape}
use Rattle.pf_model.specs.Flow.{IsFlow}
use Rattle.pf_model.specs.Network.{IsMonotone, IsNetworkCut, IsInInterval, network_at, capacity_at, ends_of}
use Rattle.pf_model.specs.Curve.{IsPoint}
use Rattle.pf_model.proofs.Integers.{mul_assoc, mul_comm, mul_most, mul_most_inverse}
use Rattle.pf_model.proofs.Affine.{nested, proper_at}
use Rattle.pf_model.proofs.Balance.{inside}
use Rattle.pf_model.proofs.Certificate.{at_most_reflexive, at_most_trans}
use Rattle.pf_model.proofs.Whole.{contained_less}
use Rattle.pf_closure.specs.Problem.{ClosureProblem, IsClosureProblem, IsClosure, IsNonempty, IsLeastRatio, needed_at, cost_of, weight_of, IsBoundedProblem}
use Rattle.pf_closure.specs.Certificate.{RatioAnswer, IsRouting, CertifiesRatio}
use Rattle.pf_closure.specs.Right.{IsRatioShape}
use Rattle.pf_closure.specs.Reduction.{closure_net, items_of, side_of, item_arcs, need_arc, sink_node, routing_of}
use Rattle.pf_closure.specs.Newton.{IsNewton, IsWholeSide, IsRest}
use Rattle.pf_closure.proofs.ItemSums.{weight_some}
use Rattle.pf_closure.proofs.Soundness.{kept_by_closure, certificate_proves}
use Rattle.pf_closure.proofs.DropLemmas.{carried}
use Rattle.pf_closure.proofs.LeastCuts.{cut_is_side, net_cut, items_full, least_is_closure, smallest_is_below, none_of}
use Rattle.pf_closure.proofs.Routing.{routing_within}
use Rattle.pf_closure.proofs.ArcLemmas.{arcs_full}
use Rattle.pf_closure.proofs.NetBuilt.{net_monotone}
use Rattle.pf_closure.proofs.SideSums.{item_has, items_length}
use Rattle.pf_model.proofs.Sums.{take_whole}

-- the ratio of a set whose cost is below x times its weight is at most x
below_ratio : (p q p' q' c w : ℤ) → pos 1 ≤ℤ q → pos 1 ≤ℤ q' → pos 1 ≤ℤ w → (q *ℤ c) ≤ℤ (p *ℤ w) → q' *ℤ c ≡ p' *ℤ w → (p' *ℤ q) ≤ℤ (p *ℤ q')
below_ratio p q p' q' c w unit unit' heavy less same =
    let a = mul_most q' (q *ℤ c) (p *ℤ w) (omega (arith, ints, unit')) less in
    let left : q' *ℤ (q *ℤ c) ≡ w *ℤ (p' *ℤ q) =
    sym (mul_assoc q' q c) ∙ ap (λ n. n *ℤ c) (mul_comm q' q) ∙ mul_assoc q q' c ∙ ap (λ n. q *ℤ n) same
    ∙ sym (mul_assoc q p' w) ∙ mul_comm (q *ℤ p') w ∙ ap (λ n. w *ℤ n) (mul_comm q p') in
    let right : q' *ℤ (p *ℤ w) ≡ w *ℤ (p *ℤ q') =
    sym (mul_assoc q' p w) ∙ mul_comm (q' *ℤ p) w ∙ ap (λ n. w *ℤ n) (mul_comm q' p) in
    mul_most_inverse w (p' *ℤ q) (p *ℤ q') (omega (arith, ints, heavy)) (omega (arith, ints, a, left, right))

weighs : (p : ClosureProblem) (set : List Bool) → IsClosureProblem p → IsClosure p set → IsNonempty set → pos 1 ≤ℤ weight_of p set
weighs p set problem c some =
    let wide = problem.full in
    let full = c.full in
    weight_some set p.weights some.item (λ i low. problem.heavy i (omega (arith, low))) (omega arith) some.held

-- a side that holds all nodes but the sink holds each cut
pub newton_begins : (p : ClosureProblem) (x : Fraction) (side : List Bool) → IsNetworkCut (closure_net p) side → IsClosure p (items_of p side) → IsNonempty (items_of p side) →
    IsInInterval (closure_net p) x → x.q *ℤ cost_of p (items_of p side) ≡ x.p *ℤ weight_of p (items_of p side) →
    ((v : ℕ) → v < suc (length p.costs) → has side v ≡ true) → IsNewton p x side
newton_begins p x side cut c some within same all = record {
  cut = cut;
  closure = c;
  some = some;
  inside = within;
  ratio = same;
  holds = λ y other at below s v h.
      let full = s.least.cut.full in
      let low = inside other v h in
      elim (cases_eq v (suc (length p.costs))) [
        | inl last ↦ absurd (both_ways _ s.least.cut.without_sink (ap (has other) (sym last) ∙ h))
        | inr apart ↦ all v (omega (arith, low, full, apart))
      ];
}

pub record IsNextStep (p : ClosureProblem) (y : Fraction) (side next : List Bool) : Type 0 where
  pub newton : IsNewton p y next
  pub less : size next < size side

-- a smallest least cut with an item is a smaller closure
pub newton_goes_on : (p : ClosureProblem) (x y : Fraction) (side next : List Bool) → IsBoundedProblem p → IsMonotone (closure_net p) → IsNewton p x side →
    IsSmallestLeast (network_at (closure_net p) x) next → IsNonempty (items_of p next) → IsInInterval (closure_net p) y →
    y.q *ℤ cost_of p (items_of p next) ≡ y.p *ℤ weight_of p (items_of p next) → IsNextStep p y side next
newton_goes_on p x y side next items m n s some within same =
    let c = least_is_closure p x next items n.inside s.least in
    let less = smallest_is_below p x next items n.inside s some in
    let heavy = weighs p (items_of p next) items.problem c some in
    let order : IsAtMost y x =
    below_ratio x.p x.q y.p y.q (cost_of p (items_of p next)) (weight_of p (items_of p next)) n.inside.parameter within.parameter heavy (omega (arith, ints, less)) same in
    let held = n.holds x next n.inside (at_most_reflexive x) s in
    let cut = net_cut p x next s.least.cut in
    record {
      newton = record {
        cut = cut;
        closure = c;
        some = some;
        inside = within;
        ratio = same;
        holds = λ z other at below o.
            nested (closure_net p) z x other next m refl at n.inside (at_most_trans z y x at.parameter within.parameter n.inside.parameter below order) o s.least;
      };
      less = elim (contained_less next side (cut.full ∙ sym n.cut.full) held) [
        | inl equal ↦
            let e = ap (λ l. x.q *ℤ cost_of p (items_of p l)) equal in
            let f = ap (λ l. x.p *ℤ weight_of p (items_of p l)) equal in
            let g = n.ratio in
            absurd (omega (arith, ints, less, e, f, g))
        | inr fewer ↦ fewer
      ];
    }

-- a side without items is the source alone
all_none : (set : List Bool) (n : ℕ) → length set ≡ n → ((i : ℕ) → has set i ≡ false) → set ≡ replicate n false
all_none [] zero e h = refl
all_none [] (suc n) e h = absurd (omega (arith, e))
all_none (b ∷ set) zero e h = absurd (omega (arith, e))
all_none (b ∷ set) (suc n) e h = ap (λ c. c ∷ set) (h 0) ∙ ap (λ l. false ∷ l) (all_none set n (omega (arith, e)) (λ i. h (suc i)))

alone : (p : ClosureProblem) (side : List Bool) → IsNetworkCut (closure_net p) side → ((i : ℕ) → has (items_of p side) i ≡ false) → side ≡ side_of (none_of p)
alone p side cut off = cut_is_side p side cut ∙ ap side_of (all_none (items_of p side) (length p.costs) (items_full p side cut) off)

-- the numbers beside the needs
need_beside : {B : Type 0} (f : AffineArc → B) (d : B) (needs : List (ℕ × ℕ)) (k : ℕ) → k < length needs →
    get_or (map f (map need_arc needs)) k d ≡ f (need_arc (get_or needs k (0, 0)))
need_beside f d [] k low = absurd (omega arith)
need_beside f d (need ∷ needs) zero low = refl
need_beside f d (need ∷ needs) (suc k) low = need_beside f d needs k (omega arith)

behind_items : {B : Type 0} (f : AffineArc → B) (d : B) (sink i k : ℕ) (costs weights : List ℤ) (needs : List (ℕ × ℕ)) → length weights ≡ length costs → k < length needs →
    get_or (map f (item_arcs sink i costs weights ++ map need_arc needs)) (length costs + length costs + k) d ≡ f (need_arc (get_or needs k (0, 0)))
behind_items f d sink i k [] weights needs full low =
    let e : 0 + 0 + k ≡ k = omega arith in
    ap (λ n. get_or (map f (map need_arc needs)) n d) e ∙ need_beside f d needs k low
behind_items f d sink i k (c ∷ costs) [] needs full low = absurd (omega (arith, full))
behind_items f d sink i k (c ∷ costs) (w ∷ weights) needs full low =
    let e : suc (length costs) + suc (length costs) + k ≡ suc (suc (length costs + length costs + k)) = omega arith in
    ap (λ n. get_or (map f (item_arcs sink i (c ∷ costs) (w ∷ weights) ++ map need_arc needs)) n d) e
    ∙ behind_items f d sink (suc i) k costs weights needs (omega (arith, full)) low

pub routing_is : (p : ClosureProblem) (x : Fraction) (flow : List ℤ) → IsBoundedProblem p → IsParameter x → x.q ≤ℤ pos (2 ^ 44) →
    IsFlow (network_at (closure_net p) x) flow → IsRouting p (routing_of p flow)
routing_is p x flow items unit small f =
    let full = items.problem.full in
    let first = length p.costs + length p.costs in
    let ends = length-map (item_arcs (sink_node p) 0 p.costs p.weights ++ map need_arc p.needs) ends_of in
    let all = arcs_full (sink_node p) 0 p.costs p.weights p.needs full in
    let many = f.within.full in
    let short = length-drop first flow in
    record {
      full = omega (arith, ends, all, many, short);
      low = λ k low.
          let e = get_or-drop first flow k (pos 0) in
          let h = f.within.low (first + k) (omega (arith, low, ends, all)) in
          omega (arith, ints, e, h);
      high = λ k low.
          let e = get_or-drop first flow k (pos 0) in
          let h = f.within.high (first + k) (omega (arith, low, ends, all)) in
          let cap = behind_items (capacity_at x) (pos 0) (sink_node p) 0 k p.costs p.weights p.needs full low in
          let none : pos 0 *ℤ x.p ≡ pos 0 = omega (arith, ints) in
          omega (arith, ints, e, h, cap, none, unit, small);
    }

-- the side of all items
pub whole_items : (p : ClosureProblem) (side : List Bool) → IsWholeSide p side → (i : ℕ) → i < length p.costs → has (items_of p side) i ≡ true
whole_items p side w i low =
    let full = w.full in
    item_has p side i low ∙ w.held (suc i) (omega (arith, low))

pub whole_some : (p : ClosureProblem) (side : List Bool) → IsClosureProblem p → IsWholeSide p side → IsNonempty (items_of p side)
whole_some p side problem w = record { item = 0; held = whole_items p side w 0 problem.some }

pub newton_whole : (p : ClosureProblem) (x : Fraction) (side : List Bool) → IsClosureProblem p → IsWholeSide p side → IsInInterval (closure_net p) x →
    x.q *ℤ cost_of p (items_of p side) ≡ x.p *ℤ weight_of p (items_of p side) → IsNewton p x side
newton_whole p x side problem w within same =
    let full = w.full in
    newton_begins p x side
    (record {
      full = omega (arith, full);
      with_source = w.held 0 (omega arith);
      without_sink = ap (has side) (sym (add-one (length p.costs))) ∙ w.sink;
    })
    (record {
      full = items_length side (length p.costs) (omega (arith, full));
      closed = λ k low h. whole_items p side w (needed_at p k) (problem.needed k low);
    })
    (whole_some p side problem w) within same (λ v low. w.held v (omega (arith, low)))

-- at the last ratio the items that the flow does not drop are certified
pub newton_ends : (p : ClosureProblem) (x : Fraction) (side last chosen : List Bool) (flow : List ℤ) → IsBoundedProblem p → IsNewton p x side →
    IsPoint (closure_net p) x last flow → ((i : ℕ) → has (items_of p last) i ≡ false) → x.q ≤ℤ pos (2 ^ 44) →
    IsRest p x (routing_of p flow) chosen → CertifiesRatio p x chosen (routing_of p flow)
newton_ends p x side last chosen flow items n point off small r =
    let g = network_at (closure_net p) x in
    let cut = net_cut p x last point.smallest.least.cut in
    let meets = point.value_is ∙ ap (capacity g) (alone p last cut off) in
    let within = routing_within p x flow items (proper_at (closure_net p) x (net_monotone p items) n.inside) point.flow_is meets in
    let routing = routing_is p x flow items point.parameter small point.flow_is in
    let i = n.some.item in
    let low = inside (items_of p side) i n.some.held in
    let wide = n.closure.full in
    let kept = kept_by_closure p x (routing_of p flow) (items_of p side) r.dropped items.problem routing within r.dropped_is n.closure n.ratio i n.some.held in
    record {
      parameter = point.parameter;
      routing_is = routing;
      within = within;
      dropped = r.dropped;
      dropped_is = r.dropped_is;
      full = r.full;
      rest = r.rest;
      some = record { item = i; held = r.rest i (omega (arith, low, wide)) ∙ ap not kept };
    }

-- the shape of the numbers on the needs
pub routing_shape : (p : ClosureProblem) (routing : List ℤ) → IsRouting p routing → All (IsWithinSize (2 ^ 104)) routing
routing_shape p routing r = λ k d low.
    let full = r.full in
    let e = get_or_default routing k d (pos 0) low in
    let l = r.low k (omega (arith, low, full)) in
    let h = r.high k (omega (arith, low, full)) in
    record { low = omega (arith, ints, e, l); high = omega (arith, ints, e, h) }

-- the flow on the arcs of needs stands at the end
pub flow_end : (p : ClosureProblem) (flow : List ℤ) (count : ℕ) → count ≡ length p.costs →
    take (length flow - 2 * count) (drop (2 * count) flow) ≡ routing_of p flow
flow_end p flow count e =
    let twice : 2 * count ≡ length p.costs + length p.costs = omega (arith, e) in
    take_whole (drop (2 * count) flow) (length flow - 2 * count) (omega (arith, length-drop (2 * count) flow)) ∙ ap (λ n. drop n flow) twice

-- how many arcs the network has
pub flow_length : (p : ClosureProblem) (flow : List ℤ) → IsClosureProblem p → length flow ≡ length (closure_net p).arcs →
    length flow ≡ length p.costs + length p.costs + length p.needs
flow_length p flow problem e = e ∙ arcs_full (sink_node p) 0 p.costs p.weights p.needs problem.full

pub point_length : (p : ClosureProblem) (x : Fraction) (side : List Bool) (flow : List ℤ) → IsPoint (closure_net p) x side flow → length flow ≡ length (closure_net p).arcs
point_length p x side flow point = point.flow_is.within.full ∙ length-map (closure_net p).arcs ends_of

-- what the answer is then
pub record IsAnswer (p : ClosureProblem) (r : RatioAnswer) : Type 0 where
  pub least : IsLeastRatio p r.ratio r.chosen
  pub certificate : CertifiesRatio p r.ratio r.chosen r.routing
  pub shape : IsRatioShape p r

pub newton_answers : (p : ClosureProblem) (x : Fraction) (side last : List Bool) (flow : List ℤ) (r : RatioAnswer) → IsBoundedProblem p → IsNewton p x side →
    IsPoint (closure_net p) x last flow → ((i : ℕ) → has (items_of p last) i ≡ false) → x.q ≤ℤ pos (2 ^ 44) → IsFractionShape x →
    r.ratio ≡ x → r.routing ≡ routing_of p flow → IsRest p x r.routing r.chosen → IsAnswer p r
newton_answers p x side last flow r items n point off small shape same same' rest =
    let P : List ℤ → Type 0 = λ l. IsRest p x l r.chosen in
    let ends = newton_ends p x side last r.chosen flow items n point off small (subst P same' rest) in
    let c = carried p x r.ratio r.chosen r.chosen (routing_of p flow) r.routing same refl same' ends in
    record {
      least = certificate_proves p r.ratio r.chosen r.routing items.problem c;
      certificate = c;
      shape = record {
        ratio = subst IsFractionShape (sym same) shape;
        chosen = c.full;
        full = c.routing_is.full;
        each = routing_shape p r.routing c.routing_is;
      };
    }
