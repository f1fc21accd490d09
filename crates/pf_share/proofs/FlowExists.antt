-- The levels and groups that are read off a curve have a flow: that of a greatest flow at each point, which exists.
use Rattle.std.proofs.Common.{◌≡◌, ℕ, zero, suc, ◌+◌, ◌<◌, ◌≤◌, List, [], ◌∷◌, ◌++◌, length, Bool, refl, arith, ap, sym, ◌∙◌, inl, inr, subst, add-one}
use Rattle.std.specs.Prelude.{ℤ, pos}
use Rattle.std.proofs.lemmas.Bool.{cases_lt}
use Rattle.std.proofs.lemmas.List.{length_push, get_or_push, get_or_append_left}
use Rattle.pf_model.specs.Fraction.{Fraction}
use Rattle.pf_model.specs.Answer.{Curve}
use Rattle.pf_model.specs.Cut.{at_arc}
use Rattle.pf_model.specs.Flow.{IsGreatest}
use Rattle.pf_model.specs.Curve.{IsCurve, point_at, flow_at}
use Rattle.pf_model.proofs.Affine.{proper_at}
use Rattle.pf_model.proofs.Certificate.{point_inside}
use Rattle.pf_model.proofs.Exists.{greatest_exists}
use Rattle.pf_curve.proofs.Certifying.{certificate_from_curve}
use Rattle.pf_share.specs.Problem.{ShareProblem, IsBoundedSharing, tail_of}
use Rattle.pf_share.specs.Reduction.{share_net, join_at, AreJoins, IsFirst, AreLevelsOf, AreGroupsOf, IsReadOff}
use Rattle.pf_share.specs.Grouped.{tabled, answer_of, HasFlow}
use Rattle.pf_share.proofs.Counting.{length_tabled, at_tabled}
use Rattle.pf_share.proofs.NetArcs.{at_net}
use Rattle.pf_share.proofs.NetBuilt.{net_built}
use Rattle.pf_share.proofs.ReadOff.{read_off_certifies}

-- a greatest flow at each of the first points
record HasFlows (p : ShareProblem) (points : List Fraction) (count : ℕ) : Type 0 where
  flows : List (List ℤ)
  full : length flows ≡ count
  best : (j : ℕ) → j < count → IsGreatest (at_net p (point_at (share_net p) points j)) (flow_at flows j)

flows_exist : (p : ShareProblem) (points : List Fraction) (cuts : List (List Bool)) → IsBoundedSharing p → IsCurve (share_net p) points cuts →
    (n : ℕ) → n ≤ length cuts + 1 → HasFlows p points n
flows_exist p points cuts b v zero low = record { flows = []; full = refl; best = λ j less. absurd (omega (arith, less)) }
flows_exist p points cuts b v (suc n) low =
    let before = flows_exist p points cuts b v n (omega (arith, low)) in
    let x = point_at (share_net p) points n in
    let mono = (net_built p b).monotone in
    let inside = point_inside (share_net p) points cuts mono v.division n (omega (arith, low)) in
    let found = greatest_exists (at_net p x) (proper_at (share_net p) x mono inside) in
    record {
      flows = before.flows ++ (found.flow ∷ []);
      full = length_push before.flows found.flow ∙ ap (λ k. k + 1) before.full ∙ add-one n;
      best = λ j less.
          let P : List ℤ → Type 0 = λ f. IsGreatest (at_net p (point_at (share_net p) points j)) f in
          elim (cases_lt j n) [
            | inl early ↦
                (let full = before.full in
                subst P (sym (get_or_append_left before.flows (found.flow ∷ []) [] j (omega (arith, full, early)))) (before.best j early))
            | inr late ↦
                (let same : n ≡ j = omega (arith, less, late) in
                let Q : ℕ → Type 0 = λ k. IsGreatest (at_net p (point_at (share_net p) points k)) found.flow in
                subst P (sym (get_or_push before.flows found.flow [] j (before.full ∙ same))) (subst Q same found.greatest))
          ];
    }

abbrev curve_with : List Fraction → List (List Bool) → List (List ℤ) → Curve
curve_with points cuts flows = record { points = points; cuts = cuts; flows = flows }

pub flow_exists : (p : ShareProblem) (points : List Fraction) (cuts : List (List Bool)) (levels : List Fraction) (groups : List ℤ) (joins : List ℕ) (first : ℕ) →
    IsBoundedSharing p → IsCurve (share_net p) points cuts → (point_at (share_net p) points (length cuts)).q ≡ pos 1 → AreJoins cuts joins p.nodes → IsFirst joins first →
    AreLevelsOf p points levels first (length levels) → first + length levels ≡ length cuts → AreGroupsOf joins first (length cuts) groups p.nodes → HasFlow p levels groups
flow_exists p points cuts levels groups joins first b v last j f l count g =
    let all = flows_exist p points cuts b v (length cuts + 1) (omega arith) in
    let curve = curve_with points cuts all.flows in
    let certified = certificate_from_curve (share_net p) points cuts all.flows (net_built p b).monotone v (all.full ∙ sym v.division.count)
    (λ k low. let many = v.division.count in all.best k (omega (arith, low, many))) in
    let number : ℕ → ℤ = λ i. at_arc (flow_at all.flows (join_at joins (tail_of p i))) i in
    let flow = tabled number (length p.ends) in
    let r : IsReadOff p curve (answer_of levels groups flow) = record {
      joins = joins;
      first = first;
      joins_are = j;
      first_is = f;
      levels = l;
      count = count;
      groups = g;
      flow = record { full = length_tabled number (length p.ends); each = λ i low. at_tabled number (pos 0) (length p.ends) i low };
    } in
    record { flow = flow; certified = read_off_certifies p curve (answer_of levels groups flow) b v certified last r }
