-- Steps of the search for the dropped items.
use Rattle.std.proofs.Common.{◌≡◌, ℕ, ◌<◌, List, length, set, refl, Bool, not, arith, ap, ◌∙◌}
use Rattle.std.specs.Prelude.{ℤ, ◌+ℤ◌, ◌-ℤ◌, ◌*ℤ◌, ◌≤ℤ◌, pos}
use Rattle.std.proofs.lemmas.Int.{ints}
use Rattle.pf_model.specs.Cut.{has, at_arc}
use Rattle.pf_model.specs.Fraction.{Fraction, IsParameter}
use Rattle.pf_model.specs.Flow.{flow_value}
use Rattle.pf_ratio.specs.Marking.{IsMarkedBy}
use Rattle.pf_ratio.proofs.MarkingLemmas.{less_told, less_true, same_marks}
use Rattle.pf_closure.specs.Problem.{ClosureProblem, IsNonempty}
use Rattle.pf_closure.specs.Certificate.{net_inflow, reduced_cost, IsDropped, CertifiesRatio}
use Rattle.pf_closure.specs.Dropping.{HasSlacks, AreRouted, IsStart, need_link}

-- the items that may be brought more, and what they drop
pub dropped_by : (p : ClosureProblem) (x : Fraction) (routing slacks : List ℤ) (count : ℕ) (start marks : List Bool) → count ≡ length p.costs →
    HasSlacks p x routing slacks → IsStart slacks count start → IsMarkedBy (need_link p routing) (length p.needs) start marks → IsDropped p x routing marks
dropped_by p x routing slacks count start marks same s b m = record {
  rules = record {
    strict = λ i low less. let e = s.each i low in m.more i (b.strict i (omega (arith, low, same)) (omega (arith, ints, less, e)));
    needing = λ k low h. (m.kept.each k low).first_is h refl;
    carrying = λ k low h more. (m.kept.each k low).second_is h (less_true (pos 0) (at_arc routing k) more);
  };
  least = λ other keeps. m.least other
      (record {
        each = λ k low. record {
          first_is = λ h asked. keeps.needing k low h;
          second_is = λ h asked. keeps.carrying k low h (less_told (pos 0) (at_arc routing k) asked);
        };
      })
      (λ v h.
      let low : v < length p.costs = let l = b.only v h in omega (arith, l, same) in
      let more = b.above v h in
      let e = s.each v low in
      keeps.strict v low (omega (arith, ints, more, e)));
}

pub slack_here : (p : ClosureProblem) (x : Fraction) (routing : List ℤ) (i : ℕ) (s s' more cost weight : ℤ) → cost ≡ at_arc p.costs i → weight ≡ at_arc p.weights i →
    more ≡ (x.q *ℤ cost) -ℤ (x.p *ℤ weight) → s ≡ flow_value p.needs routing i → s' ≡ s +ℤ more → s' ≡ reduced_cost p x i -ℤ net_inflow p routing i
slack_here p x routing i s s' more cost weight c w e f g =
    let a = ap (λ n. x.q *ℤ n) c in
    let b = ap (λ n. x.p *ℤ n) w in
    omega (arith, ints, a, b, e, f, g)

-- the parts of a certificate
pub certified : (p : ClosureProblem) (x : Fraction) (chosen marks : List Bool) (routing slacks : List ℤ) → IsParameter x → length chosen ≡ length p.costs →
    length routing ≡ length p.needs → AreRouted routing (length routing) → HasSlacks p x routing slacks →
    ((i : ℕ) → i < length chosen → pos 0 ≤ℤ at_arc slacks i) → IsDropped p x routing marks →
    ((i : ℕ) → i < length chosen → has chosen i ≡ not (has marks i)) → IsNonempty chosen → CertifiesRatio p x chosen routing
certified p x chosen marks routing slacks unit full wide r s low d rest some = record {
  parameter = unit;
  routing_is = record {
    full = wide;
    low = λ k h. r.low k (omega (arith, h, wide));
    high = λ k h. r.high k (omega (arith, h, wide));
  };
  within = λ i h. let e = s.each i h in let l = low i (omega (arith, h, full)) in omega (arith, ints, e, l);
  dropped = marks;
  dropped_is = d;
  full = full;
  rest = λ i h. rest i (omega (arith, h, full));
  some = some;
}

pub nonneg_of : (p : ClosureProblem) (x : Fraction) (chosen : List Bool) (routing slacks : List ℤ) → HasSlacks p x routing slacks → CertifiesRatio p x chosen routing →
    (i : ℕ) → i < length chosen → pos 0 ≤ℤ at_arc slacks i
nonneg_of p x chosen routing slacks s c i low =
    let full = c.full in
    let there : i < length p.costs = omega (arith, low, full) in
    let e = s.each i there in
    let w = c.within i there in
    omega (arith, ints, e, w)

pub rest_of : (p : ClosureProblem) (x : Fraction) (chosen marks : List Bool) (routing : List ℤ) → IsDropped p x routing marks → CertifiesRatio p x chosen routing →
    (i : ℕ) → i < length chosen → has chosen i ≡ not (has marks i)
rest_of p x chosen marks routing d c i low =
    let full = c.full in
    let e = same_marks (has c.dropped i) (has marks i) (c.dropped_is.least marks d.rules i) (d.least c.dropped c.dropped_is.rules i) in
    c.rest i (omega (arith, low, full)) ∙ ap not e

pub carried : (p : ClosureProblem) (x x' : Fraction) (set set' : List Bool) (routing routing' : List ℤ) → x' ≡ x → set' ≡ set → routing' ≡ routing →
    CertifiesRatio p x set routing → CertifiesRatio p x' set' routing'
carried p x x' set set' routing routing' a b c k = rw (a, b, c) k
