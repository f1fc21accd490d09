-- The next layer of a graph, between a set that lacks the least at a level and the greatest such set.
use Rattle.std.proofs.Common.{◌≡◌, ℕ, List, length, Bool, true, false, arith, ap, sym, ◌∙◌, inl, inr}
use Rattle.std.specs.Prelude.{ℤ, ◌+ℤ◌, ◌-ℤ◌, ◌*ℤ◌, ◌≤ℤ◌}
use Rattle.std.proofs.lemmas.Int.{ints}
use Rattle.std.proofs.lemmas.Bool.{both_ways, or_cases, or_right}
use Rattle.pf_model.specs.Fraction.{Fraction}
use Rattle.pf_model.specs.Cut.{has, union}
use Rattle.pf_model.proofs.Exchange.{has-union, length-union}
use Rattle.pf_model.proofs.Integers.{mul_add}
use Rattle.pf_graph.specs.WeightedGraph.{WeightedGraph}
use Rattle.pf_dense.specs.Densest.{weight_inside, cost_within, IsVertexSet}
use Rattle.pf_dense.specs.Newton.{deficit, IsStep}
use Rattle.pf_layers.specs.Layers.{IsApart}
use Rattle.pf_layers.specs.DenseLayers.{gain, IsDensestBeside}
use Rattle.pf_layers.proofs.SetSums.{cost_of_union}

-- no set lacks less
pub record IsLeastSet (g : WeightedGraph) (x : Fraction) (set : List Bool) : Type 0 where
  pub full : length set ≡ g.nodes
  pub least : (other : List Bool) → length other ≡ g.nodes → deficit g x set ≤ℤ deficit g x other

-- what is lacked more with a set beside the taken ones
gap : (p q c c' c'' w w' : ℤ) → c'' ≡ c +ℤ c' → ((p *ℤ c'') -ℤ (q *ℤ w')) ≡ ((p *ℤ c) -ℤ (q *ℤ w)) +ℤ ((p *ℤ c') -ℤ (q *ℤ (w' -ℤ w)))
gap p q c c' c'' w w' e =
    let a = ap (λ n. p *ℤ n) e ∙ mul_add p c c' in
    let whole : w +ℤ (w' -ℤ w) ≡ w' = omega (arith, ints) in
    let b = sym (mul_add q w (w' -ℤ w)) ∙ ap (λ n. q *ℤ n) whole in
    omega (arith, ints, a, b)

pub beside : (g : WeightedGraph) (x : Fraction) (taken set : List Bool) → IsApart taken set →
    deficit g x (union taken set) ≡ deficit g x taken +ℤ ((x.p *ℤ cost_within g set) -ℤ (x.q *ℤ gain g taken set))
beside g x taken set apart =
    gap x.p x.q (cost_within g taken) (cost_within g set) (cost_within g (union taken set)) (weight_inside g taken) (weight_inside g (union taken set))
    (cost_of_union g.costs taken set apart)

-- what lies in a union and not in the taken part
pub other_part : (taken set : List Bool) (v : ℕ) → has (union taken set) v ≡ true → has taken v ≡ false → has set v ≡ true
other_part taken set v h off = elim (or_cases (has taken v) (has set v) (sym (has-union taken set v) ∙ h)) [
  | inl on ↦ absurd (both_ways _ off on)
  | inr held ↦ held
]

pub dense_next : (g : WeightedGraph) (x : Fraction) (taken next set : List Bool) → IsLeastSet g x taken → IsStep g x next → IsVertexSet g set → IsApart taken set →
    next ≡ union taken set → IsDensestBeside g taken x set
dense_next g x taken next set low s vertices apart same =
    let here = ap (deficit g x) same ∙ beside g x taken set apart in
    let up = s.least taken low.full in
    let down = low.least next s.full in
    record {
      vertices = vertices;
      density = omega (arith, ints, here, up, down);
      greatest = λ other o away.
          let there = beside g x taken other away in
          let most = low.least (union taken other) (length-union taken other (low.full ∙ sym o.full) ∙ low.full) in
          omega (arith, ints, there, most);
      holds = λ other o away brings v held.
          let there = beside g x taken other away in
          let tie : deficit g x (union taken other) ≡ deficit g x next = omega (arith, ints, there, up, down, brings) in
          let within = s.greatest (union taken other) (length-union taken other (low.full ∙ sym o.full) ∙ low.full) tie v
          (has-union taken other v ∙ or_right (has taken v) (has other v) held) in
          other_part taken set v (ap (λ l. has l v) (sym same) ∙ within) (away.outside v held);
    }
