-- At most one list of layers of a graph is right.
use Rattle.std.proofs.Common.{List, Bool, arith, sym, ◌∙◌}
use Rattle.std.specs.Prelude.{◌*ℤ◌, ◌≤ℤ◌}
use Rattle.std.proofs.lemmas.Int.{ints}
use Rattle.pf_model.specs.Fraction.{Fraction, IsParameter, IsEqual}
use Rattle.pf_model.proofs.Unique.{same_sides}
use Rattle.pf_graph.specs.WeightedGraph.{WeightedGraph, IsWeightedGraph}
use Rattle.pf_dense.specs.Densest.{cost_within, HasPositiveCosts}
use Rattle.pf_dense.proofs.OneAnswer.{costs_some}
use Rattle.pf_layers.specs.Layers.{IsApart}
use Rattle.pf_layers.specs.DenseLayers.{gain, IsDensestBeside}
use Rattle.pf_layers.specs.Laws.{OneDenseLayers, OneDenseLevels}
use Rattle.pf_layers.proofs.Ratios.{at_most_by, carried_over}
use Rattle.pf_layers.proofs.OneLayering.{IsSameNext, HasOneNext, one_layering, same_levels}

level_at_most : (g : WeightedGraph) (taken : List Bool) (x y : Fraction) (set other : List Bool) → IsWeightedGraph g → HasPositiveCosts g → IsParameter y → IsApart taken other →
    IsDensestBeside g taken x set → IsDensestBeside g taken y other → (y.p *ℤ x.q) ≤ℤ (x.p *ℤ y.q)
level_at_most g taken x y set other graph positive py apart a b =
    at_most_by x.p x.q y.p y.q (gain g taken other) (cost_within g other) py (costs_some g other graph positive b.vertices)
    (a.greatest other b.vertices apart) b.density

one_next : (g : WeightedGraph) → IsWeightedGraph g → HasPositiveCosts g → (taken : List Bool) (x y : Fraction) (set other : List Bool) → IsParameter x → IsParameter y →
    IsApart taken set → IsApart taken other → IsDensestBeside g taken x set → IsDensestBeside g taken y other → IsSameNext x y set other
one_next g graph positive taken x y set other px py apart apart' a b =
    let one = level_at_most g taken x y set other graph positive py apart' a b in
    let two = level_at_most g taken y x other set graph positive px apart b a in
    let equal : IsEqual x y = omega (arith, ints, one, two) in
    record {
      equal = equal;
      same = same_sides set other (a.vertices.full ∙ sym b.vertices.full)
          (b.holds set a.vertices apart (carried_over y.p y.q x.p x.q (gain g taken set) (cost_within g set) px (sym equal) a.density))
          (a.holds other b.vertices apart' (carried_over x.p x.q y.p y.q (gain g taken other) (cost_within g other) py equal b.density));
    }

has_one_next : (g : WeightedGraph) → IsWeightedGraph g → HasPositiveCosts g → HasOneNext g.nodes (IsDensestBeside g)
has_one_next g graph positive = record {
  one = one_next g graph positive;
  some = λ taken x set b. record { element = b.vertices.some.vertex; held = b.vertices.some.held };
}

pub one_dense : OneDenseLayers
one_dense g levels levels' layers layers' graph positive a b =
    one_layering g.nodes (IsDensestBeside g) levels levels' layers layers' (has_one_next g graph positive) a.layers_are b.layers_are

pub one_dense_levels : OneDenseLevels
one_dense_levels g levels levels' layers layers' graph positive a b lowest lowest' =
    same_levels g.nodes (IsDensestBeside g) levels levels' layers layers' a.layers_are b.layers_are (one_dense g levels levels' layers layers' graph positive a b) lowest lowest'
