-- The parametric network of a closure problem. Node 0 is the source, node i + 1 stands for item i, the last node is the sink.
use Rattle.std.specs.Prelude.{ℕ, suc, ◌+◌, ◌^◌, ℤ, ◌+ℤ◌, ◌*ℤ◌, pos, neg_ℤ, Bool, true, false, List, [], ◌∷◌, ◌++◌, length, map, take, drop}
use Rattle.pf_model.specs.declared.AffineArc.{AffineArc}
use Rattle.pf_model.specs.declared.Sense.TheVariants.{Rising}
use Rattle.pf_model.specs.Network.{Network}
use Rattle.pf_closure.specs.Problem.{ClosureProblem}

abbrev pub source_arc : ℕ → ℤ → AffineArc
source_arc i weight = record { tail = 0; head = suc i; a = pos 1000001 *ℤ weight; b = weight }

abbrev pub sink_arc : ℕ → ℕ → ℤ → ℤ → AffineArc
sink_arc sink i cost weight = record { tail = suc i; head = sink; a = (pos 1000001 *ℤ weight) +ℤ cost; b = pos 0 }

-- for each item, of which the first has the number i, an arc from the source and an arc to the sink, whose capacities differ by
-- the cost less the parameter times the weight
abbrev pub item_arcs : ℕ → ℕ → List ℤ → List ℤ → List AffineArc
item_arcs sink i [] weights = []
item_arcs sink i (cost ∷ costs) [] = []
item_arcs sink i (cost ∷ costs) (weight ∷ weights) =
    source_arc i weight ∷ (sink_arc sink i cost weight ∷ item_arcs sink (suc i) costs weights)

-- for each need an arc that no least cut crosses
abbrev pub need_arc : ℕ × ℕ → AffineArc
need_arc need = record { tail = suc need.0; head = suc need.1; a = pos (2 ^ 56); b = pos 0 }

abbrev pub sink_node : ClosureProblem → ℕ
sink_node p = suc (length p.costs)

abbrev pub closure_net : ClosureProblem → Network
closure_net p = record {
  nodes = suc (sink_node p);
  source = 0;
  sink = sink_node p;
  sense = Rising;
  low = record { p = neg_ℤ (pos 1000001); q = pos 1 };
  high = record { p = pos 1000001; q = pos 1 };
  arcs = item_arcs (sink_node p) 0 p.costs p.weights ++ map need_arc p.needs;
}

-- the side of a set: the source with its items; and the items of a side
abbrev pub side_of : List Bool → List Bool
side_of set = true ∷ (set ++ (false ∷ []))

abbrev pub behind_first : List Bool → List Bool
behind_first [] = []
behind_first (b ∷ side) = side

abbrev pub items_of : ClosureProblem → List Bool → List Bool
items_of p side = take (length p.costs) (behind_first side)

-- the numbers on the arcs of needs
abbrev pub routing_of : ClosureProblem → List ℤ → List ℤ
routing_of p flow = drop (length p.costs + length p.costs) flow
