-- The parametric network of a selection problem. Node 0 is the source; a node for each part and one for each product follow; the last
-- node is the sink. A cut holds the parts that are not selected, and the products that are not gained.
use Rattle.std.specs.Prelude.{ℕ, suc, ◌+◌, ◌^◌, ℤ, ◌+ℤ◌, pos, Bool, true, not, List, [], ◌∷◌, ◌++◌, length, map, take, drop}
use Rattle.pf_model.specs.declared.AffineArc.{AffineArc}
use Rattle.pf_model.specs.declared.Sense.TheVariants.{Rising}
use Rattle.pf_model.specs.Network.{Network}
use Rattle.pf_select.specs.Problem.{SelectionProblem, sum_of, zero_price}

-- from the source to part i, with the price of its cost
abbrev pub part_arc : ℕ → ℤ → AffineArc
part_arc i cost = record { tail = 0; head = suc i; a = pos 0; b = cost }

-- from a part to a product that needs it, an arc that no least cut crosses; there are so many parts
abbrev pub need_arc : ℕ → ℕ × ℕ → AffineArc
need_arc parts need = record { tail = suc need.1; head = suc (parts + need.0); a = pos (2 ^ 56); b = pos 0 }

-- from product j to the sink, with its gain
abbrev pub product_arc : ℕ → ℕ → ℕ → ℤ → AffineArc
product_arc sink parts j gain = record { tail = suc (parts + j); head = sink; a = gain; b = pos 0 }

-- the first number is that of the first part or product
abbrev pub part_arcs : ℕ → List ℤ → List AffineArc
part_arcs i [] = []
part_arcs i (cost ∷ costs) = part_arc i cost ∷ part_arcs (suc i) costs

abbrev pub product_arcs : ℕ → ℕ → ℕ → List ℤ → List AffineArc
product_arcs sink parts j [] = []
product_arcs sink parts j (gain ∷ gains) = product_arc sink parts j gain ∷ product_arcs sink parts (suc j) gains

abbrev pub product_node : SelectionProblem → ℕ → ℕ
product_node p j = suc (length p.costs + j)

abbrev pub sink_node : SelectionProblem → ℕ
sink_node p = suc (length p.costs + length p.gains)

-- the gains of all products
abbrev pub whole_gain : SelectionProblem → ℤ
whole_gain p = sum_of (λ j. true) p.gains

abbrev pub select_net : SelectionProblem → Network
select_net p = record {
  nodes = suc (sink_node p);
  source = 0;
  sink = sink_node p;
  sense = Rising;
  low = zero_price;
  high = record { p = whole_gain p +ℤ pos 1; q = pos 1 };
  arcs = part_arcs 0 p.costs ++ (map (need_arc (length p.costs)) p.needs ++ product_arcs (sink_node p) (length p.costs) 0 p.gains);
}

-- the parts outside a side, and the numbers on the arcs of needs
abbrev pub selection_of : SelectionProblem → List Bool → List Bool
selection_of p side = map not (take (length p.costs) (drop 1 side))

abbrev pub charges_of : SelectionProblem → List ℤ → List ℤ
charges_of p flow = take (length p.needs) (drop (length p.costs) flow)
