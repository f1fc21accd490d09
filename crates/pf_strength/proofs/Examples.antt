-- Strengths worked by hand: the definitions give what is written beside them.
use Rattle.std.proofs.Common.{ℕ, ◌<◌, refl, arith}
use Rattle.std.specs.Prelude.{pos}
use Rattle.std.specs.Fmt.{digits}
use Rattle.std.proofs.lemmas.Int.{ints}
use Rattle.pf_strength.specs.Text.{strength_text}
use Rattle.pf_strength.specs.Worked.{TriangleIsCertified, TriangleText, RaisedPastWeight, ChargedRoot, LoosePart, PairsAreCertified, OnePart, HeavyIsCertified, row, row_answer, pair, FirstEdgeCuts, SecondEdgeCuts}
use Rattle.pf_frame.specs.Lending.{row_at}
use Rattle.pf_graph.specs.WeightedGraph.{digraph_of}
use Rattle.pf_graph.specs.Worked.{fraction}
use Rattle.pf_forest.specs.Forest.{IsInRange, IsSplit}
use Rattle.pf_model.proofs.Facts.{below_four, below_one, below_three, below_two}

pub triangle_certified : TriangleIsCertified
triangle_certified = record {
  two = omega arith;
  ratio = refl;
  forest = record {
    parameter = omega (arith, ints);
    level = omega (arith, ints);
    labels_full = refl;
    range = record {
      full = refl;
      low = below_three (λ k. _) (omega (arith, ints)) (omega (arith, ints)) (omega (arith, ints));
      high = below_three (λ k. _) (omega (arith, ints)) (omega (arith, ints)) (omega (arith, ints));
    };
    splits_are = below_three (λ k. _)
        (record {
          full = refl;
          low = below_three (λ k. _) (omega (arith, ints)) (omega (arith, ints)) (omega (arith, ints));
          high = below_three (λ k. _) (omega (arith, ints)) (omega (arith, ints)) (omega (arith, ints));
          root_none = refl;
          most = below_three (λ k. _) (omega (arith, ints)) (omega (arith, ints)) (omega (arith, ints));
        })
        (record {
          full = refl;
          low = below_three (λ k. _) (omega (arith, ints)) (omega (arith, ints)) (omega (arith, ints));
          high = below_three (λ k. _) (omega (arith, ints)) (omega (arith, ints)) (omega (arith, ints));
          root_none = refl;
          most = below_three (λ k. _) (omega (arith, ints)) (omega (arith, ints)) (omega (arith, ints));
        })
        (record {
          full = refl;
          low = below_three (λ k. _) (omega (arith, ints)) (omega (arith, ints)) (omega (arith, ints));
          high = below_three (λ k. _) (omega (arith, ints)) (omega (arith, ints)) (omega (arith, ints));
          root_none = refl;
          most = below_three (λ k. _) (omega (arith, ints)) (omega (arith, ints)) (omega (arith, ints));
        });
    sum = record { total_is = refl };
  };
}

pub triangle_text : TriangleText
unfolding strength_text digits
triangle_text = refl

pub raised_past_weight : RaisedPastWeight
raised_past_weight c = let e = c.forest.range.high 0 (omega arith) in omega (arith, ints, e)

pub charged_root : ChargedRoot
charged_root c = let e = (c.forest.splits_are 0 (omega arith)).root_none in omega (arith, ints, e)

pub loose_part : LoosePart
loose_part c = let e = c.forest.sum.total_is in omega (arith, ints, e)

pub pairs_certified : PairsAreCertified
pairs_certified = record {
  two = omega arith;
  ratio = refl;
  forest = record {
    parameter = omega (arith, ints);
    level = omega (arith, ints);
    labels_full = refl;
    range = record {
      full = refl;
      low = below_two (λ k. _) (omega (arith, ints)) (omega (arith, ints));
      high = below_two (λ k. _) (omega (arith, ints)) (omega (arith, ints));
    };
    splits_are = below_four (λ k. _)
        (record {
          full = refl;
          low = below_two (λ k. _) (omega (arith, ints)) (omega (arith, ints));
          high = below_two (λ k. _) (omega (arith, ints)) (omega (arith, ints));
          root_none = refl;
          most = below_four (λ k. _) (omega (arith, ints)) (omega (arith, ints)) (omega (arith, ints)) (omega (arith, ints));
        })
        (record {
          full = refl;
          low = below_two (λ k. _) (omega (arith, ints)) (omega (arith, ints));
          high = below_two (λ k. _) (omega (arith, ints)) (omega (arith, ints));
          root_none = refl;
          most = below_four (λ k. _) (omega (arith, ints)) (omega (arith, ints)) (omega (arith, ints)) (omega (arith, ints));
        })
        (record {
          full = refl;
          low = below_two (λ k. _) (omega (arith, ints)) (omega (arith, ints));
          high = below_two (λ k. _) (omega (arith, ints)) (omega (arith, ints));
          root_none = refl;
          most = below_four (λ k. _) (omega (arith, ints)) (omega (arith, ints)) (omega (arith, ints)) (omega (arith, ints));
        })
        (record {
          full = refl;
          low = below_two (λ k. _) (omega (arith, ints)) (omega (arith, ints));
          high = below_two (λ k. _) (omega (arith, ints)) (omega (arith, ints));
          root_none = refl;
          most = below_four (λ k. _) (omega (arith, ints)) (omega (arith, ints)) (omega (arith, ints)) (omega (arith, ints));
        });
    sum = record { total_is = refl };
  };
}

pub one_part : OnePart
one_part c = let e = c.two in omega (arith, e)

pub heavy_certified : HeavyIsCertified
heavy_certified = record {
  two = omega arith;
  ratio = refl;
  forest = record {
    parameter = omega (arith, ints);
    level = omega (arith, ints);
    labels_full = refl;
    range = record {
      full = refl;
      low = below_one (λ k. _) (omega (arith, ints));
      high = below_one (λ k. _) (omega (arith, ints));
    };
    splits_are = below_two (λ k. _)
        (record {
          full = refl;
          low = below_one (λ k. _) (omega (arith, ints));
          high = below_one (λ k. _) (omega (arith, ints));
          root_none = refl;
          most = below_two (λ k. _) (omega (arith, ints)) (omega (arith, ints));
        })
        (record {
          full = refl;
          low = below_one (λ k. _) (omega (arith, ints));
          high = below_one (λ k. _) (omega (arith, ints));
          root_none = refl;
          most = below_two (λ k. _) (omega (arith, ints)) (omega (arith, ints));
        });
    sum = record { total_is = refl };
  };
}

-- two edges in a row: the same vector and splits serve the cut at either edge
row_range : IsInRange row (fraction 1 1) (pair 1 1)
row_range = record {
  full = refl;
  low = below_two (λ k. _) (omega (arith, ints)) (omega (arith, ints));
  high = below_two (λ k. _) (omega (arith, ints)) (omega (arith, ints));
}

row_splits : (r : ℕ) → r < 3 → IsSplit (digraph_of row) (pos 1) (pair 1 1) (row_at (row_answer 2 2).splits r) r
row_splits = below_three (λ k. _)
    (record {
      full = refl;
      low = below_two (λ k. _) (omega (arith, ints)) (omega (arith, ints));
      high = below_two (λ k. _) (omega (arith, ints)) (omega (arith, ints));
      root_none = refl;
      most = below_three (λ k. _) (omega (arith, ints)) (omega (arith, ints)) (omega (arith, ints));
    })
    (record {
      full = refl;
      low = below_two (λ k. _) (omega (arith, ints)) (omega (arith, ints));
      high = below_two (λ k. _) (omega (arith, ints)) (omega (arith, ints));
      root_none = refl;
      most = below_three (λ k. _) (omega (arith, ints)) (omega (arith, ints)) (omega (arith, ints));
    })
    (record {
      full = refl;
      low = below_two (λ k. _) (omega (arith, ints)) (omega (arith, ints));
      high = below_two (λ k. _) (omega (arith, ints)) (omega (arith, ints));
      root_none = refl;
      most = below_three (λ k. _) (omega (arith, ints)) (omega (arith, ints)) (omega (arith, ints));
    })

pub first_edge_cuts : FirstEdgeCuts
first_edge_cuts = record {
  two = omega arith;
  ratio = refl;
  forest = record { parameter = omega (arith, ints); level = omega (arith, ints); labels_full = refl; range = row_range; splits_are = row_splits; sum = record { total_is = refl } };
}

pub second_edge_cuts : SecondEdgeCuts
second_edge_cuts = record {
  two = omega arith;
  ratio = refl;
  forest = record { parameter = omega (arith, ints); level = omega (arith, ints); labels_full = refl; range = row_range; splits_are = row_splits; sum = record { total_is = refl } };
}
