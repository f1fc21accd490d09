-- Reinforcements worked by hand: the definitions give what is written beside them.
use Rattle.std.proofs.Common.{◌≡◌, ℕ, zero, suc, ◌<◌, [], ◌∷◌, refl, arith}
use Rattle.std.specs.Prelude.{pos}
use Rattle.std.specs.Fmt.{digits}
use Rattle.std.proofs.lemmas.Int.{ints}
use Rattle.pf_model.specs.Cut.{at_arc}
use Rattle.pf_reinforce.specs.Text.{added_text, blocked_text}
use Rattle.pf_reinforce.specs.Worked.{TriangleIsCertified, TwoPartsServe, CheapEdgeCrosses, OtherCost, DearEdge, ThresholdLeftOut, EdgeIsCertified, ZeroIsReached, ZeroIsNotBlocked, OnePartBlocksNot, TriangleText, EdgeText, PairsText}
use Rattle.pf_model.proofs.Facts.{below_one, below_three, below_two}

none : (P : ℕ → Type 0) → (k : ℕ) → k < 0 → P k
none P k low = absurd (omega (arith, low))

later : (P : ℕ → Type 0) → (k : ℕ) → suc k < 1 → P k
later P k low = absurd (omega (arith, low))

first : (P : ℕ → Type 0) → P 0 → (k : ℕ) → suc k < 2 → P k
first P a zero low = a
first P a (suc k) low = absurd (omega (arith, low))

pub triangle_certified : TriangleIsCertified
triangle_certified = record {
  parameter = omega (arith, ints);
  level = omega (arith, ints);
  reinforced = record {
    added_full = refl;
    added_low = below_three (λ k. _) (omega (arith, ints)) (omega (arith, ints)) (omega (arith, ints));
    vector_full = refl;
    vector_low = below_three (λ k. _) (omega (arith, ints)) (omega (arith, ints)) (omega (arith, ints));
    vector_high = below_three (λ k. _) (omega (arith, ints)) (omega (arith, ints)) (omega (arith, ints));
  };
  splits_are = below_three (λ k. _)
      (record {
        full = refl;
        low = below_three (λ k. _) (omega (arith, ints)) (omega (arith, ints)) (omega (arith, ints));
        high = below_three (λ k. _) (omega (arith, ints)) (omega (arith, ints)) (omega (arith, ints));
        root_none = refl;
        most = below_three (λ k. _) (omega (arith, ints)) (omega (arith, ints)) (omega (arith, ints));
      })
      (record {
        full = refl;
        low = below_three (λ k. _) (omega (arith, ints)) (omega (arith, ints)) (omega (arith, ints));
        high = below_three (λ k. _) (omega (arith, ints)) (omega (arith, ints)) (omega (arith, ints));
        root_none = refl;
        most = below_three (λ k. _) (omega (arith, ints)) (omega (arith, ints)) (omega (arith, ints));
      })
      (record {
        full = refl;
        low = below_three (λ k. _) (omega (arith, ints)) (omega (arith, ints)) (omega (arith, ints));
        high = below_three (λ k. _) (omega (arith, ints)) (omega (arith, ints)) (omega (arith, ints));
        root_none = refl;
        most = below_three (λ k. _) (omega (arith, ints)) (omega (arith, ints)) (omega (arith, ints));
      });
  sum = refl;
  thresholds_are = record {
    rise = first (λ k. _) (omega (arith, ints));
    occur = below_two (λ k. _) (record { place = 1; in_range = omega arith; there = refl }) (record { place = 0; in_range = omega arith; there = refl });
    all = below_three (λ k. _) (record { place = 1; in_range = omega arith; there = refl }) (record { place = 0; in_range = omega arith; there = refl }) (record { place = 1; in_range = omega arith; there = refl });
  };
  each = below_two (λ k. _)
      (record { full = refl; dear = below_three (λ k. _) (λ e. omega (arith, ints)) (λ e. omega (arith, ints)) (λ e. omega (arith, ints)); sum = refl })
      (record { full = refl; dear = below_three (λ k. _) (λ e. omega (arith, ints)) (λ e. absurd (cc)) (λ e. omega (arith, ints)); sum = refl });
  cost_is = refl;
}

pub two_parts_serve : TwoPartsServe
two_parts_serve = record {
  parameter = triangle_certified.parameter;
  level = triangle_certified.level;
  reinforced = triangle_certified.reinforced;
  splits_are = triangle_certified.splits_are;
  sum = refl;
  thresholds_are = triangle_certified.thresholds_are;
  each = below_two (λ k. _)
      (record { full = refl; dear = below_three (λ k. _) (λ e. omega (arith, ints)) (λ e. omega (arith, ints)) (λ e. omega (arith, ints)); sum = refl })
      (record { full = refl; dear = below_three (λ k. _) (λ e. omega (arith, ints)) (λ e. absurd (cc)) (λ e. omega (arith, ints)); sum = refl });
  cost_is = refl;
}

pub cheap_edge_crosses : CheapEdgeCrosses
cheap_edge_crosses c = let e = (c.each 1 (omega arith)).dear 1 (omega arith) refl in omega (arith, ints, e)

pub other_cost : OtherCost
other_cost c = let e = c.cost_is in omega (arith, ints, e)

pub dear_edge : DearEdge
dear_edge c = let e = (c.each 1 (omega arith)).sum in omega (arith, ints, e)

not_there : (k : ℕ) → k < 1 → at_arc (pos 1 ∷ []) k ≡ pos 5 → ⊥
not_there zero low e = omega (arith, ints, e)
not_there (suc k) low e = omega (arith, low)

pub threshold_left_out : ThresholdLeftOut
threshold_left_out c = let a = c.thresholds_are.all 0 (omega arith) in not_there a.place a.in_range a.there

pub edge_certified : EdgeIsCertified
edge_certified = record {
  parameter = omega (arith, ints);
  level = omega (arith, ints);
  reinforced = record {
    added_full = refl;
    added_low = below_one (λ k. _) (omega (arith, ints));
    vector_full = refl;
    vector_low = below_one (λ k. _) (omega (arith, ints));
    vector_high = below_one (λ k. _) (omega (arith, ints));
  };
  splits_are = below_two (λ k. _)
      (record {
        full = refl;
        low = below_one (λ k. _) (omega (arith, ints));
        high = below_one (λ k. _) (omega (arith, ints));
        root_none = refl;
        most = below_two (λ k. _) (omega (arith, ints)) (omega (arith, ints));
      })
      (record {
        full = refl;
        low = below_one (λ k. _) (omega (arith, ints));
        high = below_one (λ k. _) (omega (arith, ints));
        root_none = refl;
        most = below_two (λ k. _) (omega (arith, ints)) (omega (arith, ints));
      });
  sum = refl;
  thresholds_are = record {
    rise = later (λ k. _);
    occur = below_one (λ k. _) (record { place = 0; in_range = omega arith; there = refl });
    all = below_one (λ k. _) (record { place = 0; in_range = omega arith; there = refl });
  };
  each = below_one (λ k. _) (record { full = refl; dear = below_one (λ k. _) (λ e. omega (arith, ints)); sum = refl });
  cost_is = refl;
}

pub zero_is_reached : ZeroIsReached
zero_is_reached = record {
  parameter = omega (arith, ints);
  level = omega (arith, ints);
  reinforced = record {
    added_full = refl;
    added_low = none (λ k. _);
    vector_full = refl;
    vector_low = none (λ k. _);
    vector_high = none (λ k. _);
  };
  splits_are = below_two (λ k. _)
      (record {
        full = refl;
        low = none (λ k. _);
        high = none (λ k. _);
        root_none = refl;
        most = below_two (λ k. _) (omega (arith, ints)) (omega (arith, ints));
      })
      (record {
        full = refl;
        low = none (λ k. _);
        high = none (λ k. _);
        root_none = refl;
        most = below_two (λ k. _) (omega (arith, ints)) (omega (arith, ints));
      });
  sum = refl;
  thresholds_are = record { rise = λ j low. absurd (omega (arith, low)); occur = none (λ k. _); all = none (λ k. _) };
  each = none (λ k. _);
  cost_is = refl;
}

pub zero_is_not_blocked : ZeroIsNotBlocked
zero_is_not_blocked b = let e = b.level in omega (arith, ints, e)

pub one_part_blocks_not : OnePartBlocksNot
one_part_blocks_not b = let e = b.apart in omega (arith, e)

pub triangle_text : TriangleText
unfolding added_text digits
triangle_text = refl

pub edge_text : EdgeText
unfolding added_text digits
edge_text = refl

pub pairs_text : PairsText
unfolding blocked_text digits
pairs_text = refl
