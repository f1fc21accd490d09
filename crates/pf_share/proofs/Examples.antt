-- Networks that are shared, worked by hand: the definitions give what is written beside them.
use Rattle.std.proofs.Common.{ℕ, zero, suc, ◌<◌, [], ◌∷◌, refl, arith}
use Rattle.std.specs.Prelude.{pos, ◌<ℤ◌}
use Rattle.std.proofs.lemmas.Int.{ints}
use Rattle.pf_model.specs.Fraction.{IsBelow}
use Rattle.pf_model.specs.Cut.{at_arc}
use Rattle.pf_share.specs.Problem.{IsFeasible, IsInUnit}
use Rattle.pf_share.specs.Certificate.{level_at}
use Rattle.pf_share.specs.Worked.{fraction, three, four, narrow_arc, two_levels, level_of_nothing, NarrowArc, OneLevel, NotFull, NoWayOut, Thirds}
use Rattle.pf_model.proofs.Facts.{below_one}

two : (P : ℕ → Type 0) → P 0 → P 1 → (k : ℕ) → k < 2 → P k
two P a b zero low = a
two P a b (suc k) low = below_one (λ n. P (suc n)) b k (omega (arith, low))

triple : (P : ℕ → Type 0) → P 0 → P 1 → P 2 → (k : ℕ) → k < 3 → P k
triple P a b c zero low = a
triple P a b c (suc k) low = two (λ n. P (suc n)) b c k (omega (arith, low))

each_of_four : (P : ℕ → Type 0) → P 0 → P 1 → P 2 → P 3 → (k : ℕ) → k < 4 → P k
each_of_four P a b c d zero low = a
each_of_four P a b c d (suc k) low = triple (λ n. P (suc n)) b c d k (omega (arith, low))

pub narrow : NarrowArc
narrow = record {
  levels = record {
    parameters = two (λ j. _) (omega (arith, ints)) (omega (arith, ints));
    low = two (λ j. _) (omega (arith, ints)) (omega (arith, ints));
    rise = λ j low. below_one (λ k. IsBelow (level_at two_levels.levels (suc k)) (level_at two_levels.levels (suc (suc k)))) (omega (arith, ints)) j (omega (arith, low));
  };
  groups = record {
    full = refl;
    low = each_of_four (λ v. _) (omega (arith, ints)) (omega (arith, ints)) (omega (arith, ints)) (omega (arith, ints));
    high = each_of_four (λ v. _) (omega (arith, ints)) (omega (arith, ints)) (omega (arith, ints)) (omega (arith, ints));
    sources = each_of_four (λ v. _) (λ h. omega (arith, ints)) (λ h. omega (arith, ints)) (λ h. omega (arith, ints)) (λ h. absurd (omega (arith, ints, h)));
    some = two (λ j. _)
        (record { node = 0; there = omega arith; source = omega (arith, ints); group_is = refl })
        (record { node = 1; there = omega arith; source = omega (arith, ints); group_is = refl });
    sink = refl;
  };
  flow = record {
    full = refl;
    low = triple (λ i. _) (omega (arith, ints)) (omega (arith, ints)) (omega (arith, ints));
    high = triple (λ i. _) (omega (arith, ints)) (omega (arith, ints)) (omega (arith, ints));
    upward = triple (λ i. _) (λ h. refl) (λ h. absurd (omega (arith, h))) (λ h. refl);
    downward = triple (λ i. _) (λ h. absurd (omega (arith, h))) (λ h. absurd (omega (arith, h))) (λ h. absurd (omega (arith, h)));
    kept = each_of_four (λ v. _) (λ h. refl) (λ h. refl) (λ h. refl) (λ h. absurd (h refl));
  };
}

pub not_full : NotFull
not_full c = let e = c.flow.upward 0 (omega arith) (omega arith) in omega (arith, ints, e)

pub stuck : NoWayOut
stuck = record {
  levels = record {
    parameters = two (λ j. _) (omega (arith, ints)) (omega (arith, ints));
    low = two (λ j. _) (omega (arith, ints)) (omega (arith, ints));
    rise = λ j low. below_one (λ k. IsBelow (level_at level_of_nothing.levels (suc k)) (level_at level_of_nothing.levels (suc (suc k)))) (omega (arith, ints)) j (omega (arith, low));
  };
  groups = record {
    full = refl;
    low = triple (λ v. _) (omega (arith, ints)) (omega (arith, ints)) (omega (arith, ints));
    high = triple (λ v. _) (omega (arith, ints)) (omega (arith, ints)) (omega (arith, ints));
    sources = triple (λ v. _) (λ h. omega (arith, ints)) (λ h. omega (arith, ints)) (λ h. absurd (omega (arith, ints, h)));
    some = two (λ j. _)
        (record { node = 0; there = omega arith; source = omega (arith, ints); group_is = refl })
        (record { node = 1; there = omega arith; source = omega (arith, ints); group_is = refl });
    sink = refl;
  };
  flow = record {
    full = refl;
    low = below_one (λ i. _) (omega (arith, ints));
    high = below_one (λ i. _) (omega (arith, ints));
    upward = below_one (λ i. _) (λ h. refl);
    downward = below_one (λ i. _) (λ h. absurd (omega (arith, h)));
    kept = triple (λ v. _) (λ h. refl) (λ h. refl) (λ h. absurd (h refl));
  };
}

pub in_thirds : Thirds
in_thirds = record {
  levels = record {
    parameters = below_one (λ j. _) (omega (arith, ints));
    low = below_one (λ j. _) (omega (arith, ints));
    rise = λ j low. absurd (omega (arith, low));
  };
  groups = record {
    full = refl;
    low = each_of_four (λ v. _) (omega (arith, ints)) (omega (arith, ints)) (omega (arith, ints)) (omega (arith, ints));
    high = each_of_four (λ v. _) (omega (arith, ints)) (omega (arith, ints)) (omega (arith, ints)) (omega (arith, ints));
    sources = each_of_four (λ v. _) (λ h. omega (arith, ints)) (λ h. omega (arith, ints)) (λ h. omega (arith, ints)) (λ h. absurd (omega (arith, ints, h)));
    some = below_one (λ j. _) (record { node = 0; there = omega arith; source = omega (arith, ints); group_is = refl });
    sink = refl;
  };
  flow = record {
    full = refl;
    low = triple (λ i. _) (omega (arith, ints)) (omega (arith, ints)) (omega (arith, ints));
    high = triple (λ i. _) (omega (arith, ints)) (omega (arith, ints)) (omega (arith, ints));
    upward = triple (λ i. _) (λ h. absurd (omega (arith, h))) (λ h. absurd (omega (arith, h))) (λ h. refl);
    downward = triple (λ i. _) (λ h. absurd (omega (arith, h))) (λ h. absurd (omega (arith, h))) (λ h. absurd (omega (arith, h)));
    kept = each_of_four (λ v. _) (λ h. refl) (λ h. refl) (λ h. refl) (λ h. absurd (h refl));
  };
}

-- the second source can have 4
whole : IsInUnit narrow_arc (pos 1) (fraction 1 1 ∷ (fraction 1 1 ∷ (fraction 0 1 ∷ (fraction 0 1 ∷ [])))) (four 1 1 0 0)
whole = record {
  unit = omega (arith, ints);
  full = refl;
  each = each_of_four (λ v. _) refl refl refl refl;
}

more : IsFeasible narrow_arc (pos 1) (four 1 4 0 0)
more = record {
  full = refl;
  low = each_of_four (λ v. _) (omega (arith, ints)) (omega (arith, ints)) (omega (arith, ints)) (omega (arith, ints));
  sources = each_of_four (λ v. _) (λ e. absurd (omega (arith, ints, e))) (λ e. absurd (omega (arith, ints, e))) (λ e. refl) (λ e. refl);
  flow = three 1 4 5;
  carried = record {
    full = refl;
    low = triple (λ i. _) (omega (arith, ints)) (omega (arith, ints)) (omega (arith, ints));
    high = triple (λ i. _) (omega (arith, ints)) (omega (arith, ints)) (omega (arith, ints));
    kept = each_of_four (λ v. _) (λ h. refl) (λ h. refl) (λ h. refl) (λ h. absurd (h refl));
  };
}

no_less : (v : ℕ) → v < 4 → at_arc (four 1 4 0 0) v <ℤ at_arc (four 1 1 0 0) v → ⊥
no_less = each_of_four (λ v. _)
    (λ h. omega (arith, ints, h)) (λ h. omega (arith, ints, h)) (λ h. omega (arith, ints, h)) (λ h. omega (arith, ints, h))

pub one_level : OneLevel
one_level f =
    let h = f.fair (pos 1) (four 1 1 0 0) (four 1 4 0 0) whole more 1 (omega arith) (omega (arith, ints)) in
    no_less h.node h.there h.less
