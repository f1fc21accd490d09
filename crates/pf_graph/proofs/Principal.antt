-- Partitions that are best at neighbouring levels make up the principal partition, and there is only one.
use Rattle.std.proofs.Common.{◌≡◌, ℕ, zero, suc, ◌+◌, ◌<◌, ◌≤◌, List, [], ◌∷◌, length, get_or, refl, arith, ap, sym, ◌∙◌, inl, inr, add-one, subst}
use Rattle.std.specs.Prelude.{◌+ℤ◌, ◌*ℤ◌, pos}
use Rattle.std.proofs.lemmas.Int.{ints}
use Rattle.std.proofs.lemmas.Bool.{cases_lt}
use Rattle.pf_model.specs.Fraction.{Fraction, IsParameter, IsBelow, IsAtMost}
use Rattle.pf_model.proofs.Integers.{mul_add, add_mul}
use Rattle.pf_model.proofs.Certificate.{at_most_reflexive}
use Rattle.pf_model.proofs.Unique.{below_or_at_most, below_then_at_most, at_most_then_below}
use Rattle.pf_model.proofs.Lowest.{same_fraction}
use Rattle.pf_graph.specs.WeightedGraph.{WeightedGraph, IsWeightedGraph}
use Rattle.pf_graph.specs.Labels.{parts, IsPartition, Refines}
use Rattle.pf_graph.specs.Best.{IsBest, level_zero, level_at, partition_at, IsInPiece, IsWithinPiece, IsLevels, IsPrincipal}
use Rattle.pf_graph.specs.Laws.{IsBestBetween, IsSamePrincipal, AreLowest}
use Rattle.pf_graph.proofs.Counting.{parts_most}
use Rattle.pf_graph.proofs.Refinement.{refinement}
use Rattle.pf_graph.proofs.Levels.{best_between, best_above, uncrossed_best, single_refines}
use Rattle.pf_graph.proofs.SamePartition.{same_partition}
use Rattle.pf_model.proofs.Facts.{below_at_most}

-- each partition is best at the left end of its piece
left_best : (g : WeightedGraph) (levels : List Fraction) (partitions : List (List ℕ)) → IsWeightedGraph g → IsBestBetween g levels partitions →
    (j : ℕ) → j ≤ length levels → IsBest g (level_at levels j) (partition_at partitions j)
left_best g levels partitions graph b zero low =
    uncrossed_best g level_zero (partition_at partitions 0) graph (b.levels_are.parameters 0 low) refl (b.levels_are.partition 0 low).full b.first
left_best g levels partitions graph b (suc j) low = rw add-one at (b.right j (omega arith))

-- and throughout it
piece_best : (g : WeightedGraph) (levels : List Fraction) (partitions : List (List ℕ)) → IsWeightedGraph g → IsBestBetween g levels partitions →
    (j : ℕ) (x : Fraction) → j ≤ length levels → IsInPiece levels j x → IsBest g x (partition_at partitions j)
piece_best g levels partitions graph b j x low piece =
    let at_left = left_best g levels partitions graph b j low in
    let pl = b.levels_are.parameters j low in
    elim (cases_lt j (length levels)) [
      | inl more ↦
          best_between g (level_at levels j) x (level_at levels (j + 1)) (partition_at partitions j) pl piece.parameter
          (b.levels_are.parameters (j + 1) (omega (arith, more))) piece.from (piece.to more) at_left (b.left j more)
      | inr last ↦
          let here : j ≡ length levels = omega (arith, low, last) in
          best_above g (level_at levels j) x (partition_at partitions j) pl piece.parameter piece.from
          (ap (λ k. parts (partition_at partitions k)) here ∙ b.last) at_left
    ]

-- strictly inside it no other is
piece_only : (g : WeightedGraph) (levels : List Fraction) (partitions : List (List ℕ)) → IsWeightedGraph g → IsBestBetween g levels partitions →
    (j : ℕ) (x : Fraction) (other : List ℕ) → j ≤ length levels → IsWithinPiece levels j x → IsPartition g.nodes other → IsBest g x other →
    other ≡ partition_at partitions j
piece_only g levels partitions graph b j x other low piece rule best =
    let d = partition_at partitions j in
    let own = b.levels_are.partition j low in
    let pl = b.levels_are.parameters j low in
    let to : Refines g.nodes other d =
    refinement g (level_at levels j) x d other graph pl piece.parameter piece.from (left_best g levels partitions graph b j low) best in
    let back : Refines g.nodes d other = elim (cases_lt j (length levels)) [
      | inl more ↦
          refinement g x (level_at levels (j + 1)) other d graph piece.parameter (b.levels_are.parameters (j + 1) (omega (arith, more)))
          (piece.to more) best (b.left j more)
      | inr last ↦
          let here : j ≡ length levels = omega (arith, low, last) in
          let single : parts d ≡ length d = ap (λ k. parts (partition_at partitions k)) here ∙ b.last ∙ sym own.full in
          (let P : ℕ → Type 0 = λ n. Refines n d other in subst P own.full (single_refines d other single))
    ] in
    same_partition g.nodes other d rule own (record { to = to; back = back })

pub principal_from_best : (g : WeightedGraph) (levels : List Fraction) (partitions : List (List ℕ)) → IsWeightedGraph g → IsBestBetween g levels partitions →
    IsPrincipal g levels partitions
principal_from_best g levels partitions graph b = record {
  levels_are = b.levels_are;
  best = piece_best g levels partitions graph b;
  only = piece_only g levels partitions graph b;
  parts_rise = b.parts_rise;
  refines = λ j low.
      refinement g (level_at levels j) (level_at levels (j + 1)) (partition_at partitions j) (partition_at partitions (j + 1)) graph
      (b.levels_are.parameters j (omega (arith, low))) (b.levels_are.parameters (j + 1) (omega (arith, low))) (b.levels_are.rise j low)
      (left_best g levels partitions graph b j (omega (arith, low))) (b.right j low);
  last = b.last;
}

-- a level strictly between two others
abbrev mediant : Fraction → Fraction → Fraction
mediant x y = record { p = x.p +ℤ y.p; q = x.q +ℤ y.q }

after_low : (x y : Fraction) → IsBelow x y → IsBelow x (mediant x y)
after_low x y h =
    let e = mul_add x.p x.q y.q in
    let f = add_mul x.p y.p x.q in
    omega (arith, ints, h, e, f)

before_high : (x y : Fraction) → IsBelow x y → IsBelow (mediant x y) y
before_high x y h =
    let e = add_mul x.p y.p y.q in
    let f = mul_add y.p x.q y.q in
    omega (arith, ints, h, e, f)

mediant_parameter : (x y : Fraction) → IsParameter x → IsParameter y → IsParameter (mediant x y)
mediant_parameter x y h k = omega (arith, ints, h, k)

-- a level above all
abbrev further : Fraction → Fraction
further x = record { p = x.p +ℤ pos 1; q = x.q }

further_above : (x : Fraction) → IsParameter x → IsBelow x (further x)
further_above x h =
    let e = add_mul x.p (pos 1) x.q in
    let one : pos 1 *ℤ x.q ≡ x.q = omega (arith, ints) in
    omega (arith, ints, h, e, one)

-- a level strictly inside two pieces that begin together
record IsInBoth (levels levels' : List Fraction) (j : ℕ) : Type 0 where
  at : Fraction
  first : IsWithinPiece levels j at
  second : IsWithinPiece levels' j at

record BeginTogether (nodes : ℕ) (levels levels' : List Fraction) (partitions partitions' : List (List ℕ)) (j : ℕ) : Type 0 where
  low : j ≤ length levels
  low' : j ≤ length levels'
  are : IsLevels nodes levels partitions
  are' : IsLevels nodes levels' partitions'
  to : IsAtMost (level_at levels j) (level_at levels' j)
  back : IsAtMost (level_at levels' j) (level_at levels j)

turned : (nodes : ℕ) (levels levels' : List Fraction) (partitions partitions' : List (List ℕ)) (j : ℕ) →
    BeginTogether nodes levels levels' partitions partitions' j → BeginTogether nodes levels' levels partitions' partitions j
turned nodes levels levels' partitions partitions' j t = record { low = t.low'; low' = t.low; are = t.are'; are' = t.are; to = t.back; back = t.to }

-- where the first piece ends, and the second does not end before
in_first : (nodes : ℕ) (levels levels' : List Fraction) (partitions partitions' : List (List ℕ)) (j : ℕ) →
    BeginTogether nodes levels levels' partitions partitions' j → (more : j < length levels) →
    (j < length levels' → IsAtMost (level_at levels (j + 1)) (level_at levels' (j + 1))) → IsInBoth levels levels' j
in_first nodes levels levels' partitions partitions' j t more order =
    let l = level_at levels j in
    let h = level_at levels (j + 1) in
    let pl = t.are.parameters j t.low in
    let pl' = t.are'.parameters j t.low' in
    let ph = t.are.parameters (j + 1) (omega (arith, more)) in
    let m = mediant l h in
    let pm = mediant_parameter l h pl ph in
    let rise = t.are.rise j more in
    record {
      at = m;
      first = record { parameter = pm; from = after_low l h rise; to = λ less. before_high l h rise };
      second = record {
        parameter = pm;
        from = at_most_then_below (level_at levels' j) l m pl' pl pm t.back (after_low l h rise);
        to = λ less.
            below_then_at_most m h (level_at levels' (j + 1)) pm ph (t.are'.parameters (j + 1) (omega (arith, less))) (before_high l h rise) (order less);
      };
    }

in_last : (nodes : ℕ) (levels levels' : List Fraction) (partitions partitions' : List (List ℕ)) (j : ℕ) →
    BeginTogether nodes levels levels' partitions partitions' j → length levels ≤ j → length levels' ≤ j → IsInBoth levels levels' j
in_last nodes levels levels' partitions partitions' j t last last' =
    let l = level_at levels j in
    let pl = t.are.parameters j t.low in
    let pl' = t.are'.parameters j t.low' in
    let pm : IsParameter (further l) = pl in
    record {
      at = further l;
      first = record { parameter = pm; from = further_above l pl; to = λ less. absurd (omega (arith, less, last)) };
      second = record {
        parameter = pm;
        from = at_most_then_below (level_at levels' j) l (further l) pl' pl pm t.back (further_above l pl);
        to = λ less. absurd (omega (arith, less, last'));
      };
    }

swapped : (levels levels' : List Fraction) (j : ℕ) → IsInBoth levels levels' j → IsInBoth levels' levels j
swapped levels levels' j b = record { at = b.at; first = b.second; second = b.first }

in_both : (nodes : ℕ) (levels levels' : List Fraction) (partitions partitions' : List (List ℕ)) (j : ℕ) →
    BeginTogether nodes levels levels' partitions partitions' j → IsInBoth levels levels' j
in_both nodes levels levels' partitions partitions' j t = elim (cases_lt j (length levels)) [
  | inl more ↦ elim (cases_lt j (length levels')) [
    | inl more' ↦ elim (below_or_at_most (level_at levels' (j + 1)) (level_at levels (j + 1))) [
      | inl less ↦
          swapped levels' levels j
          (in_first nodes levels' levels partitions' partitions j (turned nodes levels levels' partitions partitions' j t) more'
          (λ low. below_at_most (level_at levels' (j + 1)) (level_at levels (j + 1)) less))
      | inr most ↦ in_first nodes levels levels' partitions partitions' j t more (λ low. most)
    ]
    | inr last' ↦ in_first nodes levels levels' partitions partitions' j t more (λ low. absurd (omega (arith, low, last')))
  ]
  | inr last ↦ elim (cases_lt j (length levels')) [
    | inl more' ↦
        swapped levels' levels j
        (in_first nodes levels' levels partitions' partitions j (turned nodes levels levels' partitions partitions' j t) more' (λ low. absurd (omega (arith, low, last))))
    | inr last' ↦ in_last nodes levels levels' partitions partitions' j t last last'
  ]
]

within_in : (levels : List Fraction) (j : ℕ) (x : Fraction) → IsWithinPiece levels j x → IsInPiece levels j x
within_in levels j x w = record {
  parameter = w.parameter;
  from = below_at_most (level_at levels j) x w.from;
  to = λ less. below_at_most x (level_at levels (j + 1)) (w.to less);
}

-- so the partitions of the two pieces are the same
same_piece : (g : WeightedGraph) (levels levels' : List Fraction) (partitions partitions' : List (List ℕ)) (j : ℕ) →
    IsPrincipal g levels partitions → IsPrincipal g levels' partitions' → BeginTogether g.nodes levels levels' partitions partitions' j →
    partition_at partitions j ≡ partition_at partitions' j
same_piece g levels levels' partitions partitions' j p p' t =
    let b = in_both g.nodes levels levels' partitions partitions' j t in
    p'.only j b.at (partition_at partitions j) t.low' b.second (t.are.partition j t.low) (p.best j b.at t.low (within_in levels j b.at b.first))

-- a piece that goes on has fewer parts than vertices
goes_on : (g : WeightedGraph) (levels : List Fraction) (partitions : List (List ℕ)) (j : ℕ) → IsPrincipal g levels partitions → j < length levels →
    parts (partition_at partitions j) < g.nodes
goes_on g levels partitions j p low =
    let more = p.parts_rise j low in
    let most = parts_most (partition_at partitions (j + 1)) in
    let full = (p.levels_are.partition (j + 1) (omega (arith, low))).full in
    omega (arith, more, most, full)

-- so both go on or none does
both_go_on : (g : WeightedGraph) (levels levels' : List Fraction) (partitions partitions' : List (List ℕ)) (j : ℕ) →
    IsPrincipal g levels partitions → IsPrincipal g levels' partitions' → BeginTogether g.nodes levels levels' partitions partitions' j →
    j < length levels → j < length levels'
both_go_on g levels levels' partitions partitions' j p p' t more = elim (cases_lt j (length levels')) [
  | inl less ↦ less
  | inr last ↦
      let same = ap parts (same_piece g levels levels' partitions partitions' j p p' t) in
      let few = goes_on g levels partitions j p more in
      let low = t.low' in
      let here : j ≡ length levels' = omega (arith, last, low) in
      let whole = ap (λ k. parts (partition_at partitions' k)) here ∙ p'.last in
      absurd (omega (arith, same, few, whole))
]

-- and the next level of the one is not below that of the other
not_before : (g : WeightedGraph) (levels levels' : List Fraction) (partitions partitions' : List (List ℕ)) (j : ℕ) →
    IsPrincipal g levels partitions → IsPrincipal g levels' partitions' → BeginTogether g.nodes levels levels' partitions partitions' j →
    j < length levels → IsBelow (level_at levels (j + 1)) (level_at levels' (j + 1)) → ⊥
not_before g levels levels' partitions partitions' j p p' t more less =
    let h = level_at levels (j + 1) in
    let ph = t.are.parameters (j + 1) (omega (arith, more)) in
    let next_low : j + 1 ≤ length levels = omega (arith, more) in
    let best : IsBest g h (partition_at partitions (j + 1)) =
    p.best (j + 1) h next_low (record {
      parameter = ph;
      from = at_most_reflexive h;
      to = λ again. below_at_most h (level_at levels (j + 1 + 1)) (t.are.rise (j + 1) again);
    }) in
    let within : IsWithinPiece levels' j h = record {
      parameter = ph;
      from = at_most_then_below (level_at levels' j) (level_at levels j) h (t.are'.parameters j t.low') (t.are.parameters j t.low) ph t.back (t.are.rise j more);
      to = λ low. less;
    } in
    let next = p'.only j h (partition_at partitions (j + 1)) t.low' within (t.are.partition (j + 1) next_low) best in
    let now = same_piece g levels levels' partitions partitions' j p p' t in
    let rise = p.parts_rise j more in
    let same = ap parts (next ∙ sym now) in
    omega (arith, rise, same)

next_together : (g : WeightedGraph) (levels levels' : List Fraction) (partitions partitions' : List (List ℕ)) (j : ℕ) →
    IsPrincipal g levels partitions → IsPrincipal g levels' partitions' → BeginTogether g.nodes levels levels' partitions partitions' j →
    j < length levels → BeginTogether g.nodes levels levels' partitions partitions' (j + 1)
next_together g levels levels' partitions partitions' j p p' t more =
    let other = turned g.nodes levels levels' partitions partitions' j t in
    let more' = both_go_on g levels levels' partitions partitions' j p p' t more in
    let h = level_at levels (j + 1) in
    let h' = level_at levels' (j + 1) in
    record {
      low = omega (arith, more);
      low' = omega (arith, more');
      are = t.are;
      are' = t.are';
      to = elim (below_or_at_most h' h) [
        | inl less ↦ absurd (not_before g levels' levels partitions' partitions j p' p other more' less)
        | inr most ↦ most
      ];
      back = elim (below_or_at_most h h') [
        | inl less ↦ absurd (not_before g levels levels' partitions partitions' j p p' t more less)
        | inr most ↦ most
      ];
    }

all_together : (g : WeightedGraph) (levels levels' : List Fraction) (partitions partitions' : List (List ℕ)) → IsPrincipal g levels partitions →
    IsPrincipal g levels' partitions' → (j : ℕ) → j ≤ length levels → BeginTogether g.nodes levels levels' partitions partitions' j
all_together g levels levels' partitions partitions' p p' zero low = record {
  low = low;
  low' = omega arith;
  are = p.levels_are;
  are' = p'.levels_are;
  to = at_most_reflexive level_zero;
  back = at_most_reflexive level_zero;
}
all_together g levels levels' partitions partitions' p p' (suc j) low =
    rw add-one at (next_together g levels levels' partitions partitions' j p p' (all_together g levels levels' partitions partitions' p p' j (omega arith)) (omega arith))

-- two principal partitions of a graph have equal levels and the same partitions
pub principal_unique : (g : WeightedGraph) (levels levels' : List Fraction) (partitions partitions' : List (List ℕ)) → IsPrincipal g levels partitions →
    IsPrincipal g levels' partitions' → IsSamePrincipal levels levels' partitions partitions'
principal_unique g levels levels' partitions partitions' p p' =
    let here = all_together g levels levels' partitions partitions' p p' in
    let back = all_together g levels' levels partitions' partitions p' p in
    let low = (here (length levels) (omega arith)).low' in
    let low' = (back (length levels') (omega arith)).low' in
    record {
      count = omega (arith, low, low');
      levels_are = λ j k.
          let t = here j k in
          let a = t.to in
          let b = t.back in
          omega (arith, ints, a, b);
      partitions_are = λ j k. same_piece g levels levels' partitions partitions' j p p' (here j k);
    }

same_elements : {X : Type 0} (d : X) (xs ys : List X) → length xs ≡ length ys → ((i : ℕ) → i < length xs → get_or xs i d ≡ get_or ys i d) → xs ≡ ys
same_elements d [] [] full h = refl
same_elements d [] (y ∷ ys) full h = absurd (omega arith)
same_elements d (x ∷ xs) [] full h = absurd (omega arith)
same_elements d (x ∷ xs) (y ∷ ys) full h =
    let here : x ≡ y = h 0 (omega arith) in
    let rest = same_elements d xs ys (omega arith) (λ i low. h (suc i) (omega arith)) in
    ap (λ k. k ∷ xs) here ∙ ap (λ zs. y ∷ zs) rest

-- and in lowest terms they are written the same
pub principal_lowest : (g : WeightedGraph) (levels levels' : List Fraction) (partitions partitions' : List (List ℕ)) → IsPrincipal g levels partitions →
    IsPrincipal g levels' partitions' → AreLowest levels → AreLowest levels' → (levels ≡ levels') × (partitions ≡ partitions')
principal_lowest g levels levels' partitions partitions' p p' terms terms' =
    let same = principal_unique g levels levels' partitions partitions' p p' in
    let long = same.count in
    let count = p.levels_are.count in
    let count' = p'.levels_are.count in (
      same_elements level_zero levels levels' long
          (λ i low.
          let k : suc i ≤ length levels = omega (arith, low) in
          let k' : suc i ≤ length levels' = omega (arith, low, long) in
          same_fraction (level_at levels (suc i)) (level_at levels' (suc i)) (p.levels_are.parameters (suc i) k) (p'.levels_are.parameters (suc i) k')
          (rw add-one at (terms.each i low)) (rw add-one at (terms'.each i (omega (arith, low, long)))) (same.levels_are (suc i) k)),
      same_elements [] partitions partitions' (omega (arith, count, count', long)) (λ i low. same.partitions_are i (omega (arith, low, count))),
    )
