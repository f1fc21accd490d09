-- Vectors and splits, level by level, and the certificate that they make up.
use Rattle.std.proofs.Common.{◌≡◌, ℕ, ◌+◌, ◌-◌, ◌*◌, ◌<◌, ◌≤◌, List, [], ◌∷◌, ◌++◌, length, arith, ap, sym, ◌∙◌, subst, inl, inr, below_more}
use Rattle.std.specs.Prelude.{ℤ}
use Rattle.std.proofs.lemmas.Int.{ints}
use Rattle.std.proofs.lemmas.Bool.{cases_lt}
use Rattle.std.proofs.lemmas.List.{length_push, get_or_at, get_or_append_left}
use Rattle.std.proofs.Math.Nat.{mul-le-mul_right, add-mul, one-mul, zero-mul}
use Rattle.pf_model.specs.Answer.{IsFractionShape}
use Rattle.pf_model.specs.Fraction.{Fraction}
use Rattle.pf_frame.specs.Lending.{row_at}
use Rattle.pf_frame.specs.Numbers.{IsSized}
use Rattle.pf_frame.proofs.FlowTest.{sized_of_bounded}
use Rattle.pf_graph.specs.WeightedGraph.{WeightedGraph, digraph_of}
use Rattle.pf_graph.specs.Labels.{parts}
use Rattle.pf_graph.specs.Limits.{IsWithinLimits}
use Rattle.pf_graph.specs.Best.{crossing_of, IsBest, level_at, partition_at}
use Rattle.pf_forest.specs.Forest.{IsSplit, IsFilled, MeetsTotal, AreSplits, AddsSplits}
use Rattle.pf_forest.proofs.Bounds.{range_bounded}
use Rattle.pf_forest.proofs.Law.{worth_of}
use Rattle.pf_strength.proofs.Whole.{sized_split}
use Rattle.pf_principal.specs.Principal.{PrincipalAnswer, FitsGraph, CertifiesPrincipal, MeetsLevel}
use Rattle.pf_principal.specs.Rows.{AddsLevel, IsFilledRow, AreFilled}
use Rattle.pf_principal.proofs.BestLines.{AreBest}

-- ---- what is there of two best partitions at one level

-- a partition that is best where the forest is filled has the sum of the vector
pub sum_of_best : (g : WeightedGraph) (x : Fraction) (vector : List ℤ) (labels best : List ℕ) → IsFilled g x vector labels → IsBest g x best → MeetsTotal g x vector best
sum_of_best g x vector labels best filled b =
    let most = filled.best.least best b.full in
    let least = b.least labels filled.best.full in
    let here = worth_of (crossing_of g labels) x.q x.p g.nodes (parts labels) in
    let there = worth_of (crossing_of g best) x.q x.p g.nodes (parts best) in
    let sum = filled.keeps.sum.total_is in
    record { total_is = omega (arith, ints, most, least, here, there, sum) }

-- ---- a level more

rows_more : (n i : ℕ) → (i + 1) * n ≡ i * n + n
rows_more n i = let more = add-mul i 1 n in let one = one-mul n in omega (arith, more, one)

pub filled_begins : (g : WeightedGraph) (levels : List Fraction) (vectors splits : List (List ℤ)) → vectors ≡ [] → splits ≡ [] → AreFilled g levels vectors splits 0
filled_begins g levels vectors splits e f = record {
  vector_rows = ap length e;
  split_rows = ap length f ∙ sym (zero-mul g.nodes);
  each = λ j low. absurd (omega (arith, low));
  vectors_sized = λ j low. let none = ap length e in absurd (omega (arith, low, none));
  splits_sized = λ j low. let none = ap length f in absurd (omega (arith, low, none));
}

-- rows that stay are splits as before
splits_kept : (g : WeightedGraph) (x : Fraction) (vector : List ℤ) (old new : List (List ℤ)) (first : ℕ) → ((k : ℕ) → k < length old → row_at new k ≡ row_at old k) →
    first + g.nodes ≤ length old → AreSplits g x vector old first g.nodes → AreSplits g x vector new first g.nodes
splits_kept g x vector old new first kept most a = record {
  each = λ r low.
      let P : List ℤ → Type 0 = λ s. IsSplit (digraph_of g) x.p vector s r in
      subst P (sym (kept (first + r) (omega (arith, low, most)))) (a.each r low);
}

-- the numbers of the vector are of the right size, and those of its splits are not greater
vector_sized : (g : WeightedGraph) (x : Fraction) (labels : List ℕ) (numbers : List ℤ) → IsWithinLimits g → IsFractionShape x → IsFilled g x numbers labels → IsSized (digraph_of g) numbers
vector_sized g x labels numbers limits shape filled =
    sized_of_bounded (digraph_of g) numbers (range_bounded g x numbers limits filled.keeps.parameter shape.bounds.q_high filled.range)

-- what is filled and pushed at a level
pub adds_level : (g found : WeightedGraph) (x : Fraction) (vector pushed : List ℤ) (labels : List ℕ) (vectors vectors_now splits splits_now : List (List ℤ)) → found ≡ g → IsWithinLimits found →
    IsFractionShape x → IsFilled found x vector labels → pushed ≡ vector → vectors_now ≡ vectors ++ pushed ∷ [] → AddsSplits found x vector splits splits_now found.nodes →
    AddsLevel g x vectors vectors_now splits splits_now
adds_level g found x vector pushed labels vectors vectors_now splits splits_now is limits shape filled same added more =
    let P : WeightedGraph → Type 0 = λ h. AddsLevel h x vectors vectors_now splits splits_now in
    subst P is (record {
      vector = vector;
      labels = labels;
      filled = filled;
      sized = vector_sized found x labels vector limits shape filled;
      vectors_are = added ∙ ap (λ (v : List ℤ). vectors ++ v ∷ []) same;
      splits_are = more;
    })

-- the last row of the vectors
last_row : (rows : List (List ℤ)) (row : List ℤ) (new : List (List ℤ)) (i : ℕ) → length rows ≡ i → new ≡ rows ++ row ∷ [] → row_at new i ≡ row
last_row rows row new i full e = ap (λ (t : List (List ℤ)). row_at t i) e ∙ get_or_at rows row [] [] i full

-- and those before it
row_kept : (rows : List (List ℤ)) (row : List ℤ) (new : List (List ℤ)) (j : ℕ) → j < length rows → new ≡ rows ++ row ∷ [] → row_at new j ≡ row_at rows j
row_kept rows row new j low e = ap (λ (t : List (List ℤ)). row_at t j) e ∙ get_or_append_left rows (row ∷ []) [] j low

pub filled_goes_on : (g : WeightedGraph) (levels : List Fraction) (x : Fraction) (vectors vectors_now splits splits_now : List (List ℤ)) (i : ℕ) →
    AreFilled g levels vectors splits i → x ≡ level_at levels (i + 1) → AddsLevel g x vectors vectors_now splits splits_now → AreFilled g levels vectors_now splits_now (i + 1)
filled_goes_on g levels x vectors vectors_now splits splits_now i f e a =
    let added = a.splits_are in
    let rows = f.split_rows in
    let vector_rows = f.vector_rows in
    let more = rows_more g.nodes i in
    let split_rows = added.rows in
    let count = ap length a.vectors_are ∙ length_push vectors a.vector in
    let last = last_row vectors a.vector vectors_now i vector_rows a.vectors_are in
    let S : List ℤ → Type 0 = λ s. IsSized (digraph_of g) s in
    record {
      vector_rows = omega (arith, count, vector_rows);
      split_rows = omega (arith, split_rows, rows, more);
      each = below_more (λ j. IsFilledRow g (level_at levels (j + 1)) (row_at vectors_now j) splits_now (j * g.nodes)) i
          (λ j low.
          let before = f.each j low in
          let same = row_kept vectors a.vector vectors_now j (omega (arith, low, vector_rows)) a.vectors_are in
          let below : j + 1 ≤ i = omega arith in
          let most = mul-le-mul_right g.nodes below in
          let next = rows_more g.nodes j in
          let P : List ℤ → Type 0 = λ v. IsFilledRow g (level_at levels (j + 1)) v splits_now (j * g.nodes) in
          subst P (sym same) (record {
            labels = before.labels;
            filled = before.filled;
            splits_are = splits_kept g (level_at levels (j + 1)) (row_at vectors j) splits splits_now (j * g.nodes) added.kept (omega (arith, most, next, rows)) before.splits_are;
          }))
          (let P : Fraction → Type 0 = λ y. IsFilledRow g y (row_at vectors_now i) splits_now (i * g.nodes) in
          let Q : List ℤ → Type 0 = λ v. IsFilledRow g x v splits_now (i * g.nodes) in
          let R : ℕ → Type 0 = λ k. AreSplits g x a.vector splits_now k g.nodes in
          subst P e (subst Q (sym last) (record { labels = a.labels; filled = a.filled; splits_are = subst R rows added.splits })));
      vectors_sized = λ j low. elim (cases_lt j i) [
        | inl less ↦
            subst S (sym (row_kept vectors a.vector vectors_now j (omega (arith, less, vector_rows)) a.vectors_are)) (f.vectors_sized j (omega (arith, less, vector_rows)))
        | inr here ↦
            let same : j ≡ i = omega (arith, here, low, count, vector_rows) in
            let P : ℕ → Type 0 = λ k. S (row_at vectors_now k) in
            subst P (sym same) (subst S (sym last) a.sized)
      ];
      splits_sized = λ k low. elim (cases_lt k (length splits)) [
        | inl less ↦ subst S (sym (added.kept k less)) (f.splits_sized k less)
        | inr here ↦
            let r = k - length splits in
            let same : length splits + r ≡ k = omega (arith, here) in
            let few : r < g.nodes = omega (arith, low, split_rows, same) in
            let P : ℕ → Type 0 = λ j. S (row_at splits_now j) in
            subst P same (sized_split g x.p a.vector (row_at splits_now (length splits + r)) r a.sized (added.splits.each r few))
      ];
    }

-- ---- the whole answer

abbrev pub answer_of : List Fraction → List (List ℕ) → List (List ℤ) → List (List ℤ) → PrincipalAnswer
answer_of levels partitions vectors splits = record { levels = levels; partitions = partitions; vectors = vectors; splits = splits }

meets : (g : WeightedGraph) (a : PrincipalAnswer) (j i : ℕ) → IsFilledRow g (level_at a.levels (j + 1)) (row_at a.vectors j) a.splits (j * g.nodes) →
    IsBest g (level_at a.levels (j + 1)) (partition_at a.partitions i) → MeetsLevel g a j i
meets g a j i f best = record {
  parameter = f.filled.keeps.parameter;
  level = f.filled.keeps.level;
  labels_full = best.full;
  range = f.filled.range;
  splits_are = f.splits_are.each;
  sum = sum_of_best g (level_at a.levels (j + 1)) (row_at a.vectors j) f.labels (partition_at a.partitions i) f.filled best;
}

pub certified_of : (g : WeightedGraph) (a : PrincipalAnswer) → AreBest g a.levels a.partitions → AreFilled g a.levels a.vectors a.splits (length a.levels) → CertifiesPrincipal g a
certified_of g a b f = record {
  rise = b.rise;
  parts_rise = b.parts_rise;
  first = b.first;
  last = b.last;
  left = λ j low. meets g a j j (f.each j low) (b.left j low);
  right = λ j low. meets g a j (j + 1) (f.each j low) (b.right j low);
}

pub fits_of : (g : WeightedGraph) (a : PrincipalAnswer) → AreBest g a.levels a.partitions → AreFilled g a.levels a.vectors a.splits (length a.levels) → FitsGraph g a
fits_of g a b f = record {
  count = b.count;
  partition = b.partition;
  vector_rows = f.vector_rows;
  vectors = λ j low. let rows = f.vector_rows in f.vectors_sized j (omega (arith, low, rows));
  split_rows = f.split_rows;
  splits = f.splits_sized;
}

-- the answer of the parts that were found, as the code has them: the tables are those of the graph `found`, which is this one
pub record IsAnswer (g : WeightedGraph) (a : PrincipalAnswer) : Type 0 where
  pub best : AreBest g a.levels a.partitions
  pub filled : AreFilled g a.levels a.vectors a.splits (length a.levels)

pub is_answer : (g found : WeightedGraph) (levels got : List Fraction) (partitions : List (List ℕ)) (vectors splits : List (List ℤ)) (a : PrincipalAnswer) → AreBest g levels partitions →
    found ≡ g → got ≡ levels → AreFilled found got vectors splits (length got) → a ≡ answer_of levels partitions vectors splits → IsAnswer g a
is_answer g found levels got partitions vectors splits a best is_found is_got filled e =
    let here : AreFilled g levels vectors splits (length levels) = rw (is_found, is_got) at filled in
    rw e (record { best = best; filled = here })

-- as the code calls it
pub filled_in : (g : WeightedGraph) (levels got : List Fraction) (partitions : List (List ℕ)) (vectors splits : List (List ℤ)) (a : PrincipalAnswer) → got ≡ levels →
    AreFilled g got vectors splits (length got) → a ≡ answer_of levels partitions vectors splits →
    AreFilled g levels a.vectors a.splits (length levels)
filled_in g levels got partitions vectors splits a is_levels filled e = rw (e, ← is_levels) filled
