-- The whole answer: its shape and its certificate, and the parts of the test.
use Rattle.std.proofs.Common.{◌≡◌, ℕ, ◌+◌, ◌<◌, ◌^◌, List, [], refl, arith, subst, zero-add}
use Rattle.std.specs.Prelude.{ℤ, ◌≤ℤ◌, pos}
use Rattle.std.proofs.lemmas.Int.{ints}
use Rattle.pf_model.specs.Fraction.{Fraction, IsParameter}
use Rattle.pf_frame.specs.Lending.{row_at}
use Rattle.pf_frame.specs.Numbers.{IsSized}
use Rattle.pf_frame.proofs.FlowTest.{sized_of_bounded}
use Rattle.pf_graph.specs.WeightedGraph.{WeightedGraph, digraph_of}
use Rattle.pf_graph.specs.Labels.{parts, IsPartition}
use Rattle.pf_graph.specs.Best.{crossing_of}
use Rattle.pf_graph.specs.Limits.{IsWithinLimits}
use Rattle.pf_forest.specs.Forest.{ForestState, IsSplit, AreSplits, AddsSplits, IsInRange, MeetsTotal}
use Rattle.pf_forest.proofs.Bounds.{range_bounded}
use Rattle.pf_strength.specs.Strength.{StrengthAnswer, FitsGraph, CertifiesStrength}
use Rattle.pf_strength.specs.Newton.{IsLast}
use Rattle.pf_strength.specs.Testing.{IsRatio}
use Rattle.pf_strength.proofs.Certificate.{worth_is}

abbrev pub answer_of : Fraction → List ℕ → List ℤ → List (List ℤ) → StrengthAnswer
answer_of x labels vector splits = record { level = x; parts = labels; vector = vector; splits = splits }

-- rows from the first one on
split_at : (g : WeightedGraph) (x : Fraction) (vector : List ℤ) (splits : List (List ℤ)) → AreSplits g x vector splits 0 g.nodes → (r : ℕ) → r < g.nodes →
    IsSplit (digraph_of g) x.p vector (row_at splits r) r
split_at g x vector splits a r low =
    let P : ℕ → Type 0 = λ k. IsSplit (digraph_of g) x.p vector (row_at splits k) r in
    subst P (zero-add r) (a.each r low)

pub sized_split : (g : WeightedGraph) (p : ℤ) (vector shares : List ℤ) (r : ℕ) → IsSized (digraph_of g) vector → IsSplit (digraph_of g) p vector shares r → IsSized (digraph_of g) shares
sized_split g p vector shares r v s = record {
  full = s.full;
  low = λ i low. let a = s.low i low in omega (arith, ints, a);
  high = λ i low. let a = s.high i low in let b = v.high i low in omega (arith, ints, a, b);
}

pub fits_of : (g : WeightedGraph) (x : Fraction) (labels : List ℕ) (forest : ForestState) (splits : List (List ℤ)) → IsWithinLimits g → IsLast g x labels forest →
    x.q ≤ℤ pos (2 ^ 46) → AddsSplits g x forest.vector [] splits g.nodes → FitsGraph g (answer_of x labels forest.vector splits)
fits_of g x labels forest splits limits last high adds =
    let v = sized_of_bounded (digraph_of g) forest.vector (range_bounded g x forest.vector limits last.ratio.parameter high last.range) in
    let rows = adds.rows in
    record {
      partition = last.partition;
      vector = v;
      rows = omega (arith, rows);
      splits = λ r low. sized_split g x.p forest.vector (row_at splits r) r v (split_at g x forest.vector splits adds.splits r low);
    }

pub certified_of : (g : WeightedGraph) (x : Fraction) (labels : List ℕ) (forest : ForestState) (splits : List (List ℤ)) → IsLast g x labels forest →
    AddsSplits g x forest.vector [] splits g.nodes → CertifiesStrength g (answer_of x labels forest.vector splits)
certified_of g x labels forest splits last adds = record {
  two = last.two;
  ratio = last.ratio.attained;
  forest = record {
    parameter = last.ratio.parameter;
    level = last.ratio.level;
    labels_full = last.partition.full;
    range = last.range;
    splits_are = split_at g x forest.vector splits adds.splits;
    sum = last.sum;
  };
}

-- the parts of the test make up the certificate, and the certificate has them
pub certified_from : (g : WeightedGraph) (a : StrengthAnswer) → IsPartition g.nodes a.parts → IsParameter a.level → IsRatio g a.level a.parts → IsInRange g a.level a.vector →
    MeetsTotal g a.level a.vector a.parts → AreSplits g a.level a.vector a.splits 0 g.nodes → CertifiesStrength g a
certified_from g a partition parameter ratio range sum splits =
    let e = worth_is (crossing_of g a.parts) a.level.q a.level.p (parts a.parts) in
    let none = ratio.none in
    record {
      two = ratio.two;
      ratio = omega (arith, ints, e, none);
      forest = record {
        parameter = parameter;
        level = ratio.level;
        labels_full = partition.full;
        range = range;
        splits_are = split_at g a.level a.vector a.splits splits;
        sum = sum;
      };
    }

pub splits_from : (g : WeightedGraph) (a : StrengthAnswer) → CertifiesStrength g a → AreSplits g a.level a.vector a.splits 0 g.nodes
splits_from g a c = record {
  each = λ r low.
      let P : ℕ → Type 0 = λ k. IsSplit (digraph_of g) a.level.p a.vector (row_at a.splits k) r in
      subst P (sym' r) (c.forest.splits_are r low);
}
  where
    sym' : (r : ℕ) → r ≡ 0 + r
    sym' r = omega arith

-- the same, of an answer that is known part by part
pub answer_seen : (a : StrengthAnswer) (x : Fraction) (labels : List ℕ) (vector : List ℤ) (splits : List (List ℤ)) → x ≡ a.level → labels ≡ a.parts → vector ≡ a.vector →
    splits ≡ a.splits → answer_of x labels vector splits ≡ a
answer_seen a x labels vector splits b c d e = rw (b, c, d, e) refl

pub adds_here : (g : WeightedGraph) (x : Fraction) (forest : ForestState) (old new : List (List ℤ)) → forest.graph ≡ g → old ≡ [] →
    AddsSplits forest.graph x forest.vector old new forest.graph.nodes → AddsSplits g x forest.vector [] new g.nodes
adds_here g x forest old new e f a =
    let P : WeightedGraph → Type 0 = λ h. AddsSplits h x forest.vector old new h.nodes in
    let Q : List (List ℤ) → Type 0 = λ t. AddsSplits g x forest.vector t new g.nodes in
    subst Q f (subst P e a)
