-- Strengths worked by hand, with what certifies them.
use Rattle.std.specs.Prelude.{◌≡◌, ℕ, pos, ℤ, List, [], ◌∷◌, ◌++◌, codes}
use Rattle.pf_graph.specs.WeightedGraph.{WeightedGraph}
use Rattle.pf_graph.specs.Worked.{fraction, triangle, three}
use Rattle.pf_strength.specs.Strength.{StrengthAnswer, CertifiesStrength}
use Rattle.pf_strength.specs.Text.{strength_text}

abbrev pub numbers : ℕ → ℕ → ℕ → List ℤ
numbers a b c = pos a ∷ (pos b ∷ (pos c ∷ []))

-- a triangle of edges of weight 1: three parts, and 2 halves on each edge; the first number of the vector and of the first split are given
abbrev pub triangle_answer : ℕ → ℕ → StrengthAnswer
triangle_answer y x = record {
  level = fraction 3 2;
  parts = three 1 2 3;
  vector = numbers y 2 2;
  splits = numbers x 1 0 ∷ (numbers 2 0 1 ∷ (numbers 1 2 2 ∷ []));
}

abbrev pub TriangleIsCertified : Type 0
TriangleIsCertified = CertifiesStrength triangle (triangle_answer 2 0)

-- as a text
abbrev pub TriangleText : Type 0
TriangleText = strength_text (triangle_answer 2 0) ≡
    codes "o strength" ++ 10 ∷ codes "d 3 2" ++ 10 ∷ codes "k 3" ++ 10 ∷ codes "s 1 2 3" ++ 10 ∷ codes "y 2 2 2" ++ 10 ∷
    codes "r 1 0 1 0" ++ 10 ∷ codes "r 2 2 0 1" ++ 10 ∷ codes "r 3 1 2 2" ++ 10 ∷ codes "end" ++ 10 ∷ []

-- with 3 halves the first edge has more than its weight
abbrev pub RaisedPastWeight : Type 0
RaisedPastWeight = CertifiesStrength triangle (triangle_answer 3 0) → ⊥

-- with one half to its first end the first edge charges the first root
abbrev pub ChargedRoot : Type 0
ChargedRoot = CertifiesStrength triangle (triangle_answer 2 1) → ⊥

-- the level 2 is the ratio of two parts, but 1 on each edge, the most that it may have, does not add up to what they need
abbrev pub loose_answer : StrengthAnswer
loose_answer = record {
  level = fraction 2 1;
  parts = three 1 2 2;
  vector = numbers 1 1 1;
  splits = numbers 0 1 0 ∷ (numbers 1 0 0 ∷ (numbers 1 1 1 ∷ []));
}

abbrev pub LoosePart : Type 0
LoosePart = CertifiesStrength triangle loose_answer → ⊥

-- two edges that are not connected
abbrev pub two_pairs : WeightedGraph
two_pairs = record {
  nodes = 4;
  ends = (0, 1) ∷ ((2, 3) ∷ []);
  weights = pos 1 ∷ (pos 1 ∷ []);
  costs = pos 1 ∷ (pos 1 ∷ (pos 1 ∷ (pos 1 ∷ [])));
  prices = pos 1 ∷ (pos 1 ∷ []);
}

abbrev pub none : List ℤ
none = pos 0 ∷ (pos 0 ∷ [])

abbrev pub pairs_answer : ℕ → StrengthAnswer
pairs_answer other = record {
  level = fraction 0 1;
  parts = 1 ∷ (1 ∷ (other ∷ (other ∷ [])));
  vector = none;
  splits = none ∷ (none ∷ (none ∷ (none ∷ [])));
}

abbrev pub PairsAreCertified : Type 0
PairsAreCertified = CertifiesStrength two_pairs (pairs_answer 2)

-- one part is no answer, though no edge crosses it
abbrev pub OnePart : Type 0
OnePart = CertifiesStrength two_pairs (pairs_answer 1) → ⊥

-- two vertices, and an edge of the greatest weight
abbrev pub heavy_edge : WeightedGraph
heavy_edge = record {
  nodes = 2;
  ends = (0, 1) ∷ [];
  weights = pos 1000000 ∷ [];
  costs = pos 1 ∷ (pos 1 ∷ []);
  prices = pos 1 ∷ [];
}

abbrev pub heavy_answer : StrengthAnswer
heavy_answer = record {
  level = fraction 1000000 1;
  parts = 1 ∷ (2 ∷ []);
  vector = pos 1000000 ∷ [];
  splits = (pos 0 ∷ []) ∷ ((pos 1000000 ∷ []) ∷ []);
}

abbrev pub HeavyIsCertified : Type 0
HeavyIsCertified = CertifiesStrength heavy_edge heavy_answer

-- two edges of weight 1 in a row
abbrev pub row : WeightedGraph
row = record {
  nodes = 3;
  ends = (0, 1) ∷ ((1, 2) ∷ []);
  weights = pos 1 ∷ (pos 1 ∷ []);
  costs = pos 1 ∷ (pos 1 ∷ (pos 1 ∷ []));
  prices = pos 1 ∷ (pos 1 ∷ []);
}

abbrev pub pair : ℕ → ℕ → List ℤ
pair a b = pos a ∷ (pos b ∷ [])

abbrev pub row_answer : ℕ → ℕ → StrengthAnswer
row_answer middle last = record {
  level = fraction 1 1;
  parts = three 1 middle last;
  vector = pair 1 1;
  splits = pair 0 0 ∷ (pair 1 0 ∷ (pair 1 1 ∷ []));
}

-- the cut at either edge attains the strength, so the partition is not the only one
abbrev pub FirstEdgeCuts : Type 0
FirstEdgeCuts = CertifiesStrength row (row_answer 2 2)

abbrev pub SecondEdgeCuts : Type 0
SecondEdgeCuts = CertifiesStrength row (row_answer 1 2)
