-- Reinforcements worked by hand, with what certifies them.
use Rattle.std.specs.Prelude.{◌≡◌, ℕ, pos, ℤ, List, [], ◌∷◌, ◌++◌, codes}
use Rattle.pf_graph.specs.WeightedGraph.{WeightedGraph}
use Rattle.pf_graph.specs.Worked.{fraction, three}
use Rattle.pf_reinforce.specs.Reinforcement.{AddedAnswer, CertifiesReinforcement, IsBlocked}
use Rattle.pf_reinforce.specs.Text.{added_text, blocked_text}

abbrev pub numbers : ℕ → ℕ → ℕ → List ℤ
numbers a b c = pos a ∷ (pos b ∷ (pos c ∷ []))

-- a triangle of edges of weight 1, of which the second has the price 1 and the others the price 5
abbrev pub priced_triangle : WeightedGraph
priced_triangle = record {
  nodes = 3;
  ends = (0, 1) ∷ ((1, 2) ∷ ((0, 2) ∷ []));
  weights = pos 1 ∷ (pos 1 ∷ (pos 1 ∷ []));
  costs = pos 1 ∷ (pos 1 ∷ (pos 1 ∷ []));
  prices = pos 5 ∷ (pos 1 ∷ (pos 5 ∷ []));
}

-- for the level 2 the second edge is raised by 1; the cost and the partition of the second threshold are given
abbrev pub triangle_answer : ℕ → List ℕ → AddedAnswer
triangle_answer cost second = record {
  level = fraction 2 1;
  cost = pos cost;
  added = numbers 0 1 0;
  vector = numbers 1 2 1;
  thresholds = pos 1 ∷ (pos 5 ∷ []);
  parts = three 1 2 3 ∷ (second ∷ []);
  splits = numbers 0 1 0 ∷ (numbers 1 0 1 ∷ (numbers 1 2 1 ∷ []));
}

abbrev pub TriangleIsCertified : Type 0
TriangleIsCertified = CertifiesReinforcement priced_triangle (triangle_answer 1 (three 1 1 1))

-- the vertices 2 and 3 as one part serve the second threshold too
abbrev pub TwoPartsServe : Type 0
TwoPartsServe = CertifiesReinforcement priced_triangle (triangle_answer 1 (three 1 2 2))

-- single vertices do not: the second edge is cheaper than 5 and crosses
abbrev pub CheapEdgeCrosses : Type 0
CheapEdgeCrosses = CertifiesReinforcement priced_triangle (triangle_answer 1 (three 1 2 3)) → ⊥

-- the cost is 1, and not another
abbrev pub OtherCost : Type 0
OtherCost = CertifiesReinforcement priced_triangle (triangle_answer 5 (three 1 1 1)) → ⊥

-- what a dear edge is raised by in place of the cheap one is not certified: the edges from price 5 on have 1 more than the partition of the second threshold lacks
abbrev pub dear_answer : List ℕ → AddedAnswer
dear_answer second = record {
  level = fraction 2 1;
  cost = pos 5;
  added = numbers 1 0 0;
  vector = numbers 2 1 1;
  thresholds = pos 1 ∷ (pos 5 ∷ []);
  parts = three 1 2 3 ∷ (second ∷ []);
  splits = numbers 0 0 0 ∷ (numbers 2 0 1 ∷ (numbers 1 1 1 ∷ []));
}

abbrev pub DearEdge : Type 0
DearEdge = CertifiesReinforcement priced_triangle (dear_answer (three 1 1 1)) → ⊥

-- a threshold that is left out
abbrev pub one_threshold : AddedAnswer
one_threshold = record {
  level = fraction 2 1;
  cost = pos 1;
  added = numbers 0 1 0;
  vector = numbers 1 2 1;
  thresholds = pos 1 ∷ [];
  parts = three 1 2 3 ∷ [];
  splits = numbers 0 1 0 ∷ (numbers 1 0 1 ∷ (numbers 1 2 1 ∷ []));
}

abbrev pub ThresholdLeftOut : Type 0
ThresholdLeftOut = CertifiesReinforcement priced_triangle one_threshold → ⊥

-- one edge of weight 1 has the strength 1, so nothing is added for 1/2
abbrev pub one_edge : WeightedGraph
one_edge = record {
  nodes = 2;
  ends = (0, 1) ∷ [];
  weights = pos 1 ∷ [];
  costs = pos 1 ∷ (pos 1 ∷ []);
  prices = pos 1 ∷ [];
}

abbrev pub edge_answer : AddedAnswer
edge_answer = record {
  level = fraction 1 2;
  cost = pos 0;
  added = pos 0 ∷ [];
  vector = pos 1 ∷ [];
  thresholds = pos 1 ∷ [];
  parts = (1 ∷ (1 ∷ [])) ∷ [];
  splits = (pos 0 ∷ []) ∷ ((pos 1 ∷ []) ∷ []);
}

abbrev pub EdgeIsCertified : Type 0
EdgeIsCertified = CertifiesReinforcement one_edge edge_answer

-- two vertices without an edge: their two parts block each level above 0, and not 0
abbrev pub no_edge : WeightedGraph
no_edge = record {
  nodes = 2;
  ends = [];
  weights = [];
  costs = pos 1 ∷ (pos 1 ∷ []);
  prices = [];
}

abbrev pub zero_answer : AddedAnswer
zero_answer = record {
  level = fraction 0 1;
  cost = pos 0;
  added = [];
  vector = [];
  thresholds = [];
  parts = [];
  splits = [] ∷ ([] ∷ []);
}

abbrev pub ZeroIsReached : Type 0
ZeroIsReached = CertifiesReinforcement no_edge zero_answer

abbrev pub ZeroIsNotBlocked : Type 0
ZeroIsNotBlocked = IsBlocked no_edge (fraction 0 1) (1 ∷ (2 ∷ [])) → ⊥

abbrev pub OnePartBlocksNot : Type 0
OnePartBlocksNot = IsBlocked no_edge (fraction 1 1) (1 ∷ (1 ∷ [])) → ⊥

-- as texts
abbrev pub TriangleText : Type 0
TriangleText = added_text (triangle_answer 1 (three 1 1 1)) ≡
    codes "o reinforce" ++ 10 ∷ codes "d 2 1" ++ 10 ∷ codes "c 1" ++ 10 ∷ codes "x 0 1 0" ++ 10 ∷ codes "y 1 2 1" ++ 10 ∷ codes "k 2" ++ 10 ∷
    codes "t 1 1 1 2 3" ++ 10 ∷ codes "t 2 5 1 1 1" ++ 10 ∷ codes "r 1 0 1 0" ++ 10 ∷ codes "r 2 1 0 1" ++ 10 ∷ codes "r 3 1 2 1" ++ 10 ∷ codes "end" ++ 10 ∷ []

abbrev pub EdgeText : Type 0
EdgeText = added_text edge_answer ≡
    codes "o reinforce" ++ 10 ∷ codes "d 1 2" ++ 10 ∷ codes "c 0" ++ 10 ∷ codes "x 0" ++ 10 ∷ codes "y 1" ++ 10 ∷ codes "k 1" ++ 10 ∷
    codes "t 1 1 1 1" ++ 10 ∷ codes "r 1 0" ++ 10 ∷ codes "r 2 1" ++ 10 ∷ codes "end" ++ 10 ∷ []

abbrev pub PairsText : Type 0
PairsText = blocked_text (1 ∷ (1 ∷ (2 ∷ (2 ∷ [])))) ≡ codes "o reinforce" ++ 10 ∷ codes "none" ++ 10 ∷ codes "s 1 1 2 2" ++ 10 ∷ codes "end" ++ 10 ∷ []
