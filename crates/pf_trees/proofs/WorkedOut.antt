-- Graphs worked by hand, over all lists of labels.
use Rattle.std.proofs.Common.{◌≡◌, ℕ, zero, suc, ◌+◌, ◌<◌, ◌≤◌, List, [], ◌∷◌, length, take, refl, arith, sym, ◌∙◌, inl, inr}
use Rattle.std.specs.Prelude.{ℤ, pos, ◌≤ℤ◌}
use Rattle.std.proofs.lemmas.Bool.{cases_Bool, cases_lt}
use Rattle.std.proofs.lemmas.Int.{ints}
use Rattle.pf_model.specs.Cut.{at_arc}
use Rattle.pf_graph.specs.Labels.{label, parts, crosses, crossing_edges, greatest_label}
use Rattle.pf_trees.specs.Slots.{edge_at}
use Rattle.pf_trees.specs.Trees.{IsSpanningTree, numbered}
use Rattle.pf_trees.specs.Worked.{complete, two_trees, alone, pair, AreTwoTrees, CircleIsNoTree, ThreeTreesBlocked, TriangleBlocked, PairIsTwoTrees, PairIsNotThree}
use Rattle.pf_trees.proofs.Parts.{inner_edge, crossed_by}
use Rattle.pf_trees.proofs.Filled.{parts_equal}

-- where no edge crosses, the ends of each are in one part
joined : (edges : List (ℕ × ℕ)) (labels : List ℕ) → crossing_edges edges labels ≡ 0 → (i : ℕ) → i < length edges → label labels (edge_at edges i).0 ≡ label labels (edge_at edges i).1
joined edges labels none i low = elim (cases_Bool (crosses labels (edge_at edges i))) [
  | inl crossing ↦ absurd (let some = crossed_by labels edges i low crossing in omega (arith, some, none))
  | inr inner ↦ inner_edge labels (edge_at edges i) inner
]

-- edges that join all vertices to vertex 0 cross each partition into two parts and more
spans : (n : ℕ) (edges : List (ℕ × ℕ)) (labels : List ℕ) → length labels ≡ n
    → (crossing_edges edges labels ≡ 0 → (v : ℕ) → v < n → label labels v ≡ label labels 0)
    → 1 < parts labels → 0 < crossing_edges edges labels
spans n edges labels full to_first more = elim (cases_lt 0 (crossing_edges edges labels)) [
  | inl some ↦ some
  | inr none ↦
      let e : crossing_edges edges labels ≡ 0 = omega (arith, none) in
      absurd (let one = parts_equal labels (λ u v hu hv. to_first e u (omega (arith, hu, full)) ∙ sym (to_first e v (omega (arith, hv, full)))) in omega (arith, one, more))
]

four : (labels : List ℕ) → label labels 1 ≡ label labels 0 → label labels 2 ≡ label labels 0 → label labels 3 ≡ label labels 0 → (v : ℕ) → v < 4 → label labels v ≡ label labels 0
four labels one two three zero h = refl
four labels one two three (suc zero) h = one
four labels one two three (suc (suc zero)) h = two
four labels one two three (suc (suc (suc zero))) h = three
four labels one two three (suc (suc (suc (suc v)))) h = absurd (omega (arith, h))

first_joins : (labels : List ℕ) → crossing_edges (numbered 1 complete.ends two_trees) labels ≡ 0 → (v : ℕ) → v < 4 → label labels v ≡ label labels 0
first_joins labels none =
    let a : label labels 0 ≡ label labels 1 = joined (numbered 1 complete.ends two_trees) labels none 0 (omega arith) in
    let b : label labels 1 ≡ label labels 2 = joined (numbered 1 complete.ends two_trees) labels none 1 (omega arith) in
    let c : label labels 2 ≡ label labels 3 = joined (numbered 1 complete.ends two_trees) labels none 2 (omega arith) in
    four labels (sym a) (sym (a ∙ b)) (sym (a ∙ b ∙ c))

second_joins : (labels : List ℕ) → crossing_edges (numbered 2 complete.ends two_trees) labels ≡ 0 → (v : ℕ) → v < 4 → label labels v ≡ label labels 0
second_joins labels none =
    let a : label labels 0 ≡ label labels 2 = joined (numbered 2 complete.ends two_trees) labels none 0 (omega arith) in
    let b : label labels 0 ≡ label labels 3 = joined (numbered 2 complete.ends two_trees) labels none 1 (omega arith) in
    let c : label labels 1 ≡ label labels 3 = joined (numbered 2 complete.ends two_trees) labels none 2 (omega arith) in
    four labels (c ∙ sym b) (sym a) (sym b)

each_spans : (j : ℕ) → 0 < j → j ≤ 2 → IsSpanningTree 4 (numbered j complete.ends two_trees)
each_spans zero low high = absurd (omega (arith, low))
each_spans (suc zero) low high = record { count = refl; crossed = λ labels full more. spans 4 (numbered 1 complete.ends two_trees) labels full (first_joins labels) more }
each_spans (suc (suc zero)) low high = record { count = refl; crossed = λ labels full more. spans 4 (numbered 2 complete.ends two_trees) labels full (second_joins labels) more }
each_spans (suc (suc (suc j))) low high = absurd (omega (arith, high))

numbers_low : (i : ℕ) → i < 6 → pos 0 ≤ℤ at_arc two_trees i
numbers_low zero h = omega (arith, ints)
numbers_low (suc zero) h = omega (arith, ints)
numbers_low (suc (suc zero)) h = omega (arith, ints)
numbers_low (suc (suc (suc zero))) h = omega (arith, ints)
numbers_low (suc (suc (suc (suc zero)))) h = omega (arith, ints)
numbers_low (suc (suc (suc (suc (suc zero))))) h = omega (arith, ints)
numbers_low (suc (suc (suc (suc (suc (suc i)))))) h = absurd (omega (arith, h))

numbers_high : (i : ℕ) → i < 6 → at_arc two_trees i ≤ℤ pos 2
numbers_high zero h = omega (arith, ints)
numbers_high (suc zero) h = omega (arith, ints)
numbers_high (suc (suc zero)) h = omega (arith, ints)
numbers_high (suc (suc (suc zero))) h = omega (arith, ints)
numbers_high (suc (suc (suc (suc zero)))) h = omega (arith, ints)
numbers_high (suc (suc (suc (suc (suc zero))))) h = omega (arith, ints)
numbers_high (suc (suc (suc (suc (suc (suc i)))))) h = absurd (omega (arith, h))

pub are_two_trees : AreTwoTrees
are_two_trees = record { full = refl; low = numbers_low; high = numbers_high; trees = each_spans }

-- the fourth vertex alone is a part that no edge of the circle reaches
pub circle_is_no_tree : CircleIsNoTree
circle_is_no_tree t = let none = (t.trees 1 (omega arith) (omega arith)).crossed (1 ∷ (1 ∷ (1 ∷ (2 ∷ [])))) refl (omega arith) in omega (arith, none)

-- each vertex a part by itself
four_low : (v : ℕ) → v < 4 → 1 ≤ label alone v
four_low zero h = omega arith
four_low (suc zero) h = omega arith
four_low (suc (suc zero)) h = omega arith
four_low (suc (suc (suc zero))) h = omega arith
four_low (suc (suc (suc (suc v)))) h = absurd (omega (arith, h))

four_high : (v : ℕ) → v < 4 → label alone v ≤ greatest_label (take v alone) + 1
four_high zero h = omega arith
four_high (suc zero) h = omega arith
four_high (suc (suc zero)) h = omega arith
four_high (suc (suc (suc zero))) h = omega arith
four_high (suc (suc (suc (suc v)))) h = absurd (omega (arith, h))

pub three_trees_blocked : ThreeTreesBlocked
three_trees_blocked = record { partition = record { full = refl; low = four_low; high = four_high }; fewer = omega arith }

abbrev three_alone : List ℕ
three_alone = 1 ∷ (2 ∷ (3 ∷ []))

three_low : (v : ℕ) → v < 3 → 1 ≤ label three_alone v
three_low zero h = omega arith
three_low (suc zero) h = omega arith
three_low (suc (suc zero)) h = omega arith
three_low (suc (suc (suc v))) h = absurd (omega (arith, h))

three_high : (v : ℕ) → v < 3 → label three_alone v ≤ greatest_label (take v three_alone) + 1
three_high zero h = omega arith
three_high (suc zero) h = omega arith
three_high (suc (suc zero)) h = omega arith
three_high (suc (suc (suc v))) h = absurd (omega (arith, h))

pub triangle_blocked : TriangleBlocked
triangle_blocked = record { partition = record { full = refl; low = three_low; high = three_high }; fewer = omega arith }

-- two vertices
two : (labels : List ℕ) → label labels 1 ≡ label labels 0 → (v : ℕ) → v < 2 → label labels v ≡ label labels 0
two labels one zero h = refl
two labels one (suc zero) h = one
two labels one (suc (suc v)) h = absurd (omega (arith, h))

abbrev pair_numbers : List ℤ
pair_numbers = pos 1 ∷ (pos 2 ∷ [])

pair_spans : (j : ℕ) → 0 < j → j ≤ 2 → IsSpanningTree 2 (numbered j pair.ends pair_numbers)
pair_spans zero low high = absurd (omega (arith, low))
pair_spans (suc zero) low high = record {
  count = refl;
  crossed = λ labels full more. spans 2 (numbered 1 pair.ends pair_numbers) labels full
      (λ none. two labels (sym (joined (numbered 1 pair.ends pair_numbers) labels none 0 (omega arith)))) more;
}
pair_spans (suc (suc zero)) low high = record {
  count = refl;
  crossed = λ labels full more. spans 2 (numbered 2 pair.ends pair_numbers) labels full
      (λ none. two labels (joined (numbered 2 pair.ends pair_numbers) labels none 0 (omega arith))) more;
}
pair_spans (suc (suc (suc j))) low high = absurd (omega (arith, high))

pair_low : (i : ℕ) → i < 2 → pos 0 ≤ℤ at_arc pair_numbers i
pair_low zero h = omega (arith, ints)
pair_low (suc zero) h = omega (arith, ints)
pair_low (suc (suc i)) h = absurd (omega (arith, h))

pair_high : (i : ℕ) → i < 2 → at_arc pair_numbers i ≤ℤ pos 2
pair_high zero h = omega (arith, ints)
pair_high (suc zero) h = omega (arith, ints)
pair_high (suc (suc i)) h = absurd (omega (arith, h))

pub pair_is_two_trees : PairIsTwoTrees
pair_is_two_trees = record { full = refl; low = pair_low; high = pair_high; trees = pair_spans }

two_low : (v : ℕ) → v < 2 → 1 ≤ label (1 ∷ (2 ∷ [])) v
two_low zero h = omega arith
two_low (suc zero) h = omega arith
two_low (suc (suc v)) h = absurd (omega (arith, h))

two_high : (v : ℕ) → v < 2 → label (1 ∷ (2 ∷ [])) v ≤ greatest_label (take v (1 ∷ (2 ∷ []))) + 1
two_high zero h = omega arith
two_high (suc zero) h = omega arith
two_high (suc (suc v)) h = absurd (omega (arith, h))

pub pair_is_not_three : PairIsNotThree
pair_is_not_three = record { partition = record { full = refl; low = two_low; high = two_high }; fewer = omega arith }
