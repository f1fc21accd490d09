-- A spanning tree crosses each partition at least as often as the partition has parts, less one; so trees and a partition that blocks them exclude each other.
use Rattle.std.proofs.Common.{◌≡◌, ℕ, zero, suc, ◌+◌, ◌-◌, ◌*◌, ◌<◌, ◌≤◌, List, [], ◌∷◌, length, get_or, refl, Bool, true, false, cond, ◌&&◌, ltb, arith, ap, sym, ◌∙◌, inl, inr}
use Rattle.std.specs.Prelude.{ℤ, pos, negsuc}
use Rattle.std.proofs.lemmas.Bool.{cases_lt}
use Rattle.std.proofs.lemmas.Bool.Decides.{nat_tests}
use Rattle.pf_model.specs.Digraph.{IsDigraph}
use Rattle.pf_graph.specs.Labels.{parts, crosses, crossing_edges}
use Rattle.pf_trees.specs.Trees.{IsSpanningTree, is_number, put_if, numbered, AreTrees, with_ends}
use Rattle.pf_trees.specs.Laws.{NotBoth}
use Rattle.pf_trees.proofs.Parts.{merge_all, all_joined, all_parts, all_coarser, none_crosses, graph_tail}

pub tree_crosses_often : (n : ℕ) (edges : List (ℕ × ℕ)) (labels : List ℕ) → IsDigraph (with_ends n edges) → IsSpanningTree n edges → length labels ≡ n →
    parts labels ≤ crossing_edges edges labels + 1
tree_crosses_often n edges labels g t e =
    let few = all_parts n labels edges g e in
    let c = all_coarser labels edges in
    let none : crossing_edges edges (merge_all labels edges) ≡ 0 = none_crosses (merge_all labels edges) edges (all_joined n labels edges g e) in
    elim (cases_lt 1 (parts (merge_all labels edges))) [
      | inl more ↦ absurd (let some = t.crossed (merge_all labels edges) (c.full ∙ e) more in omega (arith, some, none))
      | inr one ↦ omega (arith, few, one)
    ]

-- the edges of a list that stand before it, with one edge put before them or not
pub graph_put : (n : ℕ) (b : Bool) (edge : ℕ × ℕ) (edges : List (ℕ × ℕ)) → edge.0 < n → edge.1 < n → IsDigraph (with_ends n edges) → IsDigraph (with_ends n (put_if b edge edges))
graph_put n false edge edges h k g = g
graph_put n true edge edges h k g = record { tails = first_of_put n edge edges h g; heads = second_of_put n edge edges k g }
  where
    first_of_put : (n : ℕ) (edge : ℕ × ℕ) (edges : List (ℕ × ℕ)) → edge.0 < n → IsDigraph (with_ends n edges) → (i : ℕ) → i < length (edge ∷ edges) → (get_or (edge ∷ edges) i (0, 0)).0 < n
    first_of_put n edge edges h g zero l = h
    first_of_put n edge edges h g (suc i) l = g.tails i (omega arith)

    second_of_put : (n : ℕ) (edge : ℕ × ℕ) (edges : List (ℕ × ℕ)) → edge.1 < n → IsDigraph (with_ends n edges) → (i : ℕ) → i < length (edge ∷ edges) → (get_or (edge ∷ edges) i (0, 0)).1 < n
    second_of_put n edge edges k g zero l = k
    second_of_put n edge edges k g (suc i) l = g.heads i (omega arith)

pub numbered_graph : (n j : ℕ) (ends : List (ℕ × ℕ)) (numbers : List ℤ) → IsDigraph (with_ends n ends) → IsDigraph (with_ends n (numbered j ends numbers))
numbered_graph n j [] numbers g = g
numbered_graph n j (edge ∷ ends) [] g = record { tails = λ i h. absurd (omega arith); heads = λ i h. absurd (omega arith) }
numbered_graph n j (edge ∷ ends) (x ∷ numbers) g =
    graph_put n (is_number j x) edge (numbered j ends numbers) (g.tails 0 (omega arith)) (g.heads 0 (omega arith)) (numbered_graph n j ends numbers (graph_tail n edge ends g))

-- the number is from 1 to j
abbrev is_upto : ℕ → ℤ → Bool
is_upto j (pos x) = ltb 0 x && ltb x (suc j)
is_upto j (negsuc x) = false

-- the crossing edges with a number from 1 to j
abbrev crossing_upto : ℕ → List (ℕ × ℕ) → List ℤ → List ℕ → ℕ
crossing_upto j [] numbers labels = 0
crossing_upto j (edge ∷ ends) [] labels = 0
crossing_upto j (edge ∷ ends) (x ∷ numbers) labels = cond (is_upto j x && crosses labels edge) 1 0 + crossing_upto j ends numbers labels

crossing_put : (b : Bool) (edge : ℕ × ℕ) (edges : List (ℕ × ℕ)) (labels : List ℕ) → crossing_edges (put_if b edge edges) labels ≡ cond (b && crosses labels edge) 1 0 + crossing_edges edges labels
crossing_put true edge edges labels = refl
crossing_put false edge edges labels = omega arith

upto_step : (x : ℤ) (j a b c : ℕ) (here : Bool) → a ≡ b + c →
    cond (is_upto (suc j) x && here) 1 0 + a ≡ (cond (is_upto j x && here) 1 0 + b) + (cond (is_number (suc j) x && here) 1 0 + c)
upto_step (pos x) j a b c true e = grind (arith, nat_tests)
upto_step (pos x) j a b c false e = grind (arith, nat_tests)
upto_step (negsuc x) j a b c here e = omega (arith, e)

upto_more : (j : ℕ) (ends : List (ℕ × ℕ)) (numbers : List ℤ) (labels : List ℕ) →
    crossing_upto (suc j) ends numbers labels ≡ crossing_upto j ends numbers labels + crossing_edges (numbered (suc j) ends numbers) labels
upto_more j [] numbers labels = refl
upto_more j (edge ∷ ends) [] labels = refl
upto_more j (edge ∷ ends) (x ∷ numbers) labels =
    upto_step x j _ _ _ (crosses labels edge) (upto_more j ends numbers labels)
    ∙ ap (λ n. crossing_upto j (edge ∷ ends) (x ∷ numbers) labels + n) (sym (crossing_put (is_number (suc j) x) edge (numbered (suc j) ends numbers) labels))

upto_most_step : (a b : Bool) (m n : ℕ) → m ≤ n → cond (a && b) 1 0 + m ≤ cond b 1 0 + n
upto_most_step true true m n h = omega arith
upto_most_step true false m n h = omega arith
upto_most_step false true m n h = omega arith
upto_most_step false false m n h = omega arith

upto_most : (j : ℕ) (ends : List (ℕ × ℕ)) (numbers : List ℤ) (labels : List ℕ) → crossing_upto j ends numbers labels ≤ crossing_edges ends labels
upto_most j [] numbers labels = omega arith
upto_most j (edge ∷ ends) [] labels = omega arith
upto_most j (edge ∷ ends) (x ∷ numbers) labels = upto_most_step (is_upto j x) (crosses labels edge) _ _ (upto_most j ends numbers labels)

times_more : (j d : ℕ) → suc j * d ≡ j * d + d
times_more j d = grind arith

trees_cross_often : (n k : ℕ) (ends : List (ℕ × ℕ)) (numbers : List ℤ) (labels : List ℕ) → IsDigraph (with_ends n ends) → AreTrees (with_ends n ends) k numbers → length labels ≡ n →
    (j : ℕ) → j ≤ k → j * (parts labels - 1) ≤ crossing_upto j ends numbers labels
trees_cross_often n k ends numbers labels g t e zero h = omega arith
trees_cross_often n k ends numbers labels g t e (suc j) h =
    let before = trees_cross_often n k ends numbers labels g t e j (omega arith) in
    let here = tree_crosses_often n (numbered (suc j) ends numbers) labels (numbered_graph n (suc j) ends numbers g) (t.trees (suc j) (omega arith) h) e in
    let more = upto_more j ends numbers labels in
    let times = times_more j (parts labels - 1) in
    omega (arith, before, here, more, times)

pub not_both : NotBoth
not_both graph k numbers labels g t b =
    let often = trees_cross_often graph.nodes k graph.ends numbers labels g t b.partition.full k (omega arith) in
    let most = upto_most k graph.ends numbers labels in
    let few = b.fewer in
    omega (arith, often, most, few)
