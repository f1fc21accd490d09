-- Partitions by labels: coarser ones have fewer parts, and merging two parts loses at most one.
use Rattle.std.proofs.Common.{◌≡◌, ℕ, zero, suc, ◌+◌, ◌<◌, ◌≤◌, List, [], ◌∷◌, length, get_or, map, refl, Bool, true, false, cond, not, ◌&&◌, ◌||◌, arith, ap, sym, ◌∙◌, inl, inr}
use Rattle.std.specs.Prelude.{◌==◌}
use Rattle.std.proofs.lemmas.Bool.{eq-eqb, cases_eq, ne_eqb, cond-true, cond-false}
use Rattle.std.proofs.lemmas.Bool.Decides.{nat_tests}
use Rattle.std.proofs.lemmas.List.{length-map, get_or-map}
use Rattle.pf_model.specs.Digraph.{IsDigraph}
use Rattle.pf_graph.specs.Labels.{label, occurs, parts, crosses, crossing_edges}
use Rattle.pf_graph.proofs.Counting.{finer_parts}
use Rattle.pf_trees.specs.Trees.{with_ends}

-- where the fine labels are equal, the coarse ones are
pub record IsCoarser (fine coarse : List ℕ) : Type 0 where
  pub full : length coarse ≡ length fine
  pub same : (u v : ℕ) → u < length fine → v < length fine → label fine u ≡ label fine v → label coarse u ≡ label coarse v

pub coarser_has_fewer : (fine coarse : List ℕ) → IsCoarser fine coarse → parts coarse ≤ parts fine
coarser_has_fewer fine coarse h = finer_parts fine coarse (sym h.full) (record { joins = h.same })

-- the label p becomes q
abbrev pub renamed : ℕ → ℕ → ℕ → ℕ
renamed p q l = cond (l == p) q l

occurs_renamed_step : (a x p q : ℕ) (here there then : Bool) → then ≡ ((not (a == p) && here) || ((a == q) && there)) →
    ((a == renamed p q x) || then) ≡ ((not (a == p) && ((a == x) || here)) || ((a == q) && ((p == x) || there)))
occurs_renamed_step a x p q here there then e = grind (arith, nat_tests)

occurs_renamed : (a p q : ℕ) (xs : List ℕ) → occurs a (map (renamed p q) xs) ≡ ((not (a == p) && occurs a xs) || ((a == q) && occurs p xs))
occurs_renamed a p q [] = grind (arith, nat_tests)
occurs_renamed a p q (x ∷ xs) = occurs_renamed_step a x p q (occurs a xs) (occurs p xs) _ (occurs_renamed a p q xs)

at_first : (x p q : ℕ) (here there : Bool) → x ≡ p → (q ≡ p → here ≡ there) →
    ((not (q == p) && here) || ((q == q) && there)) ≡ ((not (x == p) && (here || ((x == q) && there))) || ((x == p) && (here || there)))
at_first x p q here there e h = grind (arith, nat_tests)

at_other : (x p q : ℕ) (here one two : Bool) → (x ≡ p → ⊥) →
    ((not (x == p) && here) || ((x == q) && one)) ≡ ((not (x == p) && (here || ((x == q) && one))) || ((x == p) && (two || one)))
at_other x p q here one two ne = grind (arith, nat_tests)

at_first_swap : (x p q : ℕ) (here one two : Bool) → x ≡ p →
    ((not (x == p) && (two || ((x == q) && one))) || ((x == p) && (two || one))) ≡ ((not (x == p) && (here || ((x == q) && one))) || ((x == p) && (two || one)))
at_first_swap x p q here one two e = grind (arith, nat_tests)

occurs_new : (x p q : ℕ) (xs : List ℕ) → occurs (renamed p q x) (map (renamed p q) xs)
    ≡ ((not (x == p) && (occurs x xs || ((x == q) && occurs p xs))) || ((x == p) && (occurs q xs || occurs p xs)))
occurs_new x p q xs = elim (cases_eq x p) [
  | inl e ↦
      ap (λ a. occurs a (map (renamed p q) xs)) (cond-true (x == p) q x (eq-eqb x p e)) ∙ occurs_renamed q p q xs
      ∙ at_first x p q (occurs q xs) (occurs p xs) e (λ s. ap (λ a. occurs a xs) s) ∙ at_first_swap x p q (occurs x xs) (occurs p xs) (occurs q xs) e
  | inr ne ↦
      ap (λ a. occurs a (map (renamed p q) xs)) (cond-false (x == p) q x (ne_eqb x p ne)) ∙ occurs_renamed x p q xs
      ∙ at_other x p q (occurs x xs) (occurs p xs) (occurs q xs) ne
]

-- one merge loses at most one part, and none before both labels stand
loss_step : (x p q m n : ℕ) (here one two new : Bool) → m ≤ n + cond (one && two) 1 0 → (x ≡ p → here ≡ one) → (x ≡ q → here ≡ two) →
    new ≡ ((not (x == p) && (here || ((x == q) && one))) || ((x == p) && (two || one))) →
    cond here 0 1 + m ≤ (cond new 0 1 + n) + cond (((p == x) || one) && ((q == x) || two)) 1 0
loss_step x p q m n true true true new h a b e = grind (arith, nat_tests)
loss_step x p q m n true true false new h a b e = grind (arith, nat_tests)
loss_step x p q m n true false true new h a b e = grind (arith, nat_tests)
loss_step x p q m n true false false new h a b e = grind (arith, nat_tests)
loss_step x p q m n false true true new h a b e = grind (arith, nat_tests)
loss_step x p q m n false true false new h a b e = grind (arith, nat_tests)
loss_step x p q m n false false true new h a b e = grind (arith, nat_tests)
loss_step x p q m n false false false new h a b e = grind (arith, nat_tests)

merge_loss : (p q : ℕ) (xs : List ℕ) → parts xs ≤ parts (map (renamed p q) xs) + cond (occurs p xs && occurs q xs) 1 0
merge_loss p q [] = omega arith
merge_loss p q (x ∷ xs) =
    loss_step x p q (parts xs) (parts (map (renamed p q) xs)) (occurs x xs) (occurs p xs) (occurs q xs) _ (merge_loss p q xs)
    (λ s. ap (λ a. occurs a xs) s) (λ s. ap (λ a. occurs a xs) s) (occurs_new x p q xs)

-- the parts of both ends of an edge become one
abbrev pub merge : List ℕ → ℕ × ℕ → List ℕ
merge labels edge = map (renamed (label labels edge.0) (label labels edge.1)) labels

at_most_one : (b : Bool) → cond b 1 0 ≤ 1
at_most_one true = omega arith
at_most_one false = omega arith

renamed_same : (p l : ℕ) → renamed p p l ≡ l
renamed_same p l = grind (arith, nat_tests)

pub rename_nothing : (p : ℕ) (xs : List ℕ) → map (renamed p p) xs ≡ xs
rename_nothing p [] = refl
rename_nothing p (x ∷ xs) = rw (renamed_same p x, rename_nothing p xs) refl

merge_parts_cases : (p q : ℕ) (labels : List ℕ) → parts labels ≤ parts (map (renamed p q) labels) + cond (not (p == q)) 1 0
merge_parts_cases p q labels = elim (cases_eq p q) [
  | inl e ↦ let s : map (renamed p q) labels ≡ labels = rw (← e) (rename_nothing p labels) in omega (arith, ap parts s)
  | inr ne ↦
      let d : (p == q) ≡ false = ne_eqb p q ne in
      let h = merge_loss p q labels in
      rw d (omega (arith, h, at_most_one (occurs p labels && occurs q labels)))
]

pub merge_parts : (labels : List ℕ) (edge : ℕ × ℕ) → parts labels ≤ parts (merge labels edge) + cond (crosses labels edge) 1 0
merge_parts labels edge = merge_parts_cases (label labels edge.0) (label labels edge.1) labels

pub length-merge : (labels : List ℕ) (edge : ℕ × ℕ) → length (merge labels edge) ≡ length labels
length-merge labels edge = length-map labels (renamed (label labels edge.0) (label labels edge.1))

-- the label of a vertex after a merge
pub label_merged : (p q : ℕ) (labels : List ℕ) (v : ℕ) → v < length labels → label (map (renamed p q) labels) v ≡ renamed p q (label labels v)
label_merged p q labels v h = get_or-map (renamed p q) labels v 0 0 h

pub renamed_coarser : (p q : ℕ) (labels : List ℕ) → IsCoarser labels (map (renamed p q) labels)
renamed_coarser p q labels = record {
  full = length-map labels (renamed p q);
  same = λ u v h k e. label_merged p q labels u h ∙ ap (renamed p q) e ∙ sym (label_merged p q labels v k);
}

pub merge_coarser : (labels : List ℕ) (edge : ℕ × ℕ) → IsCoarser labels (merge labels edge)
merge_coarser labels edge = renamed_coarser (label labels edge.0) (label labels edge.1) labels

pub coarser_chain : (one two three : List ℕ) → IsCoarser one two → IsCoarser two three → IsCoarser one three
coarser_chain one two three a b =
    let e = a.full in
    record {
      full = b.full ∙ a.full;
      same = λ u v h k s. b.same u v (omega arith) (omega arith) (a.same u v h k s);
    }

pub coarser_self : (labels : List ℕ) → IsCoarser labels labels
coarser_self labels = record { full = refl; same = λ u v h k e. e }

renamed_joins : (p q : ℕ) → renamed p q p ≡ renamed p q q
renamed_joins p q = grind (arith, nat_tests)

pub merge_joins : (labels : List ℕ) (edge : ℕ × ℕ) → edge.0 < length labels → edge.1 < length labels →
    label (merge labels edge) edge.0 ≡ label (merge labels edge) edge.1
merge_joins labels edge h k =
    label_merged (label labels edge.0) (label labels edge.1) labels edge.0 h
    ∙ renamed_joins (label labels edge.0) (label labels edge.1)
    ∙ sym (label_merged (label labels edge.0) (label labels edge.1) labels edge.1 k)

-- merging along the edges of a list, one after another
abbrev pub merge_all : List ℕ → List (ℕ × ℕ) → List ℕ
merge_all labels [] = labels
merge_all labels (edge ∷ edges) = merge_all (merge labels edge) edges

pub all_coarser : (labels : List ℕ) (edges : List (ℕ × ℕ)) → IsCoarser labels (merge_all labels edges)
all_coarser labels [] = coarser_self labels
all_coarser labels (edge ∷ edges) =
    coarser_chain labels (merge labels edge) _ (merge_coarser labels edge) (all_coarser (merge labels edge) edges)

pub graph_tail : (n : ℕ) (edge : ℕ × ℕ) (edges : List (ℕ × ℕ)) → IsDigraph (with_ends n (edge ∷ edges)) → IsDigraph (with_ends n edges)
graph_tail n edge edges g = record { tails = λ i h. g.tails (suc i) (omega arith); heads = λ i h. g.heads (suc i) (omega arith) }

-- no edge of the list crosses the result
pub all_joined : (n : ℕ) (labels : List ℕ) (edges : List (ℕ × ℕ)) → IsDigraph (with_ends n edges) → length labels ≡ n → (i : ℕ) → i < length edges →
    label (merge_all labels edges) (get_or edges i (0, 0)).0 ≡ label (merge_all labels edges) (get_or edges i (0, 0)).1
all_joined n labels [] g e i h = absurd (omega arith)
all_joined n labels (edge ∷ edges) g e zero h =
    let a = g.tails 0 (omega arith) in
    let b = g.heads 0 (omega arith) in
    let l = length-merge labels edge in
    (all_coarser (merge labels edge) edges).same edge.0 edge.1 (omega arith) (omega arith) (merge_joins labels edge (omega arith) (omega arith))
all_joined n labels (edge ∷ edges) g e (suc i) h =
    all_joined n (merge labels edge) edges (graph_tail n edge edges g) (length-merge labels edge ∙ e) i (omega arith)

less_crossing : (a b : Bool) (m n : ℕ) → (a ≡ false → b ≡ false) → m ≤ n → cond b 1 0 + m ≤ cond a 1 0 + n
less_crossing true true m n h k = omega arith
less_crossing true false m n h k = omega arith
less_crossing false true m n h k = absurd (let e = h refl in cc)
less_crossing false false m n h k = omega arith

-- an edge with both ends in one part
pub inner_edge : (labels : List ℕ) (edge : ℕ × ℕ) → crosses labels edge ≡ false → label labels edge.0 ≡ label labels edge.1
inner_edge labels edge h = grind (arith, nat_tests)

pub edge_inner : (labels : List ℕ) (edge : ℕ × ℕ) → label labels edge.0 ≡ label labels edge.1 → crosses labels edge ≡ false
edge_inner labels edge h = grind (arith, nat_tests)

pub coarser_crossed_less : (n : ℕ) (fine coarse : List ℕ) (edges : List (ℕ × ℕ)) → IsDigraph (with_ends n edges) → length fine ≡ n → IsCoarser fine coarse →
    crossing_edges edges coarse ≤ crossing_edges edges fine
coarser_crossed_less n fine coarse [] g e c = omega arith
coarser_crossed_less n fine coarse (edge ∷ edges) g e c =
    let a = g.tails 0 (omega arith) in
    let b = g.heads 0 (omega arith) in
    less_crossing (crosses fine edge) (crosses coarse edge) (crossing_edges edges coarse) (crossing_edges edges fine)
    (λ s. edge_inner coarse edge (c.same edge.0 edge.1 (omega arith) (omega arith) (inner_edge fine edge s)))
    (coarser_crossed_less n fine coarse edges (graph_tail n edge edges g) e c)

-- merging along edges loses at most one part for each that crosses
pub all_parts : (n : ℕ) (labels : List ℕ) (edges : List (ℕ × ℕ)) → IsDigraph (with_ends n edges) → length labels ≡ n →
    parts labels ≤ parts (merge_all labels edges) + crossing_edges edges labels
all_parts n labels [] g e = omega arith
all_parts n labels (edge ∷ edges) g e =
    let one = merge_parts labels edge in
    let rest = all_parts n (merge labels edge) edges (graph_tail n edge edges g) (length-merge labels edge ∙ e) in
    let less = coarser_crossed_less n labels (merge labels edge) edges (graph_tail n edge edges g) e (merge_coarser labels edge) in
    omega (arith, one, rest, less)

pub crossing_most : (edges : List (ℕ × ℕ)) (labels : List ℕ) → crossing_edges edges labels ≤ length edges
crossing_most [] labels = omega arith
crossing_most (edge ∷ edges) labels = let a = at_most_one (crosses labels edge) in let b = crossing_most edges labels in omega (arith, a, b)

pub none_crosses : (labels : List ℕ) (edges : List (ℕ × ℕ)) →
    ((i : ℕ) → i < length edges → label labels (get_or edges i (0, 0)).0 ≡ label labels (get_or edges i (0, 0)).1) → crossing_edges edges labels ≡ 0
none_crosses labels [] h = refl
none_crosses labels (edge ∷ edges) h =
    let e = edge_inner labels edge (h 0 (omega arith)) in
    let rest = none_crosses labels edges (λ i k. h (suc i) (omega arith)) in
    rw (e, rest) refl

-- some edge crosses
pub crossed_by : (labels : List ℕ) (edges : List (ℕ × ℕ)) (i : ℕ) → i < length edges → crosses labels (get_or edges i (0, 0)) ≡ true → 0 < crossing_edges edges labels
crossed_by labels [] i h c = absurd (omega arith)
crossed_by labels (edge ∷ edges) zero h c = rw c (omega arith)
crossed_by labels (edge ∷ edges) (suc i) h c = let rest = crossed_by labels edges i (omega arith) c in omega (arith, rest)

-- n different labels
abbrev pub falling : ℕ → List ℕ
falling zero = []
falling (suc n) = n ∷ falling n

pub length-falling : (n : ℕ) → length (falling n) ≡ n
length-falling zero = refl
length-falling (suc n) = ap suc (length-falling n)

above_all : (x n : ℕ) → n ≤ x → occurs x (falling n) ≡ false
above_all x zero h = refl
above_all x (suc n) h = rw (ne_eqb x n (λ e. omega arith)) (above_all x n (omega arith))

pub parts_falling : (n : ℕ) → parts (falling n) ≡ n
parts_falling zero = refl
parts_falling (suc n) = let e = above_all n n (omega arith) in rw (e, parts_falling n) (omega arith)
