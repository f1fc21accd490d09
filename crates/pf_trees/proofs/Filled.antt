-- Where every slot holds an edge, the edges of each tree span.
use Rattle.std.proofs.Common.{◌≡◌, ℕ, zero, suc, ◌+◌, ◌-◌, ◌*◌, ◌/◌, ◌<◌, ◌≤◌, List, [], ◌∷◌, length, refl, Bool, true, false, cond, not, ◌&&◌, ◌||◌, ltb, arith, ap, sym, ◌∙◌, inl, inr}
use Rattle.std.specs.Prelude.{ℤ, pos, ◌==◌}
use Rattle.std.proofs.lemmas.Int.{ints}
use Rattle.std.proofs.lemmas.Bool.{cases_lt, eq-eqb, eqb-true, lt-ltb}
use Rattle.std.proofs.lemmas.Bool.Decides.{nat_tests}
use Rattle.std.proofs.lemmas.Nat.{mul-le, div-add-mod', div-mul-add}
use Rattle.pf_model.specs.Cut.{at_arc}
use Rattle.pf_graph.specs.Labels.{label, occurs, parts, crosses, crossing_edges}
use Rattle.pf_trees.specs.Trees.{with_ends, is_number, put_if, numbered, IsSpanningTree, AreTrees}
use Rattle.pf_trees.specs.Sides.{separates}
use Rattle.pf_trees.specs.Slots.{at, edge_at, IsPlaced, tree_number}
use Rattle.pf_trees.specs.State.{IsBasis, IsState}
use Rattle.pf_trees.proofs.Parts.{inner_edge}
use Rattle.pf_trees.proofs.Bases.{not_crossed}
use Rattle.pf_trees.proofs.Counts.{count, count_all, count_same, count_split, count_placed, numbered_counted, some_or_none}

-- equal labels make one part
pub parts_equal : (xs : List ℕ) → ((u v : ℕ) → u < length xs → v < length xs → label xs u ≡ label xs v) → parts xs ≤ 1
parts_equal [] h = omega arith
parts_equal (x ∷ []) h = omega arith
parts_equal (x ∷ (y ∷ ys)) h =
    let rest = parts_equal (y ∷ ys) (λ u v p q. h (suc u) (suc v) (omega arith) (omega arith)) in
    let e : x ≡ y = h 0 1 (omega arith) (omega arith) in
    parts_equal_step (x == y) (occurs x ys) (parts (y ∷ ys)) (eq-eqb x y e) rest
  where
    parts_equal_step : (a b : Bool) (m : ℕ) → a ≡ true → m ≤ 1 → cond (a || b) 0 1 + m ≤ 1
    parts_equal_step true b m e h = omega arith
    parts_equal_step false b m e h = absurd cc

-- the side of the vertices with a label
abbrev pub side_of : List ℕ → ℕ → ℕ → Bool
side_of labels l v = label labels v == l

pub side_of_same : (labels : List ℕ) (l : ℕ) (edge : ℕ × ℕ) → label labels edge.0 ≡ label labels edge.1 → separates (side_of labels l) edge ≡ false
side_of_same labels l edge e = not_crossed (side_of labels l) edge (ap (λ x. x == l) e)

-- a partition that no pair of a basis crosses has one part
one_part : (n lo w : ℕ) (pair : ℕ → ℕ × ℕ) (cut : ℕ → ℕ → Bool) (labels : List ℕ) → IsBasis n lo w pair cut → length labels ≡ n →
    ((i : ℕ) → i < w → crosses labels (pair (lo + i)) ≡ false) → parts labels ≤ 1
one_part n lo w pair cut labels b e h =
    let inner : (s : ℕ) → lo ≤ s → s < lo + w → label labels (pair s).0 ≡ label labels (pair s).1 = λ s low high.
    let there : lo + (s - lo) ≡ s = omega arith in
    inner_edge labels (pair s) (ap (λ k. crosses labels (pair k)) (sym there) ∙ h (s - lo) (omega arith)) in
    parts_equal labels (λ u v p q.
    sym (eqb-true (label labels v) (label labels u)
    (b.spans (side_of labels (label labels u)) (λ s low high. side_of_same labels (label labels u) (pair s) (inner s low high)) v u (omega arith) (omega arith)
    ∙ eq-eqb (label labels u) (label labels u) refl)))

crossing_put_some : (b : Bool) (edge : ℕ × ℕ) (edges : List (ℕ × ℕ)) (labels : List ℕ) → 0 < crossing_edges edges labels → 0 < crossing_edges (put_if b edge edges) labels
crossing_put_some true edge edges labels h = omega arith
crossing_put_some false edge edges labels h = h

crossing_put_here : (b : Bool) (edge : ℕ × ℕ) (edges : List (ℕ × ℕ)) (labels : List ℕ) → b ≡ true → crosses labels edge ≡ true → 0 < crossing_edges (put_if b edge edges) labels
crossing_put_here true edge edges labels e h = rw h (omega arith)
crossing_put_here false edge edges labels e h = absurd cc

numbered_crosses : (j : ℕ) (ends : List (ℕ × ℕ)) (numbers : List ℤ) (labels : List ℕ) (i : ℕ) → i < length ends → i < length numbers → at_arc numbers i ≡ pos j →
    crosses labels (edge_at ends i) ≡ true → 0 < crossing_edges (numbered j ends numbers) labels
numbered_crosses j [] numbers labels i h k e c = absurd (omega arith)
numbered_crosses j (edge ∷ ends) [] labels i h k e c = absurd (omega arith)
numbered_crosses j (edge ∷ ends) (x ∷ numbers) labels zero h k e c = crossing_put_here (is_number j x) edge (numbered j ends numbers) labels (ap (is_number j) e ∙ eq-eqb j j refl) c
numbered_crosses j (edge ∷ ends) (x ∷ numbers) labels (suc i) h k e c =
    crossing_put_some (is_number j x) edge (numbered j ends numbers) labels (numbered_crosses j ends numbers labels i (omega arith) (omega arith) e c)

-- the edges of one tree are those in its slots
block_test : (p q c lo w t : ℕ) (b : Bool) → (p < t → (lo ≤ p) × (p < lo + w) → q ≡ c) → (q ≡ c → (lo ≤ p) × (p < lo + w)) → lo + w ≤ t →
    (cond (ltb p t) (q + 1) 0 == suc c) ≡ (not (ltb p lo) && ltb p (lo + w))
block_test p q c lo w t b here there h = grind (arith, nat_tests)

mul_more : (c w : ℕ) → (c + 1) * w ≡ c * w + w
mul_more c w = grind arith

pub block_of : (w p c : ℕ) → 0 < w → p / w ≡ c → (c * w ≤ p) × (p < c * w + w)
block_of w p c h e =
    let d = div-add-mod' p w in
    let m = ap (λ q. q * w) e in
    (omega arith, omega arith)

pub of_block : (w p c : ℕ) → 0 < w → c * w ≤ p → p < c * w + w → p / w ≡ c
of_block w p c h low high =
    let e : c * w + (p - c * w) ≡ p = omega arith in
    ap (λ q. q / w) (sym e) ∙ div-mul-add c w (p - c * w) (omega arith)

pub block_high : (w k c : ℕ) → c < k → c * w + w ≤ k * w
block_high w k c h = omega (arith, mul_more c w, mul-le (c + 1) w k w (omega arith) (omega arith))

number_test : (w k p c : ℕ) → 0 < w → c < k → (tree_number w (k * w) p == suc c) ≡ (not (ltb p (c * w)) && ltb p (c * w + w))
number_test w k p c h l =
    block_test p (p / w) c (c * w) w (k * w) true (λ _ b. of_block w p c h b.0 b.1) (λ e. block_of w p c h e) (block_high w k c l)

between_split : (p lo w : ℕ) → cond (true && ltb p (lo + w)) 1 0 ≡ cond (true && ltb p lo) 1 0 + cond (not (ltb p lo) && ltb p (lo + w)) 1 0
between_split p lo w = grind (arith, nat_tests)

true_and : (s m : ℕ) → s < m → (ltb s m && true) ≡ true
true_and s m h = grind (arith, nat_tests)

-- so many edges are in the slots of a tree
tree_count : (m t : ℕ) (slot place : List ℕ) (lo w : ℕ) → IsPlaced m t slot place → ((s : ℕ) → s < t → at slot s < m) → lo + w ≤ t →
    count m (λ x. not (ltb (at place x) lo) && ltb (at place x) (lo + w)) ≡ w
tree_count m t slot place lo w p full h =
    let a = count_placed m t slot place (λ x. true) p lo (omega arith) in
    let b = count_placed m t slot place (λ x. true) p (lo + w) h in
    let a' = count_all lo (λ s. ltb (at slot s) m && true) (λ s l. true_and (at slot s) m (full s (omega arith))) in
    let b' = count_all (lo + w) (λ s. ltb (at slot s) m && true) (λ s l. true_and (at slot s) m (full s (omega arith))) in
    let split = count_split m (λ x. true && ltb (at place x) (lo + w)) (λ x. true && ltb (at place x) lo) (λ x. not (ltb (at place x) lo) && ltb (at place x) (lo + w))
    (λ x l. between_split (at place x) lo w) in
    omega (arith, a, b, a', b', split)

number_most : (w k p : ℕ) → 0 < w → tree_number w (k * w) p ≤ k
number_most w k p h = number_most_cases (p / w) k (ltb p (k * w)) (λ e. div_below w k p h (ltb_true p (k * w) e))
  where
    ltb_true : (a b : ℕ) → ltb a b ≡ true → a < b
    ltb_true a b e = grind (arith, nat_tests)

    div_below : (w k p : ℕ) → 0 < w → p < k * w → p / w < k
    div_below w k p h l = elim (cases_lt (p / w) k) [
      | inl low ↦ low
      | inr high ↦ absurd (let a = mul-le k w (p / w) w high (omega arith) in let d = div-add-mod' p w in omega arith)
    ]

    number_most_cases : (q k : ℕ) (b : Bool) → (b ≡ true → q < k) → cond b (q + 1) 0 ≤ k
    number_most_cases q k true h = let l = h refl in omega arith
    number_most_cases q k false h = omega arith

suc_of : (j : ℕ) → 0 < j → (c : ℕ) × (j ≡ suc c)
suc_of zero h = absurd (omega arith)
suc_of (suc c) h = (c, refl)

number_in : (q c : ℕ) (b : Bool) → b ≡ true → q ≡ c → cond b (q + 1) 0 ≡ suc c
number_in q c true e f = omega arith
number_in q c false e f = absurd cc

-- every slot holds an edge: those of one tree span
tree : (n w k : ℕ) (ends : List (ℕ × ℕ)) (cut : ℕ → ℕ → Bool) (slot place : List ℕ) (numbers : List ℤ) → IsState n w k ends cut slot place → n ≡ w + 1 → 0 < w →
    ((s : ℕ) → s < k * w → at slot s < length ends) → length numbers ≡ length ends →
    ((x : ℕ) → x < length ends → at_arc numbers x ≡ pos (tree_number w (k * w) (at place x))) → (c : ℕ) → c < k → IsSpanningTree n (numbered (suc c) ends numbers)
tree n w k ends cut slot place numbers st en hw full len is c l =
    let high = block_high w k c l in
    record {
      count = numbered_counted (suc c) ends numbers len
          ∙ count_same (length ends) (λ x. is_number (suc c) (at_arc numbers x)) (λ x. not (ltb (at place x) (c * w)) && ltb (at place x) (c * w + w))
          (λ x lx. ap (is_number (suc c)) (is x lx) ∙ number_test w k (at place x) c hw l)
          ∙ tree_count (length ends) (k * w) slot place (c * w) w st.placed full high
          ∙ (let e : w ≡ n - 1 = omega arith in e);
      crossed = λ labels el more. elim (some_or_none w (λ i. crosses labels (st.pair (c * w + i)))) [
        | inl some ↦
            let s : ℕ = c * w + some.index in
            let si : s < k * w = let r = some.in_range in omega arith in
            let x : ℕ = at slot s in
            let lx : x < length ends = full s si in
            let there : at place x ≡ s = st.placed.back s si lx in
            let ri = some.in_range in
            let q : s / w ≡ c = of_block w s c hw (omega arith) (omega arith) in
            let t : ltb s (k * w) ≡ true = lt-ltb s (k * w) si in
            let number : at_arc numbers x ≡ pos (suc c) = is x lx ∙ ap pos (ap (tree_number w (k * w)) there ∙ number_in (s / w) c (ltb s (k * w)) t q) in
            numbered_crosses (suc c) ends numbers labels x lx (omega arith) number (ap (crosses labels) (sym (st.pairs s si lx)) ∙ some.passes)
        | inr none ↦ absurd (let one = one_part n (c * w) w st.pair cut labels (st.bases c l) el none in omega arith)
      ];
    }

-- so the numbers are trees
pub trees_from_full : (n w k : ℕ) (ends : List (ℕ × ℕ)) (cut : ℕ → ℕ → Bool) (slot place : List ℕ) (numbers : List ℤ) → IsState n w k ends cut slot place → n ≡ w + 1 → 0 < w →
    ((s : ℕ) → s < k * w → at slot s < length ends) → length numbers ≡ length ends →
    ((x : ℕ) → x < length ends → at_arc numbers x ≡ pos (tree_number w (k * w) (at place x))) → AreTrees (with_ends n ends) k numbers
trees_from_full n w k ends cut slot place numbers st en hw full len is = record {
  full = len;
  low = λ i h. let e = is i h in omega (arith, ints, e);
  high = λ i h. let e = is i h in let most = number_most w k (at place i) hw in omega (arith, ints, e, most);
  trees = λ j low high.
      let (c, e) = suc_of j low in
      rw e (tree n w k ends cut slot place numbers st en hw full len is c (omega arith));
}
