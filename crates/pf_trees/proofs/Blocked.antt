-- Where a search ends without a free slot, the partition that joins the ends of the marked edges blocks the trees.
use Rattle.std.proofs.Common.{◌≡◌, ℕ, zero, suc, ◌+◌, ◌-◌, ◌*◌, ◌<◌, ◌≤◌, List, [], ◌∷◌, length, get_or, refl, Bool, true, false, cond, not, ◌&&◌, ltb, arith, ap, sym, ◌∙◌, inl, inr}
use Rattle.std.proofs.lemmas.Bool.{cases_Bool, cases_eq, eq-eqb, eqb-true, both_ways, lt-ltb, ltb-true, and_from}
use Rattle.std.proofs.lemmas.Bool.Decides.{nat_tests}
use Rattle.std.proofs.lemmas.Nat.{mul-le}
use Rattle.pf_model.specs.Cut.{has}
use Rattle.pf_model.specs.Digraph.{IsDigraph}
use Rattle.pf_graph.specs.Labels.{label, parts, crosses}
use Rattle.pf_trees.specs.Trees.{put_if, HasFewEdges, with_ends}
use Rattle.pf_trees.specs.Sides.{separates}
use Rattle.pf_trees.specs.Slots.{at, edge_at}
use Rattle.pf_trees.specs.State.{IsBasis, IsState, IsClosed, IsJoined}
use Rattle.pf_trees.proofs.Parts.{IsCoarser, coarser_has_fewer, falling, length-falling, parts_falling, merge_all, all_joined, all_parts, all_coarser, crossing_most, edge_inner}
use Rattle.pf_trees.proofs.Spanning.{graph_put}
use Rattle.pf_trees.proofs.Bases.{not_crossing, crossed_not}
use Rattle.pf_trees.proofs.Counts.{count, count_same, count_some, count_more, count_three, count_placed, crossing_counted}
use Rattle.pf_trees.proofs.Filled.{side_of, side_of_same, block_high}

-- the pairs of the slots of a tree that pass a test
abbrev chosen : (ℕ → Bool) → (ℕ → ℕ × ℕ) → ℕ → ℕ → List (ℕ × ℕ)
chosen test pair lo zero = []
chosen test pair lo (suc i) = put_if (test (lo + i)) (pair (lo + i)) (chosen test pair lo i)

length_put : (b : Bool) (edge : ℕ × ℕ) (edges : List (ℕ × ℕ)) → length (put_if b edge edges) ≡ cond b 1 0 + length edges
length_put true edge edges = omega arith
length_put false edge edges = omega arith

length-chosen : (test : ℕ → Bool) (pair : ℕ → ℕ × ℕ) (lo i : ℕ) → length (chosen test pair lo i) ≡ count i (λ j. test (lo + j))
length-chosen test pair lo zero = refl
length-chosen test pair lo (suc i) =
    length_put (test (lo + i)) (pair (lo + i)) (chosen test pair lo i) ∙ ap (λ n. cond (test (lo + i)) 1 0 + n) (length-chosen test pair lo i)

chosen_graph : (n lo w : ℕ) (test : ℕ → Bool) (pair : ℕ → ℕ × ℕ) (cut : ℕ → ℕ → Bool) → IsBasis n lo w pair cut → (i : ℕ) → i ≤ w → IsDigraph (with_ends n (chosen test pair lo i))
chosen_graph n lo w test pair cut b zero h = record { tails = λ i k. absurd (omega arith); heads = λ i k. absurd (omega arith) }
chosen_graph n lo w test pair cut b (suc i) h =
    graph_put n (test (lo + i)) (pair (lo + i)) (chosen test pair lo i) (b.first (lo + i) (omega arith) (omega arith)) (b.second (lo + i) (omega arith) (omega arith))
    (chosen_graph n lo w test pair cut b i (omega arith))

-- a pair that passes stands in the list
pub record StandsIn (edge : ℕ × ℕ) (edges : List (ℕ × ℕ)) : Type 0 where
  pub index : ℕ
  pub in_range : index < length edges
  pub is : get_or edges index (0, 0) ≡ edge

stands_put : (b : Bool) (edge other : ℕ × ℕ) (edges : List (ℕ × ℕ)) → StandsIn edge edges → StandsIn edge (put_if b other edges)
stands_put true edge other edges s = let l = s.in_range in record { index = suc s.index; in_range = omega arith; is = s.is }
stands_put false edge other edges s = s

stands_here : (b : Bool) (edge : ℕ × ℕ) (edges : List (ℕ × ℕ)) → b ≡ true → StandsIn edge (put_if b edge edges)
stands_here true edge edges e = record { index = 0; in_range = omega arith; is = refl }
stands_here false edge edges e = absurd cc

chosen_stands : (test : ℕ → Bool) (pair : ℕ → ℕ × ℕ) (lo w j : ℕ) → j < w → test (lo + j) ≡ true → StandsIn (pair (lo + j)) (chosen test pair lo w)
chosen_stands test pair lo zero j h t = absurd (omega arith)
chosen_stands test pair lo (suc w) j h t = elim (cases_eq j w) [
  | inl e ↦ rw (← e) (stands_here (test (lo + j)) (pair (lo + j)) (chosen test pair lo j) t)
  | inr ne ↦ stands_put (test (lo + w)) (pair (lo + j)) (pair (lo + w)) (chosen test pair lo w) (chosen_stands test pair lo w j (omega arith) t)
]

-- the slots with a marked edge, those with an edge that crosses the partition, and the free ones
abbrev pub is_marked : ℕ → List ℕ → List Bool → ℕ → Bool
is_marked m slot mark s = ltb (at slot s) m && has mark (at slot s)

abbrev pub is_cut_by : List (ℕ × ℕ) → List ℕ → List ℕ → ℕ → Bool
is_cut_by ends slot labels s = ltb (at slot s) (length ends) && crosses labels (edge_at ends (at slot s))

abbrev pub is_free : ℕ → List ℕ → ℕ → Bool
is_free m slot s = not (ltb (at slot s) m)

-- merging along the marked edges of one tree joins the ends of every marked edge

abbrev merged : ℕ → (ℕ → ℕ × ℕ) → (ℕ → Bool) → ℕ → ℕ → List ℕ
merged w pair test lo n = merge_all (falling n) (chosen test pair lo w)

and_none : (a b : Bool) → (a ≡ true → b ≡ false) → (a && b) ≡ false
and_none true b h = h refl
and_none false b h = refl

shifted : (lo s : ℕ) → lo ≤ s → lo + (s - lo) ≡ s
shifted lo s h = omega arith

merged_joins : (n w k c : ℕ) (ends : List (ℕ × ℕ)) (cut : ℕ → ℕ → Bool) (slot place : List ℕ) (mark : List Bool) (st : IsState n w k ends cut slot place) →
    IsDigraph (with_ends n ends) → IsClosed (k * w) ends cut slot place mark → c < k → (x : ℕ) → x < length ends → has mark x ≡ true →
    label (merged w st.pair (is_marked (length ends) slot mark) (c * w) n) (edge_at ends x).0
    ≡ label (merged w st.pair (is_marked (length ends) slot mark) (c * w) n) (edge_at ends x).1
merged_joins n w k c ends cut slot place mark st g cl l x hx mx =
    let lo : ℕ = c * w in
    let test : ℕ → Bool = is_marked (length ends) slot mark in
    let b : IsBasis n (c * w) w st.pair cut = st.bases c l in
    let list : List (ℕ × ℕ) = chosen test st.pair lo w in
    let graph : IsDigraph (with_ends n list) = chosen_graph n lo w test st.pair cut b w (omega arith) in
    let r : List ℕ = merge_all (falling n) list in
    let high : lo + w ≤ k * w = block_high w k c l in
    let value : ℕ = label r (edge_at ends x).1 in
    let none : (s : ℕ) → lo ≤ s → s < lo + w → (separates (cut s) (edge_at ends x) && separates (side_of r value) (st.pair s)) ≡ false = λ s low hi.
    and_none (separates (cut s) (edge_at ends x)) (separates (side_of r value) (st.pair s)) (λ cr.
    let ls : s < k * w = omega arith in
    let held : at slot s < length ends = cl.held x s hx mx ls cr in
    let marked : has mark (at slot s) ≡ true = cl.closed x s hx mx ls cr in
    let t : test s ≡ true = and_from (ltb (at slot s) (length ends)) (has mark (at slot s)) (lt-ltb (at slot s) (length ends) held) marked in
    let e = shifted lo s low in
    let stands : StandsIn (st.pair (lo + (s - lo))) list = chosen_stands test st.pair lo w (s - lo) (omega arith) (ap test e ∙ t) in
    let is : get_or list stands.index (0, 0) ≡ st.pair s = stands.is ∙ ap st.pair e in
    let joined = all_joined n (falling n) list graph (length-falling n) stands.index stands.in_range in
    side_of_same r value (st.pair s) (ap (λ (p : ℕ × ℕ). label r p.0) (sym is) ∙ joined ∙ ap (λ (p : ℕ × ℕ). label r p.1) is)) in
    let flat = not_crossing n lo w st.pair cut (side_of r value) (edge_at ends x) b (g.tails x hx) (g.heads x hx) none in
    eqb-true (label r (edge_at ends x).0) value (crossed_not (side_of r value) (edge_at ends x) flat ∙ eq-eqb value value refl)

-- so a tree has many marked edges
many_marked : (n w k c : ℕ) (ends : List (ℕ × ℕ)) (cut : ℕ → ℕ → Bool) (slot place labels : List ℕ) (mark : List Bool) (st : IsState n w k ends cut slot place) →
    IsDigraph (with_ends n ends) → IsClosed (k * w) ends cut slot place mark → IsJoined n ends mark (length ends) labels → c < k →
    n ≤ parts labels + count w (λ j. is_marked (length ends) slot mark (c * w + j))
many_marked n w k c ends cut slot place labels mark st g cl jo l =
    let lo : ℕ = c * w in
    let test : ℕ → Bool = is_marked (length ends) slot mark in
    let b : IsBasis n (c * w) w st.pair cut = st.bases c l in
    let list : List (ℕ × ℕ) = chosen test st.pair lo w in
    let graph : IsDigraph (with_ends n list) = chosen_graph n lo w test st.pair cut b w (omega arith) in
    let r : List ℕ = merge_all (falling n) list in
    let full : length r ≡ n = (all_coarser (falling n) list).full ∙ length-falling n in
    let jf = jo.full in
    let coarser : IsCoarser labels r = record {
      full = full ∙ sym jo.full;
      same = λ u v hu hv e. jo.finest r full (merged_joins n w k c ends cut slot place mark st g cl l) u v (omega arith) (omega arith) e;
    } in
    let fewer = coarser_has_fewer labels r coarser in
    let loss = all_parts n (falling n) list graph (length-falling n) in
    let most = crossing_most list (falling n) in
    let len : length list ≡ count w (λ j. test (lo + j)) = length-chosen test st.pair lo w in
    let start = parts_falling n in
    omega (arith, fewer, loss, most, len, start)

one_kind : (held cut marked : Bool) → (held ≡ true → marked ≡ true → cut ≡ false) →
    (cond (held && cut) 1 0 + cond (held && marked) 1 0) + cond (not held) 1 0 ≤ 1
one_kind true true true h = absurd (let e = h refl refl in cc)
one_kind true true false h = omega arith
one_kind true false true h = omega arith
one_kind true false false h = omega arith
one_kind false cut marked h = omega arith

kinds : (n : ℕ) (ends : List (ℕ × ℕ)) (slot labels : List ℕ) (mark : List Bool) → IsJoined n ends mark (length ends) labels → (s : ℕ) →
    (cond (is_cut_by ends slot labels s) 1 0 + cond (is_marked (length ends) slot mark s) 1 0) + cond (is_free (length ends) slot s) 1 0 ≤ 1
kinds n ends slot labels mark jo s =
    one_kind (ltb (at slot s) (length ends)) (crosses labels (edge_at ends (at slot s))) (has mark (at slot s))
    (λ held marked. edge_inner labels (edge_at ends (at slot s)) (jo.inner (at slot s) (ltb-true (at slot s) (length ends) held) marked))

-- few edges of one tree cross the partition, and fewer where a slot is free
block_few : (n w k c : ℕ) (ends : List (ℕ × ℕ)) (cut : ℕ → ℕ → Bool) (slot place labels : List ℕ) (mark : List Bool) → IsState n w k ends cut slot place → n ≡ w + 1 →
    IsDigraph (with_ends n ends) → IsClosed (k * w) ends cut slot place mark → IsJoined n ends mark (length ends) labels → c < k →
    (count w (λ j. is_cut_by ends slot labels (c * w + j)) + count w (λ j. is_free (length ends) slot (c * w + j))) + 1 ≤ parts labels
block_few n w k c ends cut slot place labels mark st en g cl jo l =
    let many = many_marked n w k c ends cut slot place labels mark st g cl jo l in
    let three = count_three w (λ j. is_cut_by ends slot labels (c * w + j)) (λ j. is_marked (length ends) slot mark (c * w + j)) (λ j. is_free (length ends) slot (c * w + j))
    (λ j h. kinds n ends slot labels mark jo (c * w + j)) in
    omega (arith, many, three, en)

times_more : (c d : ℕ) → suc c * d ≡ c * d + d
times_more c d = grind arith

all_few : (n w k : ℕ) (ends : List (ℕ × ℕ)) (cut : ℕ → ℕ → Bool) (slot place labels : List ℕ) (mark : List Bool) → IsState n w k ends cut slot place → n ≡ w + 1 →
    IsDigraph (with_ends n ends) → IsClosed (k * w) ends cut slot place mark → IsJoined n ends mark (length ends) labels → (c : ℕ) → c ≤ k →
    (count (c * w) (is_cut_by ends slot labels) + count (c * w) (is_free (length ends) slot)) + c ≤ c * parts labels
all_few n w k ends cut slot place labels mark st en g cl jo zero h =
    rw (zero_times w) (omega arith)
  where
    zero_times : (w : ℕ) → 0 * w ≡ 0
    zero_times w = omega arith
all_few n w k ends cut slot place labels mark st en g cl jo (suc c) h =
    let before = all_few n w k ends cut slot place labels mark st en g cl jo c (omega arith) in
    let here = block_few n w k c ends cut slot place labels mark st en g cl jo (omega arith) in
    let e : suc c * w ≡ c * w + w = times_more c w in
    let one = count_more (c * w) w (suc c * w) (is_cut_by ends slot labels) e in
    let two = count_more (c * w) w (suc c * w) (is_free (length ends) slot) e in
    let t = times_more c (parts labels) in
    omega (arith, before, here, one, two, t)

and_true : (a b : Bool) → (a ≡ true → b ≡ true) → a ≡ (a && b)
and_true true b h = sym (h refl)
and_true false b h = refl

times_less : (k d : ℕ) → 0 < d → k * d ≡ k * (d - 1) + k
times_less k zero h = absurd (omega arith)
times_less k (suc d) h = let e : suc d - 1 ≡ d = omega arith in rw e (grind arith)

no_less : (s m : ℕ) → (s < m → ⊥) → not (ltb s m) ≡ true
no_less s m h = grind (arith, nat_tests)

some_part : (xs : List ℕ) → 0 < length xs → 0 < parts xs
some_part [] h = absurd (omega arith)
some_part (x ∷ []) h = omega arith
some_part (x ∷ (y ∷ ys)) h = let e = some_part (y ∷ ys) (omega arith) in omega (arith, e)

-- a search that ended, with a slot left free: the partition blocks
pub blocked_from_closed : (n w k : ℕ) (ends : List (ℕ × ℕ)) (cut : ℕ → ℕ → Bool) (slot place labels : List ℕ) (mark : List Bool) (free : ℕ) → IsState n w k ends cut slot place → n ≡ w + 1 →
    IsDigraph (with_ends n ends) → IsClosed (k * w) ends cut slot place mark → IsJoined n ends mark (length ends) labels → free < k * w → (at slot free < length ends → ⊥) →
    HasFewEdges (with_ends n ends) k labels
blocked_from_closed n w k ends cut slot place labels mark free st en g cl jo hf nf =
    let few = all_few n w k ends cut slot place labels mark st en g cl jo k (omega arith) in
    let some = count_some (k * w) (is_free (length ends) slot) free hf (no_less (at slot free) (length ends) nf) in
    let by_slots = count_placed (length ends) (k * w) slot place (λ x. crosses labels (edge_at ends x)) st.placed (k * w) (omega arith) in
    let placed = count_same (length ends) (λ x. crosses labels (edge_at ends x)) (λ x. crosses labels (edge_at ends x) && ltb (at place x) (k * w))
    (λ x hx. and_true (crosses labels (edge_at ends x)) (ltb (at place x) (k * w)) (λ cr.
    elim (cases_Bool (has mark x)) [
      | inl marked ↦ absurd (both_ways (crosses labels (edge_at ends x)) (edge_inner labels (edge_at ends x) (jo.inner x hx marked)) cr)
      | inr unmarked ↦ lt-ltb (at place x) (k * w) (cl.roots x hx unmarked)
    ])) in
    let all = crossing_counted ends labels in
    let jf = jo.full in
    let d = some_part labels (omega arith) in
    let t = times_less k (parts labels) d in
    record {
      full = jo.full;
      fewer = omega (arith, few, some, by_slots, placed, all, t);
    }

-- too few edges: single vertices block
pub blocked_by_count : (n w k : ℕ) (ends : List (ℕ × ℕ)) (labels : List ℕ) → n ≡ w + 1 → length labels ≡ n →
    ((u v : ℕ) → u < n → v < n → label labels u ≡ label labels v → u ≡ v) → length ends < k * w → HasFewEdges (with_ends n ends) k labels
blocked_by_count n w k ends labels en full apart few =
    let coarser : IsCoarser labels (falling n) = record {
      full = length-falling n ∙ sym full;
      same = λ u v hu hv e. ap (label (falling n)) (apart u v (omega arith) (omega arith) e);
    } in
    let more = coarser_has_fewer labels (falling n) coarser in
    let all = parts_falling n in
    let most = crossing_most ends labels in
    let d : 0 < parts labels = omega arith in
    let t = mul-le k w k (parts labels - 1) (omega arith) (omega arith) in
    record { full = full; fewer = omega (arith, most, t) }
