-- From the state at the end to the answer.
use Rattle.std.proofs.Common.{◌≡◌, ◌≢◌, ℕ, ◌-◌, ◌*◌, ◌<◌, List, ◌++◌, length, get_or, take, replicate, Bool, false, arith, ap, sym, ◌∙◌, subst}
use Rattle.std.specs.Prelude.{ℤ, pos}
use Rattle.std.proofs.lemmas.List.{length-replicate}
use Rattle.std.proofs.Math.Seq.{take-append_seam}
use Rattle.pf_model.specs.Cut.{at_arc}
use Rattle.pf_model.proofs.Search.{has_none}
use Rattle.pf_model.specs.Digraph.{Digraph, IsDigraph}
use Rattle.pf_graph.specs.Labels.{label}
use Rattle.pf_graph.specs.Labels.{IsPartitionOf, IsPartition, IsSamePartition}
use Rattle.pf_graph.proofs.ByRule.{same_parts, same_crossing_edges}
use Rattle.pf_trees.specs.Trees.{AreTrees, Blocks, HasFewEdges, with_ends}
use Rattle.pf_trees.specs.Sides.{cut_at, first_cut}
use Rattle.pf_trees.specs.Slots.{at, tree_number}
use Rattle.pf_trees.specs.State.{IsState, IsClosed, IsJoined}
use Rattle.pf_trees.proofs.Begin.{state_begins}
use Rattle.pf_trees.proofs.Blocked.{blocked_from_closed, blocked_by_count}
use Rattle.pf_trees.proofs.Filled.{trees_from_full}

pub table_full : (n : ℕ) (cuts : List Bool) → cuts ≡ replicate n false → length cuts ≡ n
table_full n cuts e = ap length e ∙ length-replicate n false

pub list_full : (n x : ℕ) (xs : List ℕ) → xs ≡ replicate n x → length xs ≡ n
list_full n x xs e = ap length e ∙ length-replicate n x

pub none_written : (n i : ℕ) (cuts : List Bool) → cuts ≡ replicate n false → get_or cuts i false ≡ false
none_written n i cuts e = ap (λ l. get_or l i false) e ∙ has_none n i

pub first_state : (n k : ℕ) (ends : List (ℕ × ℕ)) (cuts : List Bool) (slot place : List ℕ) → 1 < n → slot ≡ replicate (k * (n - 1)) (length ends) → place ≡ replicate (length ends) (k * (n - 1)) →
    ((r v : ℕ) → r < k * (n - 1) → v < n → cut_at cuts n r v ≡ first_cut (n - 1) r v) → IsState n (n - 1) k ends (cut_at cuts n) slot place
first_state n k ends cuts slot place two e f is = state_begins n (n - 1) k ends (cut_at cuts n) slot place (omega arith) (omega arith) e f is

pub some_free : (n k : ℕ) (ends : List (ℕ × ℕ)) (cuts : List Bool) (slot place labels : List ℕ) (mark : List Bool) (free : ℕ) → 1 < n → IsDigraph (with_ends n ends) →
    IsState n (n - 1) k ends (cut_at cuts n) slot place → IsClosed (k * (n - 1)) ends (cut_at cuts n) slot place mark → IsJoined n ends mark (length ends) labels →
    free < k * (n - 1) → at slot free ≡ length ends → HasFewEdges (with_ends n ends) k labels
some_free n k ends cuts slot place labels mark free two g st cl jo hf is =
    blocked_from_closed n (n - 1) k ends (cut_at cuts n) slot place labels mark free st (omega arith) g cl jo hf (λ l. omega arith)

pub all_full : (n k : ℕ) (ends : List (ℕ × ℕ)) (cuts : List Bool) (slot place : List ℕ) (numbers : List ℤ) → 1 < n →
    IsState n (n - 1) k ends (cut_at cuts n) slot place → ((s : ℕ) → s < k * (n - 1) → at slot s ≢ length ends) → length numbers ≡ length ends →
    ((x : ℕ) → x < length ends → at_arc numbers x ≡ pos (tree_number (n - 1) (k * (n - 1)) (at place x))) → AreTrees (with_ends n ends) k numbers
all_full n k ends cuts slot place numbers two st full f is =
    trees_from_full n (n - 1) k ends (cut_at cuts n) slot place numbers st (omega arith) (omega arith)
    (λ s h. let most = st.placed.slots_most s h in let ne = full s h in omega arith) f is

whole : {X : Type 0} (n : ℕ) (new rest : List X) → n ≡ length new → take n (new ++ rest) ≡ new
whole n new rest e = rw e (take-append_seam new rest)

-- what was written fills the list
pub trees_whole : (n k : ℕ) (ends : List (ℕ × ℕ)) (len : ℕ) (new rest : List ℤ) → len ≡ length new → AreTrees (with_ends n ends) k new → AreTrees (with_ends n ends) k (take len (new ++ rest))
trees_whole n k ends len new rest e t = subst (λ l. AreTrees (with_ends n ends) k l) (sym (whole len new rest e)) t

pub blocks_whole : (n k : ℕ) (ends : List (ℕ × ℕ)) (len : ℕ) (new rest : List ℕ) → len ≡ length new → HasFewEdges (with_ends n ends) k new → HasFewEdges (with_ends n ends) k (take len (new ++ rest))
blocks_whole n k ends len new rest e t = subst (λ l. HasFewEdges (with_ends n ends) k l) (sym (whole len new rest e)) t

pub few_edges : (n k : ℕ) (ends : List (ℕ × ℕ)) (labels : List ℕ) → 1 < n → length labels ≡ n → ((v : ℕ) → v < n → label labels v ≡ v) → length ends < k * (n - 1) → HasFewEdges (with_ends n ends) k labels
few_edges n k ends labels two f is few =
    blocked_by_count n (n - 1) k ends labels (omega arith) f (λ u v hu hv s. sym (is u hu) ∙ s ∙ is v hv) few

-- the partition by the label rule of groups that forbid the trees forbids them too
pub blocks_by_rule : (g : Digraph) (k : ℕ) (groups labels : List ℕ) → IsDigraph g → HasFewEdges g k groups → IsPartitionOf groups labels → Blocks g k labels
blocks_by_rule g k groups labels graph few of =
    let P : ℕ → Type 0 = λ n. IsPartition n labels in
    let Q : ℕ → Type 0 = λ n. IsSamePartition n groups labels in
    let parts_are = same_parts groups labels (sym of.partition.full) of.same in
    let edges_are = same_crossing_edges g groups labels graph (subst Q few.full of.same) in
    record {
      partition = subst P few.full of.partition;
      fewer = rw (← parts_are, ← edges_are) few.fewer;
    }

-- the same, where the vertices and the edges were told one by one
pub blocks_graph : (g : Digraph) (n k : ℕ) (ends : List (ℕ × ℕ)) (groups labels : List ℕ) → n ≡ g.nodes → ends ≡ g.ends → IsDigraph g →
    HasFewEdges (with_ends n ends) k groups → IsPartitionOf groups labels → Blocks g k labels
blocks_graph g n k ends groups labels nodes_are ends_are graph few of =
    blocks_by_rule g k groups labels graph (record { full = few.full ∙ nodes_are; fewer = rw (← ends_are) few.fewer }) of
