-- The chain of exchanges, one after another.
use Rattle.std.proofs.Common.{◌≡◌, ℕ, ◌+◌, ◌*◌, ◌<◌, ◌≤◌, List, length, set, Bool, true, arith, ◌∙◌}
use Rattle.pf_model.specs.Digraph.{IsDigraph}
use Rattle.pf_trees.specs.Trees.{with_ends}
use Rattle.pf_trees.specs.Sides.{separates}
use Rattle.pf_trees.specs.Slots.{at, edge_at, unplaced}
use Rattle.pf_trees.specs.State.{IsState}
use Rattle.pf_trees.specs.Search.{IsChain, KeepsOthers, IsLast}
use Rattle.pf_trees.proofs.Steps.{chain_step, chain_next, unplaced_same, unplaced_less}

-- a slot is to be taken by an edge of the chain, or an edge more has found its place
pub record IsInserting (n w k : ℕ) (ends : List (ℕ × ℕ)) (cut : ℕ → ℕ → Bool) (slot place chain : List ℕ) (at_ len t count : ℕ) : Type 0 where
  pub state : IsState n w k ends cut slot place
  pub free : t < k * w → at slot t ≡ length ends
  pub chain_is : t < k * w → IsChain ends cut place (k * w) chain at_ len
  pub crossing : t < k * w → separates (cut t) (edge_at ends (at chain at_)) ≡ true
  pub same : t < k * w → unplaced (k * w) place ≡ count
  pub fewer : k * w ≤ t → unplaced (k * w) place < count

pub inserting_more : (n w k : ℕ) (ends : List (ℕ × ℕ)) (cut cut' : ℕ → ℕ → Bool) (slot slot' place place' chain : List ℕ) (from len t i t' count : ℕ) → IsDigraph (with_ends n ends) →
    IsInserting n w k ends cut slot place chain from len t count → t < k * w → IsLast ends cut chain t from len i →
    IsState n w k ends cut' slot' place' → t' ≡ at place (at chain i) → place' ≡ set place (at chain i) t → KeepsOthers n cut cut' t → (t' < k * w → at slot' t' ≡ length ends) →
    IsInserting n w k ends cut' slot' place' chain (i + 1) len t' count
inserting_more n w k ends cut cut' slot slot' place place' chain from len t i t' count g s ht la st e pe ke free =
    let ch = s.chain_is ht in
    let low = la.low in
    let high = la.high in
    let there : at chain i < length place = let pf = s.state.placed.places_full in let h = ch.edges i low high in omega (arith, pf, h) in
    let before = s.same ht in
    record {
      state = st;
      free = free;
      chain_is = λ h. rw pe (chain_step n ends cut cut' place (k * w) chain from len i t g ch la ke (omega (arith, h, e)));
      crossing = λ h. rw e (chain_next n ends cut cut' place (k * w) chain from len i t g ch la ke (omega (arith, h, e)));
      same = λ h. rw pe (unplaced_same (k * w) t place (at chain i) there ht (omega (arith, h, e)) ∙ before);
      fewer = λ h. rw pe (let f = unplaced_less (k * w) t place (at chain i) there ht (omega (arith, h, e)) in omega (arith, f, before));
    }
