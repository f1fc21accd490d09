-- The chain as it is put together.
use Rattle.std.proofs.Common.{◌≡◌, ℕ, ◌+◌, ◌<◌, ◌≤◌, List, length, set, Bool, true, arith, ap, ◌∙◌, inl, inr}
use Rattle.std.proofs.lemmas.Bool.{cases_eq}
use Rattle.std.proofs.lemmas.List.{length-set}
use Rattle.pf_model.specs.Cut.{has}
use Rattle.pf_trees.specs.Sides.{separates}
use Rattle.pf_trees.specs.Slots.{at, edge_at}
use Rattle.pf_trees.specs.Search.{HasWays}
use Rattle.pf_trees.proofs.Marking.{marked_low, put_other, put_same}

-- the first len places of the chain are put together, and y is the last of them
pub record IsTracing (ends : List (ℕ × ℕ)) (cut : ℕ → ℕ → Bool) (place : List ℕ) (total : ℕ) (mark : List Bool) (level : List ℕ) (x : ℕ) (chain : List ℕ) (len y : ℕ) : Type 0 where
  pub some : 0 < len
  pub room : len + at level y ≤ at level x + 1
  pub full : length chain ≡ length ends
  pub few : at level x < length ends
  pub marked : has mark y ≡ true
  pub first : at chain 0 ≡ x
  pub here : (i : ℕ) → i + 1 ≡ len → at chain i ≡ y
  pub edges : (i : ℕ) → i < len → at chain i < length ends
  pub held : (i : ℕ) → i + 1 < len → at place (at chain i) < total
  pub crossing : (i : ℕ) → i + 1 < len → separates (cut (at place (at chain i))) (edge_at ends (at chain (i + 1))) ≡ true

pub tracing_room : (ends : List (ℕ × ℕ)) (cut : ℕ → ℕ → Bool) (place : List ℕ) (total : ℕ) (mark : List Bool) (from level : List ℕ) (x : ℕ) (chain : List ℕ) (len y : ℕ) →
    HasWays ends cut place total mark from level (length ends) → IsTracing ends cut place total mark level x chain len y → at place y < total → len < length ends
tracing_room ends cut place total mark from level x chain len y w t h =
    let b = w.back y t.marked h in
    let near = b.nearer in
    let room = t.room in
    let few = t.few in
    omega arith

pub tracing_more : (ends : List (ℕ × ℕ)) (cut : ℕ → ℕ → Bool) (place : List ℕ) (total : ℕ) (mark : List Bool) (from level : List ℕ) (x : ℕ) (chain : List ℕ) (len y : ℕ) →
    HasWays ends cut place total mark from level (length ends) → IsTracing ends cut place total mark level x chain len y → at place y < total → length mark ≡ length ends →
    IsTracing ends cut place total mark level x (set chain len (at from y)) (len + 1) (at from y)
tracing_more ends cut place total mark from level x chain len y w t h e =
    let b = w.back y t.marked h in
    let near = b.nearer in
    let room = t.room in
    let some = t.some in
    let full = t.full in
    let small = tracing_room ends cut place total mark from level x chain len y w t h in
    let new : at (set chain len (at from y)) len ≡ at from y = put_same chain len (at from y) (omega arith) in
    let low = marked_low ends mark (at from y) e b.marked in
    let old : (i : ℕ) → i < len → at (set chain len (at from y)) i ≡ at chain i = λ i l. put_other chain len i (at from y) (λ s. omega (arith, s)) in
    record {
      some = omega arith;
      room = omega arith;
      full = length-set chain len (at from y) ∙ full;
      few = t.few;
      marked = b.marked;
      first = old 0 some ∙ t.first;
      here = λ i l. let s : i ≡ len = omega arith in rw s new;
      edges = λ i l. elim (cases_eq i len) [
        | inl s ↦ rw (s, new) low
        | inr ne ↦ rw (old i (omega arith)) (t.edges i (omega arith))
      ];
      held = λ i l. elim (cases_eq (i + 1) len) [
        | inl s ↦ rw (old i (omega arith), t.here i s) h
        | inr ne ↦ rw (old i (omega arith)) (t.held i (omega arith))
      ];
      crossing = λ i l. elim (cases_eq (i + 1) len) [
        | inl s ↦
            let next : at (set chain len (at from y)) (i + 1) ≡ at from y = ap (at (set chain len (at from y))) s ∙ new in
            rw (old i (omega arith), next, t.here i s) b.crossing
        | inr ne ↦ rw (old i (omega arith), old (i + 1) (omega arith)) (t.crossing i (omega arith))
      ];
    }
