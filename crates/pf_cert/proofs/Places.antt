-- A scratch that keeps its places serves on; sides that the same flow reaches are one list.
use Rattle.std.proofs.Common.{◌≡◌, ℕ, List, Bool, false, arith, sym, ◌∙◌, inl, inr}
use Rattle.std.specs.Prelude.{ℤ}
use Rattle.std.proofs.lemmas.Bool.{cases_lt, false≢true}
use Rattle.std.proofs.lemmas.List.{get_or_past}
use Rattle.pf_model.specs.Cut.{FlowNetwork, IsContained}
use Rattle.pf_model.specs.Residual.{IsReach}
use Rattle.pf_model.proofs.Unique.{same_sides}
use Rattle.pf_frame.specs.declared.scratch.Scratch.{Scratch}
use Rattle.pf_frame.specs.Scratch.{Serves, KeepsPlaces}

pub keeps_again : (a b c : Scratch) → KeepsPlaces a b → KeepsPlaces b c → KeepsPlaces a c
keeps_again a b c h k = record { marks = k.marks ∙ h.marks; sums = k.sums ∙ h.sums; queue = k.queue ∙ h.queue }

pub serves_on : (a b : Scratch) (nodes arcs : ℕ) → Serves a nodes arcs → KeepsPlaces a b → Serves b nodes arcs
serves_on a b nodes arcs s k = record {
  marks = omega (arith, s.marks, k.marks);
  sums = omega (arith, s.sums, k.sums);
  queue = omega (arith, s.queue, k.queue);
}

contained : (g : FlowNetwork) (flow : List ℤ) (xs ys : List Bool) → IsReach g flow xs → IsReach g flow ys → IsContained xs ys
contained g flow xs ys a b v held = elim (cases_lt v g.nodes) [
  | inl low ↦ (b.exact v low).1 ((a.exact v low).0 held)
  | inr high ↦ (
      let full = a.full in
      absurd (false≢true (sym (get_or_past xs v false (omega arith)) ∙ held))
      )
]

pub same_reach : (g : FlowNetwork) (flow : List ℤ) (xs ys : List Bool) → IsReach g flow xs → IsReach g flow ys → xs ≡ ys
same_reach g flow xs ys a b = same_sides xs ys (a.full ∙ sym b.full) (contained g flow xs ys a b) (contained g flow ys xs b a)
