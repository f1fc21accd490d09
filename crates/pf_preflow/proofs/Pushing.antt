-- One amount that is pushed.
use Rattle.std.proofs.Common.{◌≡◌, ◌≢◌, ℕ, ◌<◌, ◌≤◌, List, length, refl, Bool, true, false, arith, sym, subst}
use Rattle.std.specs.Prelude.{ℤ, ◌<ℤ◌, pos}
use Rattle.std.proofs.lemmas.Int.{ints}
use Rattle.pf_model.specs.Cut.{FlowNetwork, IsProper, at_arc}
use Rattle.pf_preflow.specs.Engine.{IsActiveAt}
use Rattle.pf_preflow.specs.Labels.{HasCounted}
use Rattle.pf_preflow.specs.Raising.{KeepsState}
use Rattle.pf_preflow.specs.State.{IsSmall, IsState, IsReady, IsNextActive, IsStep, CanPush, pushed_flow, pushed_excess, work}
use Rattle.pf_preflow.specs.Residual.{residual_capacity, IsResidualArc, IsLowest, IsLeast}
use Rattle.pf_preflow.specs.declared.residual.Lowest.{Lowest}
use Rattle.pf_preflow.proofs.PushLemmas.{pushed}
use Rattle.pf_preflow.proofs.Work.{levelled, work_pushed}
use Rattle.pf_preflow.proofs.Relabel.{IsRaised, ready}
use Rattle.pf_preflow.proofs.Scan.{along_residual}

pub some_capacity : (g : FlowNetwork) (flow : List ℤ) (v w i : ℕ) (back : Bool) → IsResidualArc g flow v w i back → pos 0 <ℤ residual_capacity g.capacities flow i back
some_capacity g flow v w i true along = (along.backward refl).room
some_capacity g flow v w i false along = let h = (along.forward refl).room in omega (arith, ints, h)

pub record IsStepped (g : FlowNetwork) (flow : List ℤ) (labels : List ℕ) (flow' : List ℤ) (labels' : List ℕ) (excess' : List ℤ) : Type 0 where
  pub state : IsState g flow' labels' excess'
  pub less : work g flow' labels' < work g flow labels

stepped_same : (g : FlowNetwork) (flow : List ℤ) (labels after : List ℕ) (excess : List ℤ) (v w i steps steps' : ℕ) (back : Bool) (amount : ℤ) → IsSmall g →
    IsReady g flow labels after excess v w steps steps' → v < g.nodes → w < g.nodes → IsResidualArc g flow v w i back → CanPush g flow excess v i back amount →
    IsStepped g flow labels (pushed_flow flow i back amount) after (pushed_excess excess v w amount)
stepped_same g flow labels after excess v w i steps steps' back amount small r low low' along c =
    let state = pushed g flow after excess v w i back amount r.state low low' along r.down c in
    let falls = work_pushed g flow after v w i back amount r.state.preflow.within.full along r.down c.some (levelled g (pushed_flow flow i back amount) after small state.preflow.within state.low) in
    let most = r.less in
    record { state = state; less = omega (arith, falls, most) }

pub stepped : (g : FlowNetwork) (flow : List ℤ) (labels after : List ℕ) (excess : List ℤ) (v w i steps steps' : ℕ) (back : Bool) (amount : ℤ) (flow' excess' : List ℤ) → IsSmall g →
    IsReady g flow labels after excess v w steps steps' → v < g.nodes → w < g.nodes → IsResidualArc g flow v w i back → CanPush g flow excess v i back amount →
    flow' ≡ pushed_flow flow i back amount → excess' ≡ pushed_excess excess v w amount → IsStepped g flow labels flow' after excess'
stepped g flow labels after excess v w i steps steps' back amount flow' excess' small r low low' along c e f =
    rw (e, f) (stepped_same g flow labels after excess v w i steps steps' back amount small r low low' along c)

-- v was relabelled by the least label that was found
pub ready_lowest : (g : FlowNetwork) (flow : List ℤ) (labels after : List ℕ) (excess : List ℤ) (v steps steps' : ℕ) (lowest : Lowest) →
    IsProper g → IsSmall g → IsState g flow labels excess → v < g.nodes → IsActiveAt g.source g.sink excess v →
    IsLeast g flow labels v lowest.label → IsLowest g flow labels v lowest → IsRaised labels after v lowest.label steps steps' →
    IsReady g flow labels after excess v lowest.along.to steps steps'
ready_lowest g flow labels after excess v steps steps' lowest proper small state low wait l found raised =
    ready g flow labels after excess v lowest.along.to lowest.label steps steps' proper small state low wait l found.other found.is
    (along_residual g flow v lowest.along.to lowest.along.arc lowest.along.back found.from.residual) raised

pub can_push : (g : FlowNetwork) (flow excess : List ℤ) (v i : ℕ) (back : Bool) (amount x : ℤ) → amount ≡ x → CanPush g flow excess v i back x → CanPush g flow excess v i back amount
can_push g flow excess v i back amount x e c = rw e c

-- ---- the next active node

pub next_in : (s t : ℕ) (xs excess : List ℤ) (v : ℕ) → xs ≡ excess → (v < length xs → IsActiveAt s t xs v) → (length xs ≤ v → (u : ℕ) → u < length xs → IsActiveAt s t xs u → ⊥) →
    IsNextActive s t excess v
next_in s t xs excess v e active none =
    let P : List ℤ → Type 0 = λ l. IsNextActive s t l v in
    subst P e (record { active = active; none = none })

pub next_same : (s t : ℕ) (xs excess : List ℤ) (v : ℕ) → xs ≡ excess → v ≢ s → v ≢ t → v < length excess → pos 0 <ℤ at_arc xs v → IsNextActive s t excess v
next_same s t xs excess v e a b low some =
    let P : List ℤ → Type 0 = λ l. pos 0 <ℤ at_arc l v in
    record {
      active = λ h. record { not_source = a; not_sink = b; more = subst P e some };
      none = λ h. absurd (omega (arith, h, low));
    }

-- ---- one step of a discharge

-- a push and what follows a relabel make one step
pub step_done : (g : FlowNetwork) (flow flow' : List ℤ) (labels between after : List ℕ) (excess excess' : List ℤ) (steps steps' steps'' : ℕ) →
    work g flow' between < work g flow labels → ((start : List ℕ) (before : ℕ) → HasCounted start labels before steps → HasCounted start between before steps') →
    KeepsState g flow' between after excess steps' steps'' → excess' ≡ excess → IsStep g flow flow' labels after excess' steps steps''
step_done g flow flow' labels between after excess excess' steps steps' steps'' falls counted k same =
    let most = k.less in
    let P : List ℤ → Type 0 = λ e. IsState g flow' after e in
    record {
      state = subst P (sym same) k.state;
      less = omega (arith, falls, most);
      counted = λ start before c. k.counted start before (counted start before c);
    }
