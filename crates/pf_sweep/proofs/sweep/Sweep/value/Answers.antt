use Rattle.std.proofs.Common.{◌≡◌, arith, sym, subst, to_z, of_z, List}
use Rattle.std.specs.Prelude.{ℤ}
use Rattle.std.proofs.lemmas.Int.{ints}
use Rattle.pf_model.specs.Cut.{IsLeastValue}
use Rattle.pf_frame.specs.Numbers.{IsSized}
use Rattle.pf_sweep.specs.Swept.{Swept, network_of_sweep}
use Rattle.pf_sweep.proofs.Sweeping.{value_of, sized_of, value_seen}
use Rattle.pf_sweep.proofs.sweep.Sweep.value.Goals as goal
use mir.Syntax.{w128}

pub value-requires-clause-flow : goal.value-requires-clause-flow
value-requires-clause-flow c =
    let P : List ℤ → Type 0 = λ l. IsSized c.frame.result.now l in
    subst P (sym c.deref.ensures.value) (sized_of _ _ _ _ _ c.frame.result.now c.self.invariant c.frame.ensures.frame)

pub returns-clause-least : goal.returns-clause-least
returns-clause-least c =
    let seen = value_seen c.self.inside.net.now c.frame.result.now c.source.result c.self.inside.flow.items c.deref.result.now c.value.result c.value.ensures c.frame.ensures.frame
    c.deref.ensures.value c.source.ensures in
    let P : Swept → Type 0 = λ s. IsLeastValue (network_of_sweep s) c.value.result in
    let least = subst P c.self.view_is (value_of _ _ _ _ _ c.value.result c.self.invariant seen) in
    let back : to_z w128 (of_z w128 c.value.result) ≡ c.value.result = omega (arith, ints) in
    rw back least
