use Rattle.std.proofs.Common.{◌≡◌, to_z, of_z, arith, subst}
use Rattle.std.specs.Prelude.{ℤ}
use Rattle.std.proofs.lemmas.Int.{ints}
use Rattle.pf_model.specs.Cut.{at_arc}
use Rattle.pf_forest.specs.Held.{IsHeld}
use Rattle.pf_forest.specs.Forest.{IsSplit}
use Rattle.pf_forest.proofs.Splits.{split_of_held}
use Rattle.pf_forest.proofs.fill.orient.Goals as goal
use mir.Syntax.{w128}

pub share_out-requires-clause-held : goal.share_out-requires-clause-held
share_out-requires-clause-held c = rw (c.as_slice-vector.ensures.value, c.as_slice-heads.ensures.value, c.as_slice-rooms.ensures.value) c.bare.ensures.held

pub returns-clause-split : goal.returns-clause-split
returns-clause-split c =
    let same : to_z w128 (of_z w128 c.args.limit) ≡ c.args.limit = omega (arith, ints) in
    let bare : at_arc c.as_slice-rooms.result.now c.args.root ≡ to_z w128 (of_z w128 c.args.limit) = rw c.as_slice-rooms.ensures.value c.bare.ensures.bare in
    let held : IsHeld c.args.frame.now (to_z w128 (of_z w128 c.args.limit)) c.as_slice-vector.result.now c.as_slice-heads.result.now c.as_slice-rooms.result.now =
    rw (c.as_slice-vector.ensures.value, c.as_slice-heads.ensures.value, c.as_slice-rooms.ensures.value) c.bare.ensures.held in
    let P : ℤ → Type 0 = λ x. IsSplit c.args.frame.now x c.as_slice-vector.result.now c.share_out.new.shares c.args.root in
    rw (← c.as_slice-vector.ensures.value) (subst P same (
    split_of_held c.args.frame.now _ _ _ _ c.share_out.new.shares c.args.root held c.requires.root bare c.share_out.ensures.full c.share_out.ensures.each))
