use Rattle.std.proofs.Common.{◌≡◌, to_z, of_z, List, arith, sym, inl, inr, subst}
use Rattle.std.specs.Prelude.{ℤ}
use Rattle.std.proofs.lemmas.Int.{ints}
use Rattle.std.proofs.lemmas.Bool.{cases_Bool}
use Rattle.pf_forest.specs.Held.{IsHeld}
use Rattle.pf_forest.specs.Forest.{IsSparse}
use Rattle.pf_forest.proofs.Putting.{bare_root}
use Rattle.pf_forest.proofs.Holding.{rooms_high}
use Rattle.pf_forest.proofs.fill.bare.Goals as goal
use mir.Syntax.{w128}

pub returns-clause-bare : goal.returns-clause-bare
returns-clause-bare c =
    let same : to_z w128 (of_z w128 c.args.limit) ≡ c.args.limit = omega (arith, ints) in
    let P : ℤ → Type 0 = λ x. IsHeld c.args.frame.now x c.gather.new.charges.vector.items c.gather.new.charges.heads.items c.gather.new.charges.rooms.items in
    let Q : List ℤ → Type 0 = λ l. IsSparse c.args.frame.now c.args.limit l in
    let held = subst P same c.gather.ensures.held in
    elim (cases_Bool c.gather.result) [
      | inl enough ↦
          let least = c.gather.ensures.enough enough in
          let most = rooms_high c.args.frame.now _ _ _ _ c.args.root held c.requires.root in
          omega (arith, ints, least, most)
      | inr few ↦
          bare_root c.args.frame.now _ _ _ _ _ c.args.root held (subst Q (sym c.gather.ensures.vector) c.requires.sparse)
          c.gather.ensures.tables.side_full c.requires.root (c.gather.ensures.marked few) (c.gather.ensures.none few) (c.gather.ensures.shut few)
    ]
