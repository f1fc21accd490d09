use Rattle.std.proofs.Common.{◌≡◌, List, arith, sym, subst, ◌∙◌}
use Rattle.std.specs.Prelude.{ℤ, pos}
use Rattle.std.specs.Int.{w128}
use Rattle.std.proofs.lemmas.Bool.{false≢true}
use Rattle.std.proofs.lemmas.Int.{ints}
use Rattle.std.proofs.lemmas.Result.{err_from_is_err_and}
use mir.Val.{to_z, of_z}
use Rattle.pf_share.specs.Taken.{AreGrouped}
use Rattle.pf_share.proofs.ShareGroups.{row_of_groups, grouped_of}
use Rattle.pf_share.proofs.answers.take_groups.Goals as goal

pub returns-in_err-groups-clause-found : goal.returns-in_err-groups-clause-found
returns-in_err-groups-clause-found c = λ groups rest shape there.
    let p = err_from_is_err_and c.from_residual.result c.from_residual.ensures.1 in
    let most : to_z w128 (of_z w128 (pos c.args.count)) ≡ pos c.args.count = omega (arith, ints) in
    let found = rw most at c.in_err-groups.ensures.found in
    rw (p.1, p.2) (found groups rest (row_of_groups c.args.sharing.now c.nodes-nodes.result c.args.count groups c.nodes-nodes.ensures.value shape) there)

pub returns-then-not-are_grouped-clause-found : goal.returns-then-not-are_grouped-clause-found
returns-then-not-are_grouped-clause-found c = λ groups rest shape there.
    let p = c.args.sharing.now in
    let most : to_z w128 (of_z w128 (pos c.args.count)) ≡ pos c.args.count = omega (arith, ints) in
    let found = rw most at c.in_ok-groups.ensures.found in
    let f = found groups rest (row_of_groups p c.nodes-nodes.result c.args.count groups c.nodes-nodes.ensures.value shape) there in
    let P : List ℤ → Type 0 = λ l. AreGrouped p l p.nodes in
    absurd (false≢true (c.if-not-are_grouped.ensures.1 (subst P (sym (c.get.ensures ∙ f.0)) (grouped_of p c.args.count groups shape))))

pub returns-clause-found : goal.returns-clause-found
returns-clause-found c = λ groups rest shape there.
    let most : to_z w128 (of_z w128 (pos c.args.count)) ≡ pos c.args.count = omega (arith, ints) in
    let found = rw most at c.in_ok-groups.ensures.found in
    found groups rest (row_of_groups c.args.sharing.now c.nodes-nodes.result c.args.count groups c.nodes-nodes.ensures.value shape) there
