use Rattle.std.proofs.Common.{ℕ, sym, subst}
use Rattle.pf_share.specs.Tests.{AreZero}
use Rattle.pf_share.proofs.CheckLemmas.{kept_from, zero_from}
use Rattle.pf_share.proofs.checking.are_kept.Goals as goal

pub returns : goal.returns
returns c =
    let p = c.args.sharing.now in
    let a = c.args.answer.now in
    let sums = c.add_arcs.new.sums in
    let P : ℕ → Type 0 = λ n. AreZero n sums c.nodes-count.result in
    let Q : ℕ → Type 0 = λ n. AreZero p.sink sums n in (
      λ told. kept_from p a sums c.add_arcs.ensures (subst Q c.nodes-count.ensures.value (subst P c.sink-sink.ensures.value (c.are_zero.ensures.0 told))),
      λ h. c.are_zero.ensures.1 (subst P (sym c.sink-sink.ensures.value) (subst Q (sym c.nodes-count.ensures.value) (zero_from p a sums c.add_arcs.ensures h))),
    )
