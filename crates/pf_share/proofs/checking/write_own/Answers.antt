use Rattle.std.proofs.Common.{arith, refl, ◌∙◌}
use Rattle.std.proofs.lemmas.Int.{ints}
use Rattle.std.proofs.lemmas.List.{length-set}
use Rattle.pf_share.proofs.CheckLemmas.{own_more}
use Rattle.pf_share.proofs.checking.write_own.Goals as goal

pub nodes-preserved : goal.nodes-preserved
nodes-preserved c =
    let l = c.own_share.ensures.low in
    let h = c.own_share.ensures.high in
    let wide = c.nodes.invariant.full in
    let many = c.nodes-count.ensures.value in
    record {
      full = length-set c.nodes.sums c.nodes.v _ ∙ wide;
      own = own_more c.args.sharing.now c.args.answer.now c.nodes.v c.nodes.sums _ _ c.own_share.result c.nodes.invariant.own
          (omega (arith, c.nodes-test.true, many, wide, c.requires.places)) refl (omega (arith, ints, l, h)) c.own_share.ensures.value l h;
    }
