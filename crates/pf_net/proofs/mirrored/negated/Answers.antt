use Rattle.std.proofs.Common.{arith}
use Rattle.std.proofs.lemmas.Int.{ints}
use Rattle.pf_net.proofs.MirrorLemmas.{negated_is}
use Rattle.pf_net.proofs.mirrored.negated.Goals as goal

pub new-requires : goal.new-requires
new-requires c =
    let b = c.p.ensures.bounds in
    let p_low = b.p_low in
    let p_high = b.p_high in
    let q_low = b.parameter in
    let q_high = b.q_high in
    let p_is = c.p.ensures.value in
    let q_is = c.q.ensures.value in
    record {
      p_low = omega (arith, ints, p_low, p_high, p_is);
      p_high = omega (arith, ints, p_low, p_high, p_is);
      parameter = omega (arith, ints, q_low, q_high, q_is);
      q_high = omega (arith, ints, q_low, q_high, q_is);
    }

pub returns : goal.returns
returns c =
    let b = c.p.ensures.bounds in
    let p_low = b.p_low in
    let p_high = b.p_high in
    let q_low = b.parameter in
    let q_high = b.q_high in
    let p_is = c.p.ensures.value in
    let q_is = c.q.ensures.value in
    negated_is c.args.x.now c.new.result _ _ b c.p.ensures.lowest c.new.ensures.value
    (omega (arith, ints, p_low, p_high, p_is)) (omega (arith, ints, q_low, q_high, q_is))
