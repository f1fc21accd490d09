use Rattle.std.proofs.Common.{◌≡◌, arith, to_z, of_z}
use Rattle.std.specs.Int.{w128}
use Rattle.std.proofs.lemmas.Int.{ints}
use Rattle.pf_share.proofs.answers.take_share.Goals as goal

pub returns-clause-taken : goal.returns-clause-taken
returns-clause-taken c =
    let s = c.share_of-share.ensures in
    let pl = s.p_low in
    let ph = s.p_high in
    let ql = s.q_low in
    let qh = s.q_high in
    let p : to_z w128 (of_z w128 c.share_of-share.result.p) ≡ c.share_of-share.result.p = omega (arith, ints, pl, ph) in
    let q : to_z w128 (of_z w128 c.share_of-share.result.q) ≡ c.share_of-share.result.q = omega (arith, ints, ql, qh) in
    rw (← s.value) (rw (p, q) at c.take_known_row.ensures.taken)

pub returns-clause-found : goal.returns-clause-found
returns-clause-found c =
    let s = c.share_of-share.ensures in
    let pl = s.p_low in
    let ph = s.p_high in
    let ql = s.q_low in
    let qh = s.q_high in
    let p : to_z w128 (of_z w128 c.share_of-share.result.p) ≡ c.share_of-share.result.p = omega (arith, ints, pl, ph) in
    let q : to_z w128 (of_z w128 c.share_of-share.result.q) ≡ c.share_of-share.result.q = omega (arith, ints, ql, qh) in
    rw (← s.value) (rw (p, q) at c.take_known_row.ensures.found)
