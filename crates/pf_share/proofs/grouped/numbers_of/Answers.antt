use Rattle.std.proofs.Common.{take, ap, ◌∙◌}
use Rattle.pf_share.specs.Grouped.{answer_of}
use Rattle.pf_share.proofs.GroupFlow.{first_certifies}
use Rattle.pf_share.proofs.GroupRoom.{numbers_sized}
use Rattle.pf_share.proofs.grouped.numbers_of.Goals as goal

pub returns-clause-certificate : goal.returns-clause-certificate
returns-clause-certificate c =
    let a = c.args.answer.now in
    first_certifies c.args.sharing.now (answer_of a.levels a.groups c.requires.some.flow) c.nodes-arcs.ensures.limits.problem c.requires.some.certified c.write_flow.new.flow c.from_vec.result
    c.in_ok-write_flow.ensures (c.from_vec.ensures ∙ c.in_ok-first.ensures.items ∙ ap (λ n. take n c.write_flow.new.flow) c.arcs-arcs.ensures.value)

pub returns-clause-sized : goal.returns-clause-sized
returns-clause-sized c =
    numbers_sized c.args.sharing.now c.args.answer.now c.nodes-arcs.ensures.limits c.requires.shape c.requires.some c.write_flow.new.flow c.from_vec.result
    c.in_ok-write_flow.ensures (c.from_vec.ensures ∙ c.in_ok-first.ensures.items ∙ ap (λ n. take n c.write_flow.new.flow) c.arcs-arcs.ensures.value)
