use Rattle.pf_graph.proofs.SlotLemmas.{put_is}
use Rattle.pf_graph.proofs.slots.Slots.put.Goals as goal

pub returns : goal.returns
returns c = put_is c.self.inside.numbers.items c.self.inside.given.items c.args.self.now c.args.place c.args.number c.self.view_is
