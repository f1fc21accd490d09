use Rattle.std.proofs.Common.{refl, arith}
use Rattle.pf_graph.specs.Gathered.{header_of}
use Rattle.pf_graph.proofs.LineLemmas.{edge_numbers}
use Rattle.pf_graph.proofs.gathering.GraphState.edge_line.Goals as goal

pub returns-clause-obeys : goal.returns-clause-obeys
returns-clause-obeys c =
    let s = c.args.self.now in
    edge_numbers s.vertex_count (header_of s) c.args.numbers.now s.costs s.prices s.ends.items c.push.new.self.items s.weights.items c.push-2.new.self.items
    c.index_of-u.result c.index_of-v.result c.amount-weight.result refl (omega arith) c.requires c.index_of-u.ensures c.index_of-v.ensures c.amount-weight.ensures
    c.if-u-v.false c.in_ok-push.ensures.items c.in_ok-push-2.ensures.items
