use Rattle.std.proofs.Common.{◌≡◌, map, subst, rules}
use Rattle.std.proofs.lemmas.Int.{to_z-of_z}
use Rattle.std.specs.Int.{w128}
use mir.Val.{SFits}
use Rattle.pf_model.specs.Digraph.{Digraph}
use Rattle.pf_model.specs.Flow.{flow_value}
use Rattle.pf_model.specs.Network.{ends_of}
use Rattle.pf_par.proofs.writing.print_point.Goals as goal

pub returns : goal.returns
returns g c =
    let fits : SFits w128 c.value-sum.result = search rules in
    let sum : c.value-sum.result ≡ flow_value (map ends_of c.args.net.now.arcs) c.args.flow.now c.args.net.now.source =
    subst (λ (graph : Digraph). c.value-sum.result ≡ flow_value graph.ends c.args.flow.now c.args.net.now.source) c.frame.ensures.frame (rw c.source.ensures at c.value-sum.ensures) in
    rw (to_z-of_z w128 c.value-sum.result fits, sum) at c.print_fraction_row.ensures
