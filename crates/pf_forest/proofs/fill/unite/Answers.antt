use Rattle.std.proofs.Common.{◌≡◌, List, Bool, true, set, length, arith, ap, ◌∙◌, subst}
use Rattle.std.proofs.lemmas.List.{length-set}
use Rattle.pf_graph.specs.Labels.{label}
use Rattle.pf_forest.specs.Filling.{IsJoined}
use Rattle.pf_forest.proofs.Lent.{lent}
use Rattle.pf_forest.proofs.fill.unite.Goals as goal

pub returns : goal.returns
returns c =
    let t = c.requires.tables in
    let full = length-set c.as_mut_slice-side.result.now c.args.u true ∙ ap length c.as_mut_slice-side.ensures.value in
    let side = lent c.args.workspace.now.side.len c.args.workspace.now.side.items (set c.as_mut_slice-side.result.now c.args.u true) (omega (arith, c.args.workspace.now.side.ok.0)) full in
    let hits = lent c.args.workspace.now.hits.len c.args.workspace.now.hits.items c.join.new.hits (omega (arith, c.args.workspace.now.hits.ok.0)) (omega (arith, c.join.auto.hits, ap length c.as_mut_slice-hits.ensures.value)) in
    let hits_now : length c.join.new.hits ≡ length c.args.groups.now = omega (arith, c.join.auto.hits, ap length c.as_mut_slice-hits.ensures.value, t.hits_full) in
    let P : List Bool → Type 0 = λ l. IsJoined (set l c.args.u true) c.args.groups.now (label c.args.groups.now c.args.u) c.join.new.groups in
    record {
      tables = record {
        side_full = ap length side ∙ full ∙ t.side_full;
        queue_full = t.queue_full;
        via_full = t.via_full;
        rank_full = t.rank_full;
        hits_full = ap length hits ∙ hits_now;
      };
      joined = subst P c.as_mut_slice-side.ensures.value c.join.ensures.joined;
    }
