use Rattle.std.proofs.Common.{◌≡◌, ◌-◌, length, arith, ap, sym, ◌∙◌}
use Rattle.pf_dense.proofs.DensityLemmas.{written_whole}
use Rattle.pf_layers.proofs.Answering.{ratio_answer}
use Rattle.pf_layers.proofs.solving.read_ratio.Goals as goal

pub returns : goal.returns
returns c =
    let p = c.args.items.now in
    let curve = c.args.curve.now in
    let whole = written_whole _ _ c.in_ok-layers.layers.len (c.number_items.auto.layers ∙ c.deref_mut.ensures.len) (sym c.deref_mut.ensures.len ∙ ap length c.deref_mut.ensures.value) in
    let got : c.from_vec.result ≡ c.number_items.new.layers = c.from_vec.ensures ∙ whole in
    let there = c.requires in
    let some = there.division.some in
    let count = c.points.ensures.count in
    let shown = ap length c.points.ensures.points in
    ratio_answer p curve.points curve.cuts c.in_ok-levels.levels c.number_items.new.layers c.from_vec.result (length c.points.result.now - 2) c.new.result c.items-width.ensures.items there
    (omega (arith, some, count, shown)) c.number_items.ensures c.in_ok-levels.ensures.levels c.in_ok-levels.ensures.shape c.new.ensures got
