use Rattle.std.proofs.Common.{List, length, drop, arith, ap, sym, ◌∙◌, subst}
use Rattle.std.specs.Prelude.{Bool}
use Rattle.pf_model.specs.Cut.{IsSmallestLeast, size}
use Rattle.pf_model.specs.Network.{network_at, line_of}
use Rattle.pf_sweep.specs.Parameters.{fraction_of}
use Rattle.pf_sweep.proofs.Keeping.{network_cut, kept_new}
use Rattle.pf_sweep.proofs.sweep.seek.Goals as goal
use Rattle.pf_model.proofs.Facts.{lent_back}

pub cut_line-line-requires : goal.cut_line-line-requires
cut_line-line-requires c =
    let e = lent_back c.args.cut.now.side.len c.write_side.new.side (drop (length c.write_side.new.side) c.args.cut.now.side.items)
    (omega (arith, c.args.cut.now.side.ok.0, c.write_side.auto.side, c.as_mut_slice.ensures.len)) in
    let P : List Bool → Type 0 = λ l. IsSmallestLeast (network_at c.args.net.now (fraction_of c.args.at.now)) l in
    network_cut c.args.net.now c.args.at.now.unit c.args.at.now.p _ (subst P (sym (c.as_slice-side.ensures.value ∙ e)) c.write_side.ensures.smallest)

pub returns-clause-kept : goal.returns-clause-kept
returns-clause-kept c =
    let e = lent_back c.args.cut.now.side.len c.write_side.new.side (drop (length c.write_side.new.side) c.args.cut.now.side.items)
    (omega (arith, c.args.cut.now.side.ok.0, c.write_side.auto.side, c.as_mut_slice.ensures.len)) in
    kept_new c.args.net.now (fraction_of c.args.at.now) c.write_side.new.side _ c.requires.rising c.requires.inside c.write_side.ensures.smallest e
    (c.cut_line-line.ensures ∙ ap (line_of c.args.net.now) c.as_slice-side.ensures.value) (c.count_nodes-size.ensures ∙ ap size c.as_slice-side.ensures.value)

pub returns-clause-smallest : goal.returns-clause-smallest
returns-clause-smallest c =
    let e = lent_back c.args.cut.now.side.len c.write_side.new.side (drop (length c.write_side.new.side) c.args.cut.now.side.items)
    (omega (arith, c.args.cut.now.side.ok.0, c.write_side.auto.side, c.as_mut_slice.ensures.len)) in
    rw e c.write_side.ensures.smallest
