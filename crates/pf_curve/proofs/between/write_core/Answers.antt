use Rattle.std.proofs.Common.{List, Bool, set, true, arith, sym, subst, ap, ◌∙◌}
use Rattle.std.proofs.lemmas.Int.{ints}
use Rattle.pf_model.specs.Cut.{IsSmallestLeast}
use Rattle.pf_model.specs.Line.{AffineLine}
use Rattle.pf_model.specs.Network.{Network, IsInInterval, IsNetworkCut, network_at, cut_a, cut_b}
use Rattle.pf_curve.proofs.Contracting.{cut_of}
use Rattle.pf_curve.proofs.CoreLines.{alone_cut}
use Rattle.pf_curve.proofs.between.write_core.Goals as goal

pub cut_line-alone-requires : goal.cut_line-alone-requires
cut_line-alone-requires c =
    let P : List Bool → Type 0 = λ side. IsNetworkCut c.args.core.now (set side 0 true) in
    subst P (sym c.requires.side) (alone_cut c.args.core.now c.requires.source c.requires.sink c.requires.nodes)

pub write_cut-requires-clause-inside : goal.write_cut-requires-clause-inside
write_cut-requires-clause-inside c =
    let P : Network → Type 0 = λ net. IsInInterval net c.args.at.now in
    subst P (sym c.requires.same) c.requires.inside

pub cut_line-line-requires : goal.cut_line-line-requires
cut_line-line-requires c =
    let P : Network → Type 0 = λ net. IsSmallestLeast (network_at net c.args.at.now) c.write_cut.new.side in
    cut_of c.args.core.now c.args.at.now c.write_cut.new.side (subst P c.requires.same c.write_cut.ensures.smallest)

pub returns-clause-smallest : goal.returns-clause-smallest
returns-clause-smallest c =
    let P : Network → Type 0 = λ net. IsSmallestLeast (network_at net c.args.at.now) c.write_cut.new.side in
    subst P c.requires.same c.write_cut.ensures.smallest

pub returns-clause-a : goal.returns-clause-a
returns-clause-a c =
    let bounds = c.a.ensures.bounds in
    let bounds' = c.a-2.ensures.bounds in
    let value = c.a.ensures.value ∙ ap (λ (l : AffineLine). l.a) c.cut_line-line.ensures in
    let value' = c.a-2.ensures.value ∙ ap (λ (l : AffineLine). l.a) c.cut_line-alone.ensures ∙ ap (λ (side : List Bool). cut_a c.args.core.now (set side 0 true)) c.requires.side in
    let e = c.a.ensures.value in
    let e' = c.a-2.ensures.value in
    omega (arith, ints, value, value', e, e', bounds.a_low, bounds.a_high, bounds'.a_low, bounds'.a_high)

pub returns-clause-b : goal.returns-clause-b
returns-clause-b c =
    let bounds = c.b.ensures.bounds in
    let bounds' = c.b-2.ensures.bounds in
    let value = c.b.ensures.value ∙ ap (λ (l : AffineLine). l.b) c.cut_line-line.ensures in
    let value' = c.b-2.ensures.value ∙ ap (λ (l : AffineLine). l.b) c.cut_line-alone.ensures ∙ ap (λ (side : List Bool). cut_b c.args.core.now (set side 0 true)) c.requires.side in
    let e = c.b.ensures.value in
    let e' = c.b-2.ensures.value in
    omega (arith, ints, value, value', e, e', bounds.b_low, bounds.b_high, bounds'.b_low, bounds'.b_high)

pub returns-clause-sized : goal.returns-clause-sized
returns-clause-sized c =
    let bounds = c.a.ensures.bounds in
    let bounds' = c.a-2.ensures.bounds in
    let e = c.a.ensures.value in
    let e' = c.a-2.ensures.value in
    let f = c.b.ensures.value in
    let f' = c.b-2.ensures.value in (
      omega (arith, ints, e, e', bounds.a_low, bounds.a_high, bounds'.a_low, bounds'.a_high),
      omega (arith, ints, f, f', bounds.b_low, bounds.b_high, bounds'.b_low, bounds'.b_high),
    )
