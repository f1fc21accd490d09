use Rattle.std.proofs.Common.{List, Bool, arith, ap, sym, subst}
use Rattle.std.proofs.lemmas.Int.{ints}
use Rattle.pf_model.specs.Line.{AffineLine}
use Rattle.pf_model.specs.Network.{IsNetworkCut}
use Rattle.pf_piece.specs.Piece.{IsLift, piece_of}
use Rattle.pf_curve.proofs.Contracting.{cut_of, smallest_found}
use Rattle.pf_curve.proofs.CoreLines.{line_lifted, line_same}
use Rattle.pf_curve.proofs.between.write_lifted.Goals as goal

pub lift-requires-clause-cut : goal.lift-requires-clause-cut
lift-requires-clause-cut c =
    let P : List Bool → Type 0 = λ side. IsNetworkCut (piece_of c.args.core.now) side in
    subst P (sym c.as_slice.ensures.value) (cut_of (piece_of c.args.core.now) c.args.at.now c.args.chosen.now.side.items c.requires.chosen.smallest)

pub overflow_add-a : goal.overflow_add-a
overflow_add-a c =
    let P : List Bool → Type 0 = λ side. IsLift c.args.core.now side c.lift.new.side in
    let found = line_lifted c.args.core.now c.whole.result.now c.args.at.now c.args.line.now c.args.chosen.now.side.items c.lift.new.side c.args.chosen.now.a c.args.chosen.now.b
    c.frame.ensures.built c.whole.ensures c.requires.rising c.requires.ends c.requires.line c.requires.chosen (subst P c.as_slice.ensures.value c.lift.ensures) in
    let e = found.a_is in
    let low = found.bounded.a_low in
    let high = found.bounded.a_high in
    omega (arith, ints, e, low, high, c.a.ensures.value)

pub overflow_add-b : goal.overflow_add-b
overflow_add-b c =
    let P : List Bool → Type 0 = λ side. IsLift c.args.core.now side c.lift.new.side in
    let found = line_lifted c.args.core.now c.whole.result.now c.args.at.now c.args.line.now c.args.chosen.now.side.items c.lift.new.side c.args.chosen.now.a c.args.chosen.now.b
    c.frame.ensures.built c.whole.ensures c.requires.rising c.requires.ends c.requires.line c.requires.chosen (subst P c.as_slice.ensures.value c.lift.ensures) in
    let e = found.b_is in
    let low = found.bounded.b_low in
    let high = found.bounded.b_high in
    omega (arith, ints, e, low, high, c.b.ensures.value)

pub new-requires : goal.new-requires
new-requires c =
    let P : List Bool → Type 0 = λ side. IsLift c.args.core.now side c.lift.new.side in
    let found = line_lifted c.args.core.now c.whole.result.now c.args.at.now c.args.line.now c.args.chosen.now.side.items c.lift.new.side c.args.chosen.now.a c.args.chosen.now.b
    c.frame.ensures.built c.whole.ensures c.requires.rising c.requires.ends c.requires.line c.requires.chosen (subst P c.as_slice.ensures.value c.lift.ensures) in
    let e = found.a_is in
    let f = found.b_is in
    let bounds = found.bounded in
    let al = bounds.a_low in
    let ah = bounds.a_high in
    let bl = bounds.b_low in
    let bh = bounds.b_high in
    let va = c.a.ensures.value in
    let vb = c.b.ensures.value in
    record {
      a_low = omega (arith, ints, e, al, ah, va);
      a_high = omega (arith, ints, e, al, ah, va);
      b_low = omega (arith, ints, f, bl, bh, vb);
      b_high = omega (arith, ints, f, bl, bh, vb);
    }

pub returns-clause-smallest : goal.returns-clause-smallest
returns-clause-smallest c =
    let P : List Bool → Type 0 = λ side. IsLift c.args.core.now side c.lift.new.side in
    smallest_found c.args.core.now c.whole.result.now c.args.at.now c.args.chosen.now.side.items c.lift.new.side c.frame.ensures.built c.whole.ensures
    c.requires.rising c.requires.ends c.requires.chosen.smallest (subst P c.as_slice.ensures.value c.lift.ensures)

pub returns-clause-line : goal.returns-clause-line
returns-clause-line c =
    let P : List Bool → Type 0 = λ side. IsLift c.args.core.now side c.lift.new.side in
    let found = line_lifted c.args.core.now c.whole.result.now c.args.at.now c.args.line.now c.args.chosen.now.side.items c.lift.new.side c.args.chosen.now.a c.args.chosen.now.b
    c.frame.ensures.built c.whole.ensures c.requires.rising c.requires.ends c.requires.line c.requires.chosen (subst P c.as_slice.ensures.value c.lift.ensures) in
    let e = found.a_is in
    let f = found.b_is in
    let bounds = found.bounded in
    let al = bounds.a_low in
    let ah = bounds.a_high in
    let bl = bounds.b_low in
    let bh = bounds.b_high in
    let va = c.a.ensures.value in
    let vb = c.b.ensures.value in
    let first = ap (λ (l : AffineLine). l.a) c.new.ensures in
    let second = ap (λ (l : AffineLine). l.b) c.new.ensures in
    line_same c.new.result c.args.core.now.net c.lift.new.side (omega (arith, ints, e, al, ah, va, first)) (omega (arith, ints, f, bl, bh, vb, second))
