use Rattle.std.proofs.Common.{◌≡◌, suc, length, not, arith, sym, subst, add-one}
use Rattle.std.specs.Prelude.{pos}
use Rattle.pf_model.specs.Cut.{has}
use Rattle.pf_layers.specs.Reading.{IsNumbered, IsPut, items_in}
use Rattle.pf_layers.proofs.RatioLayered.{two_cuts}
use Rattle.pf_layers.proofs.NumberedCuts.{items_begin, items_more}
use Rattle.pf_layers.proofs.numbering.number_items.Goals as goal

pub cuts-init : goal.cuts-init
cuts-init c =
    items_begin c.args.items.now c.args.curve.now.points c.args.curve.now.cuts c.args.layers.now c.items.ensures.items c.requires.curve c.requires.ones

pub cuts-preserved : goal.cuts-preserved
cuts-preserved c =
    let p = c.args.items.now in
    let cuts = c.args.curve.now.cuts in
    let many = c.requires.count in
    let less = c.cuts-test.true in
    let j = c.cuts.j in
    subst (IsNumbered (length p.costs) (items_in p cuts) c.put_left.new.layers) (sym (add-one j))
    (items_more p c.args.curve.now.points cuts c.cuts.layers c.put_left.new.layers c.cut.result.now j c.requires.curve c.cuts.invariant (omega (arith, many, less)) c.cut.ensures
    (subst (λ n. IsPut (λ v. not (has c.cut.result.now (suc v))) (pos n) c.cuts.layers c.put_left.new.layers) (add-one j) c.put_left.ensures))

pub returns : goal.returns
returns c =
    let p = c.args.items.now in
    let cuts = c.args.curve.now.cuts in
    let some = two_cuts p c.args.curve.now.points cuts c.args.count c.items.ensures.items c.requires.curve c.requires.count in
    let end = c.cuts.auto.j-end in
    let stop = c.cuts-test.false in
    let e : c.cuts.j ≡ c.args.count = omega (arith, some, end, stop) in
    subst (IsNumbered (length p.costs) (items_in p cuts) c.cuts.layers) e c.cuts.invariant
