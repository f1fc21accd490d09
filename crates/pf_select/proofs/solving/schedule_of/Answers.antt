use Rattle.std.proofs.Common.{◌≡◌, suc, ◌-◌, length, arith, ap, refl}
use Rattle.pf_select.specs.Reduction.{select_net}
use Rattle.pf_select.proofs.Solved.{flows_wide, solved}
use Rattle.pf_select.proofs.TextLemmas.{answer_of}
use Rattle.pf_select.proofs.solving.schedule_of.Goals as goal

pub carried-requires-clause-wide : goal.carried-requires-clause-wide
carried-requires-clause-wide c = flows_wide c.args.catalogue.now (select_net c.args.catalogue.now) c.args.curve.now refl c.requires.shape

pub returns-clause-best : goal.returns-clause-best
returns-clause-best c =
    let p = c.args.catalogue.now in
    let curve = c.args.curve.now in
    let some = c.requires.shape.some in
    let points = c.points.ensures.count in
    let full = ap length c.points.ensures.points in
    let many : suc (length c.points.result.now - 2) ≡ length curve.cuts = omega (arith, some, points, full) in
    let s = solved p (select_net p) curve (answer_of c.in_ok-prices.prices c.in_ok-sets.sets c.in_ok-charges.charges) (length c.points.result.now - 2) c.parts.ensures.limits
    refl c.requires.curve c.requires.certificate c.requires.shape many c.in_ok-prices.ensures c.in_ok-sets.ensures
    c.in_ok-charges.ensures in
    rw c.new.ensures s.best

pub returns-clause-certificate : goal.returns-clause-certificate
returns-clause-certificate c =
    let p = c.args.catalogue.now in
    let curve = c.args.curve.now in
    let some = c.requires.shape.some in
    let points = c.points.ensures.count in
    let full = ap length c.points.ensures.points in
    let many : suc (length c.points.result.now - 2) ≡ length curve.cuts = omega (arith, some, points, full) in
    let s = solved p (select_net p) curve (answer_of c.in_ok-prices.prices c.in_ok-sets.sets c.in_ok-charges.charges) (length c.points.result.now - 2) c.parts.ensures.limits
    refl c.requires.curve c.requires.certificate c.requires.shape many c.in_ok-prices.ensures c.in_ok-sets.ensures
    c.in_ok-charges.ensures in
    rw c.new.ensures s.certificate

pub returns-clause-shape : goal.returns-clause-shape
returns-clause-shape c =
    let p = c.args.catalogue.now in
    let curve = c.args.curve.now in
    let some = c.requires.shape.some in
    let points = c.points.ensures.count in
    let full = ap length c.points.ensures.points in
    let many : suc (length c.points.result.now - 2) ≡ length curve.cuts = omega (arith, some, points, full) in
    let s = solved p (select_net p) curve (answer_of c.in_ok-prices.prices c.in_ok-sets.sets c.in_ok-charges.charges) (length c.points.result.now - 2) c.parts.ensures.limits
    refl c.requires.curve c.requires.certificate c.requires.shape many c.in_ok-prices.ensures c.in_ok-sets.ensures
    c.in_ok-charges.ensures in
    rw c.new.ensures s.shape
