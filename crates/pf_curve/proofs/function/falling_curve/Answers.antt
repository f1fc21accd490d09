use Rattle.std.proofs.Common.{ap, ◌∙◌}
use Rattle.pf_model.specs.Network.{Network}
use Rattle.pf_model.specs.Mirror.{other_sense}
use Rattle.pf_curve.proofs.TurnedCurves.{made_turned, rows_turned, whole_back, certified_back, whole_shape_back}
use Rattle.pf_curve.proofs.function.falling_curve.Goals as goal

pub search-requires : goal.search-requires
search-requires c = ap (λ (net : Network). net.sense) c.in_ok-other.ensures ∙ ap other_sense c.requires

pub curve_with-requires : goal.curve_with-requires
curve_with-requires c =
    rows_turned c.in_ok-searched.searched.found c.in_ok-seen.seen c.in_ok-searched.searched.rows c.turned_rows.result c.in_ok-seen.ensures c.turned_rows.ensures
    c.in_ok-searched.ensures.flows.count

pub returns-clause-curve : goal.returns-clause-curve
returns-clause-curve c =
    let found = c.in_ok-searched.searched.found in
    let rows = c.in_ok-searched.searched.rows in
    let is = made_turned found c.in_ok-seen.seen rows c.turned_rows.result c.in_ok-made.made c.in_ok-seen.ensures c.turned_rows.ensures c.in_ok-made.ensures in
    whole_back c.args.net.now c.in_ok-other.other found rows c.in_ok-made.made c.in_ok-other.ensures c.in_ok-searched.ensures.curve is

pub returns-clause-certificate : goal.returns-clause-certificate
returns-clause-certificate c =
    let found = c.in_ok-searched.searched.found in
    let rows = c.in_ok-searched.searched.rows in
    let is = made_turned found c.in_ok-seen.seen rows c.turned_rows.result c.in_ok-made.made c.in_ok-seen.ensures c.turned_rows.ensures c.in_ok-made.ensures in
    certified_back c.args.net.now c.in_ok-other.other found rows c.in_ok-made.made c.in_ok-other.ensures c.in_ok-searched.ensures.monotone c.in_ok-searched.ensures.curve
    c.in_ok-searched.ensures.flows is

pub returns-clause-shape : goal.returns-clause-shape
returns-clause-shape c =
    let found = c.in_ok-searched.searched.found in
    let rows = c.in_ok-searched.searched.rows in
    let is = made_turned found c.in_ok-seen.seen rows c.turned_rows.result c.in_ok-made.made c.in_ok-seen.ensures c.turned_rows.ensures c.in_ok-made.ensures in
    whole_shape_back c.args.net.now c.in_ok-other.other found rows c.in_ok-made.made c.in_ok-other.ensures c.in_ok-searched.ensures.curve c.in_ok-searched.ensures.shape
    c.in_ok-searched.ensures.flows is
