use Rattle.std.proofs.Common.{◌≡◌, Some, refl, sym, ap, ◌∙◌}
use Rattle.pf_par.specs.Text.{ParameterInterval}
use Rattle.pf_par.proofs.EndLemmas.{good_network}
use Rattle.pf_par.proofs.given.ParState.network.Goals as goal

pub from_setting-requires : goal.from_setting-requires
from_setting-requires c =
    let m = c.in-Some-Some-Some in
    let s = c.args.self in
    let interval : ParameterInterval = record { low = c.interval.inside.low; high = c.interval.inside.high } in
    let is : s.interval ≡ Some interval = m.is-0 ∙ ap Some (sym c.interval.view_is) in
    good_network s.nodes s.sense s.interval s.source s.sink s.arcs.items c.sense_or_rising-sense.result interval interval.low interval.high m.s m.t
    c.sense_or_rising-sense.ensures refl refl is m.is-1 m.is-2 c.requires
