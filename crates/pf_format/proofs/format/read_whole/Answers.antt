use Rattle.pf_format.proofs.Formats.{whole_read, whole_refused, whole_longer}
use Rattle.pf_format.proofs.format.read_whole.Goals as goal

pub returns-in_err-value : goal.returns-in_err-value
returns-in_err-value g c = whole_refused c.from_residual.result c.new-rest.ensures c.in_err-value.ensures c.from_residual.ensures.1

pub returns-in_err-take_end : goal.returns-in_err-take_end
returns-in_err-take_end g c =
    whole_longer c.from_residual-in_err-take_end.result (g.met.F.Format.one c.args.format.now) c.new-rest.ensures c.in_ok-value.ensures c.in_err-take_end.ensures.found
    c.from_residual-in_err-take_end.ensures.1

pub returns : goal.returns
returns g c = whole_read c.new-rest.ensures c.in_ok-value.ensures c.in_ok-take_end.ensures.taken
