use Rattle.pf_share.proofs.ReadOff.{read_off_certifies}
use Rattle.pf_share.proofs.laws.curve_is_read.Goals as goal

pub returns : goal.returns
returns c = read_off_certifies
