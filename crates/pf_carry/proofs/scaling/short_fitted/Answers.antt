use Rattle.std.proofs.Common.{arith, ◌≤◌, ◌*◌}
use Rattle.pf_carry.proofs.Floors.{short_full}
use Rattle.pf_carry.proofs.scaling.short_fitted.Goals as goal

pub returns-then-full-sent : goal.returns-then-full-sent
returns-then-full-sent c =
    let le : c.args.cap * c.args.from ≤ c.args.x * c.args.to = omega (arith, c.in_ok-full.ensures.1, c.in_ok-sent.ensures.1, c.if-full-sent.true) in
    short_full c.args.from c.args.to c.args.cap c.args.x c.requires le
