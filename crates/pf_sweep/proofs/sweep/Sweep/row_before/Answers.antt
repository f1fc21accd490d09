use Rattle.std.proofs.Common.{arith}
use Rattle.std.proofs.lemmas.Int.{ints, to_z-of_z}
use Rattle.pf_rat.proofs.Products.{comes_back}
use Rattle.pf_sweep.proofs.Sweeping.{due_of, later_units, kept_later}
use Rattle.pf_sweep.proofs.sweep.Sweep.row_before.Goals as goal
use mir.Syntax.{w128}

pub row_between-requires-clause-bounds : goal.row_between-requires-clause-bounds
row_between-requires-clause-bounds c =
    let due = due_of _ _ _ _ _ _ c.args.p c.self.invariant c.self.view_is c.requires.inside c.requires.later in
    let b = due.bounds in
    rw (comes_back c.self.inside.at.unit (omega (arith, ints, b.parameter, b.q_high)), to_z-of_z w128 c.args.p c.ranges.p) b

pub row_between-requires-clause-wide : goal.row_between-requires-clause-wide
row_between-requires-clause-wide c =
    let due = due_of _ _ _ _ _ _ c.args.y c.self.invariant c.self.view_is c.requires.far (omega (arith, ints, c.requires.later, c.requires.before)) in
    let b = due.bounds in
    rw (comes_back c.self.inside.at.unit (omega (arith, ints, b.parameter, b.q_high)), to_z-of_z w128 c.args.y c.ranges.y) b

pub row_between-requires-clause-before : goal.row_between-requires-clause-before
row_between-requires-clause-before c =
    let due = due_of _ _ _ _ _ _ c.args.p c.self.invariant c.self.view_is c.requires.inside c.requires.later in
    let b = due.bounds in
    rw (comes_back c.self.inside.at.unit (omega (arith, ints, b.parameter, b.q_high)), to_z-of_z w128 c.args.p c.ranges.p, to_z-of_z w128 c.args.y c.ranges.y)
    (later_units c.self.inside.at.unit c.args.p c.args.y b.parameter c.requires.before)

pub row_between-requires-clause-kept : goal.row_between-requires-clause-kept
row_between-requires-clause-kept c =
    let due = due_of _ _ _ _ _ _ c.args.p c.self.invariant c.self.view_is c.requires.inside c.requires.later in
    let b = due.bounds in
    rw (comes_back c.self.inside.at.unit (omega (arith, ints, b.parameter, b.q_high)), to_z-of_z w128 c.args.p c.ranges.p)
    (kept_later _ c.self.inside.at.unit c.self.inside.at.p c.args.p _ b.parameter due.later c.self.invariant.kept)
