use Rattle.std.proofs.Common.{◌≡◌, arith, sym, ◌∙◌}
use Rattle.std.proofs.lemmas.Int.{ints}
use Rattle.pf_sweep.specs.Parameters.{fraction_of}
use Rattle.pf_sweep.proofs.Keeping.{kept_between}
use Rattle.pf_sweep.proofs.sweep.row_between.Goals as goal

pub row_of-requires-clause-smallest : goal.row_of-requires-clause-smallest
row_of-requires-clause-smallest c =
    let same : c.line_value.result ≡ c.args.least = omega (arith, ints, c.if-line_value-least.true) in
    kept_between c.args.net.now (fraction_of c.args.at.now) (fraction_of c.args.later.now) c.args.cut.now c.args.least c.frame.ensures.built c.requires.inside c.requires.far c.requires.before
    c.requires.kept c.requires.least (sym c.line_value.ensures ∙ same)
