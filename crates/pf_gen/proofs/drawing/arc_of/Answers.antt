use Rattle.std.proofs.Common.{◌∙◌}
use Rattle.pf_gen.proofs.DrawnArcs.{drawn_source, drawn_sink, drawn_inner}
use Rattle.pf_gen.proofs.drawing.arc_of.Goals as goal

pub returns-then-k-eq0-clause-drawn : goal.returns-then-k-eq0-clause-drawn
returns-then-k-eq0-clause-drawn c = c.source_arc.ensures.drawn ∙ drawn_source c.args.n c.args.k c.args.words c.if-k-eq0.true

pub returns-then-k-eq1-clause-drawn : goal.returns-then-k-eq1-clause-drawn
returns-then-k-eq1-clause-drawn c = c.sink_arc.ensures.drawn ∙ drawn_sink c.args.n c.args.k c.args.words c.if-k-eq1.true

pub returns-clause-drawn : goal.returns-clause-drawn
returns-clause-drawn c = c.inner_arc.ensures.drawn ∙ drawn_inner c.args.n c.args.k c.args.words c.if-k-eq0.false c.if-k-eq1.false
