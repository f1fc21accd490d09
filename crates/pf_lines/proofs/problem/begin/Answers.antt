use Rattle.std.proofs.Common.{map, ap, ◌∙◌}
use Rattle.pf_lines.specs.Patterns.{pattern_of}
use Rattle.pf_lines.proofs.HeaderLemmas.{header_refused, header_fits, header_begins}
use Rattle.pf_lines.proofs.problem.begin.Goals as goal

pub returns-in-Err : goal.returns-in-Err
returns-in-Err g c =
    header_refused (g.K.ProblemKind.kind c.args.kind.now) c.args.line.now c.name.result.now (map pattern_of c.header.result.now) c.in-Err.bad c.name.ensures c.header.ensures.are c.in-Err.ensures

pub start-requires : goal.start-requires
start-requires g c =
    rw c.as_slice.ensures
    (header_fits (g.K.ProblemKind.kind c.args.kind.now) c.args.line.now c.name.result.now (map pattern_of c.header.result.now) c.in-Ok.numbers.items c.header.ensures.are c.in-Ok.ensures)

pub returns-in-Ok-start : goal.returns-in-Ok-start
returns-in-Ok-start g c =
    header_begins (g.K.ProblemKind.kind c.args.kind.now) c.args.line.now c.name.result.now (map pattern_of c.header.result.now) c.in-Ok.numbers.items
    (g.K.ProblemKind.header_of c.in-Ok-start.state) (g.K.ProblemKind.given_of c.in-Ok-start.state) c.name.ensures c.header.ensures.are c.in-Ok.ensures
    (c.in-Ok-start.ensures.header ∙ c.as_slice.ensures)
    (c.in-Ok-start.ensures.given ∙ ap (g.K.ProblemKind.kind c.args.kind.now).start c.as_slice.ensures)
