use Rattle.std.proofs.Common.{◌≡◌, ◌≤◌, length}
use Rattle.pf_text.specs.Kinds.{body}
use Rattle.pf_lines.specs.Gathering.{state_of}
use Rattle.pf_lines.specs.Places.{lines_left}
use Rattle.pf_lines.specs.Reading.{HasPassed}
use Rattle.pf_lines.proofs.problem.take_lines.Given as goal

abbrev pub invariant-lines : goal.invariant-lines
invariant-lines g l = record {
  same : body (g.K.ProblemKind.kind l.kind) (state_of (g.K.ProblemKind.header_of l.fn.state) 0 (g.K.ProblemKind.given_of l.fn.state)) (lines_left l.fn.lines)
      ≡ body (g.K.ProblemKind.kind l.kind) (state_of (g.K.ProblemKind.header_of l.state) l.counted (g.K.ProblemKind.given_of l.state)) (lines_left l.lines);
  header : g.K.ProblemKind.header_of l.state ≡ g.K.ProblemKind.header_of l.fn.state;
  room : l.counted ≤ l.most;
  passed : HasPassed l.fn.lines l.lines;
}

abbrev pub decreases-lines : goal.decreases-lines
decreases-lines g l = length (lines_left l.lines)
