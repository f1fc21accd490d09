use Rattle.std.proofs.Common.{◌≡◌, take}
use Rattle.pf_lines.proofs.forms.kept.Given as goal

abbrev pub invariant-patterns : goal.invariant-patterns
invariant-patterns l = record {
  front : l.kept.items ≡ take l.pattern-index l.patterns;
  room : l.kept.capacity ≡ 8;
}
