use Rattle.std.proofs.Common.{◌≡◌, ◌+◌, ◌≤◌, length, map, drop}
use Rattle.pf_text.specs.Kinds.{numbers_by}
use Rattle.pf_lines.specs.Patterns.{pattern_of}
use Rattle.pf_lines.specs.Ranges.{ranged_numbers, ranged_behind}
use Rattle.pf_lines.proofs.fields.numbers_from.Given as goal

abbrev pub invariant-fields : goal.invariant-fields
invariant-fields l = record {
  same : ranged_numbers (map pattern_of l.patterns) (drop l.from l.line.fields)
      ≡ ranged_behind l.fits l.numbers.items (map pattern_of (drop l.i l.patterns)) (numbers_by (map pattern_of (drop l.i l.patterns)) (drop (l.from + l.i) l.line.fields));
  few : length l.numbers.items ≤ l.i;
  room : l.numbers.capacity ≡ 8;
}
