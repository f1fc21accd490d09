use Rattle.std.proofs.Common.{◌≡◌, ◌-◌, ◌≤◌, ◌++◌, length, map}
use Rattle.pf_text.specs.Lines.{fields}
use Rattle.pf_lines.proofs.lines.first_fields.Given as goal

abbrev pub invariant-fields : goal.invariant-fields
invariant-fields l = record {
  split : fields l.bytes ≡ map (λ f. f.now) l.first.items ++ fields l.others;
  few : length l.first.items ≤ 8;
  room : l.first.capacity ≡ 8;
}

abbrev pub decreases-fields : goal.decreases-fields
decreases-fields l = 8 - length l.first.items
