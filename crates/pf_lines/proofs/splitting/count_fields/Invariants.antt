use Rattle.std.proofs.Common.{◌≡◌, ◌+◌, ◌≤◌, length}
use Rattle.pf_text.specs.Lines.{fields}
use Rattle.pf_lines.proofs.splitting.count_fields.Given as goal

abbrev pub invariant-fields : goal.invariant-fields
invariant-fields l = record {
  counted : l.count + length (fields l.rest) ≡ length (fields l.bytes);
  bound : l.count + length l.rest ≤ length l.bytes;
}

abbrev pub decreases-fields : goal.decreases-fields
decreases-fields l = length l.rest
