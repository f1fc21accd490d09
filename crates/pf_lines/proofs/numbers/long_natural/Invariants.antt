use Rattle.std.proofs.Common.{◌≡◌, true, take}
use Rattle.std.specs.List.{list_all}
use Rattle.pf_text.specs.Numbers.{is_digit, value_from}
use Rattle.pf_lines.specs.Values.{IsCappedAt}
use Rattle.pf_lines.proofs.numbers.long_natural.Given as goal

abbrev pub invariant-digits : goal.invariant-digits
invariant-digits l = record {
  all : list_all is_digit (take l.byte-index l.bytes) ≡ true;
  capped : IsCappedAt (value_from 0 (take l.byte-index l.bytes)) l.value;
}
