use Rattle.std.proofs.Common.{◌≡◌, ◌<◌, ◌^◌, true, take}
use Rattle.std.specs.List.{list_all}
use Rattle.pf_text.specs.Numbers.{is_digit, value_from}
use Rattle.pf_lines.proofs.short.short_digits.Given as goal

abbrev pub invariant-digits : goal.invariant-digits
invariant-digits l = record {
  all : list_all is_digit (take l.count l.bytes) ≡ true;
  exact : l.value ≡ value_from 0 (take l.count l.bytes);
  few : l.value < 10 ^ 18;
}
