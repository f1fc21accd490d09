use Rattle.std.proofs.Common.{◌≡◌, ◌++◌, ℕ, List, take, drop, map}
use Rattle.std.specs.Fmt.{decimal}
use Rattle.pf_text.specs.Spelling.{spaced}
use Rattle.pf_lines.specs.Taking.{Stops}
use Rattle.pf_lines.proofs.taking.take_indices.Given as goal

abbrev pub invariant-items : goal.invariant-items
invariant-items l = record {
  taken : l.fn.text ≡ spaced (map decimal (take l.index-index l.indices)) ++ l.text;
  found : (rest : List ℕ) → Stops rest → l.fn.text ≡ spaced (map decimal l.indices) ++ rest → l.text ≡ spaced (map decimal (drop l.index-index l.indices)) ++ rest;
}
