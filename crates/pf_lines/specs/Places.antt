-- Where a reader of lines stands.
use Rattle.std.specs.Prelude.{ℕ, ◌+◌, List}
use Rattle.pf_text.specs.Lines.{Line, lines_from}

-- the number of the last line that was given, 0 before the first, and the text after that line
pub record Place : Type 0 where
  pub number : ℕ
  pub rest : List ℕ

-- the lines that are still to come
abbrev pub lines_left : Place → List Line
lines_left place = lines_from (place.number + 1) place.rest

-- the place after a line
abbrev pub behind : Line → Place
behind line = record { number = line.number; rest = line.rest }
