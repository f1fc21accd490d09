-- A line of a text is given or passed over.
use Rattle.std.proofs.Common.{◌≡◌, ℕ, ◌+◌, true, false, List, ◌∷◌}
use Rattle.pf_text.specs.Lines.{raw_lines, fields, Line, is_passed_over, lines_from}
use Rattle.pf_text.proofs.LinesLemmas.{lines_skip, lines_give}
use Rattle.pf_lines.specs.Places.{lines_left, behind}

pub lines_given : (n : ℕ) (text bytes after : List ℕ) (line : Line) → raw_lines text ≡ record { bytes = bytes; rest = after } ∷ raw_lines after
    → line ≡ record { number = n; fields = fields bytes; rest = after } → is_passed_over line.fields ≡ false → lines_from n text ≡ line ∷ lines_left (behind line)
lines_given n text bytes after line first is kept = rw is (lines_give n text bytes after first (rw is at kept))

pub lines_passed_over : (n : ℕ) (text bytes after : List ℕ) (line : Line) → raw_lines text ≡ record { bytes = bytes; rest = after } ∷ raw_lines after
    → line ≡ record { number = n; fields = fields bytes; rest = after } → is_passed_over line.fields ≡ true → lines_from n text ≡ lines_from (n + 1) after
lines_passed_over n text bytes after line first is skipped = lines_skip n text bytes after first (rw is at skipped)
