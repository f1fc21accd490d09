-- The judgement of a text, one line at a time, for every kind of text.
use Rattle.std.proofs.Common.{◌≡◌, ℕ, ◌+◌, ◌≤◌, true, false, eqb, ◌&&◌, List, ◌∷◌, Some, Ok, refl}
use Rattle.std.specs.Prelude.{ℤ, int_le, codes, if◌then◌else◌}
use Rattle.std.proofs.lemmas.Bool.{le-ltb}
use Rattle.pf_text.specs.Lines.{Line, lines_from}
use Rattle.pf_text.specs.Kinds.{FieldPattern, number, word, Form, Kind, State, Match, numbers_by, are_in_range, match_of, is_wrong_kind, header, step, is_end, end_line, body, problem_of}

pub problem_of_header : {G P : Type 0} (kind : Kind G P) (text : List ℕ) (line : Line) (later : List Line) (state : State G)
    → lines_from 1 text ≡ line ∷ later → header kind line ≡ Ok state → problem_of kind text ≡ body kind state later
unfolding problem_of
problem_of_header kind text line later state lines ok = rw (lines, ok) refl

pub header_ok : {G P : Type 0} (kind : Kind G P) (line : Line) (numbers : List ℤ) → is_wrong_kind kind.name line.fields ≡ false
    → numbers_by (word (codes "p") ∷ word kind.name ∷ kind.header_patterns) line.fields ≡ Some numbers → are_in_range kind.header_patterns numbers ≡ true
    → header kind line ≡ Ok (record { header_numbers = numbers; counted_lines = 0; given = kind.start numbers })
unfolding header
header_ok kind line numbers right some inside = rw (right, some, inside) refl

pub body_end : {G P : Type 0} (kind : Kind G P) (state : State G) (line : Line) (later : List Line)
    → is_end line.fields ≡ true → body kind state (line ∷ later) ≡ end_line kind state line
body_end kind state line later ends = rw ends refl

pub body_step : {G P : Type 0} (kind : Kind G P) (state next : State G) (line : Line) (later : List Line)
    → is_end line.fields ≡ false → step kind state line ≡ Ok next → body kind state (line ∷ later) ≡ body kind next later
body_step kind state next line later goes ok = rw (goes, ok) refl

-- a counted line that is not one too many, and a line that is not counted
abbrev pub HasPlace : {G P : Type 0} → Kind G P → State G → Form G → Type 0
HasPlace kind state form = (form.is_counted && eqb state.counted_lines (kind.count state.header_numbers)) ≡ false

pub step_ok : {G P : Type 0} (kind : Kind G P) (state : State G) (line : Line) (found : Match G) (given : G)
    → match_of (kind.forms state.header_numbers) line.fields ≡ Some found → are_in_range found.form.patterns found.numbers ≡ true
    → HasPlace kind state found.form → found.form.rules found.numbers state.given ≡ Ok given
    → step kind state line ≡ Ok (record {
      header_numbers = state.header_numbers;
      counted_lines = (if found.form.is_counted then state.counted_lines + 1 else state.counted_lines);
      given = given;
    })
unfolding step
step_ok kind state line found given some inside place ok = rw (some, inside, place, ok) refl

pub end_ok : {G P : Type 0} (kind : Kind G P) (state : State G) (line : Line) (problem : P)
    → kind.count state.header_numbers ≤ state.counted_lines → kind.problem state.header_numbers state.given ≡ Ok problem
    → end_line kind state line ≡ Ok (record { problem = problem; rest = line.rest; line = line.number })
unfolding end_line
end_ok kind state line problem all ok = rw (le-ltb _ _ all, ok) refl

pub range_ok : (low high n : ℤ) (patterns : List FieldPattern) (numbers : List ℤ) → (int_le low n && int_le n high) ≡ true → are_in_range patterns numbers ≡ true
    → are_in_range (number low high ∷ patterns) (n ∷ numbers) ≡ true
range_ok low high n patterns numbers here later = rw (here, later) refl
