-- What bytes ask of a command, and what it makes of them.
use Rattle.std.proofs.Common.{◌≡◌, ℕ, ◌≤◌, ◌^◌, List, [], ◌∷◌, length, None, Result, Ok, Err, refl, ◌∙◌}
use Rattle.std.proofs.lemmas.Bool.{le-ltb}
use Rattle.pf_text.specs.declared.TextBad.{TextBad}
use Rattle.pf_text.specs.declared.TextBad.TheVariants.{Syntax}
use Rattle.pf_text.specs.declared.Refusal.{Refusal}
use Rattle.pf_text.specs.declared.Refusal.TheVariants.{Text}
use Rattle.pf_text.specs.Lines.{Line, lines_from}
use Rattle.pf_text.specs.Kinds.{Accepted}
use Rattle.pf_lines.specs.Places.{Place, lines_left}
use Rattle.pf_lines.specs.declared.errors.ReadBad.{ReadBad}
use Rattle.pf_lines.specs.declared.errors.ReadBad.TheVariants as reads
use Rattle.pf_lines.specs.Reading.{Agrees}
use Rattle.pf_top.specs.Job.{Row, job_of, ProblemOf, TextCommand, answer, check, row_of}
use Rattle.pf_top.specs.Asked.{accepted, asked_of_read, asked_of_bytes}
use Rattle.pf_top.specs.Answering.{IsBadText, IsReadTo, IsRefused, IsProblemOf}

-- bytes that are not too many
asks_read : (command : TextCommand) (bytes : List ℕ) → length bytes ≤ 2 ^ 29
    → asked_of_bytes command bytes ≡ asked_of_read command ((job_of (row_of command)).read (lines_from 1 bytes))
asks_read command bytes short = rw (le-ltb (2 ^ 29) (length bytes) short) refl

-- a place that is the begin of the bytes
abbrev Begins : Place → List ℕ → Type 0
Begins start bytes = start ≡ record { number = 0; rest = bytes }

pub read_to : {P : Type 0} (row : Row) (view : P → ProblemOf row) (before after : Place) (r : Result P ReadBad) (p : P)
    → Agrees ((job_of row).read (lines_left before)) (λ p. record { problem = view p; rest = after.rest; line = after.number }) r → r ≡ Ok p
    → IsReadTo row before after (view p)
read_to row view before after r p judged e = record { judged = rw e at judged }

pub bad_text : {P : Type 0} (row : Row) (value : P → Accepted (ProblemOf row)) (before : Place) (r : Result P ReadBad) (bad : TextBad) (refusal : Refusal)
    → Agrees ((job_of row).read (lines_left before)) value r → r ≡ Err (reads.Text bad) → refusal ≡ Text bad → IsBadText row before refusal
bad_text row value before r bad refusal judged e same = record { bad = bad; judged = rw e at judged; same = same }

-- a text that is refused
pub refused_text : (command : TextCommand) (bytes : List ℕ) (start : Place) (refusal : Refusal) → length bytes ≤ 2 ^ 29 → Begins start bytes → IsBadText (row_of command) start refusal → IsRefused command bytes refusal
refused_text command bytes start refusal short begins b = rw b.same (record {
  asks = asks_read command bytes short ∙ rw (rw begins at b.judged) refl;
  short = λ e. cc;
})

-- a line after the problem
pub refused_line : (row : Row) (bytes : List ℕ) (start after : Place) (problem : ProblemOf row) (line : Line) (later : List Line) (refusal : Refusal) → length bytes ≤ 2 ^ 29
    → Begins start bytes → IsReadTo row start after problem → lines_left after ≡ line ∷ later → Text (Syntax line.number) ≡ refusal → IsRefused (answer row) bytes refusal
refused_line row bytes start after problem line later refusal short begins r behind same = rw (← same) (record {
  asks = asks_read (answer row) bytes short ∙ rw (rw begins at r.judged, behind) refl;
  short = λ e. cc;
})

pub problem_alone : (row : Row) (bytes : List ℕ) (start after : Place) (problem : ProblemOf row) → Begins start bytes → IsReadTo row start after problem → lines_left after ≡ []
    → IsProblemOf row bytes problem
problem_alone row bytes start after problem begins r alone = record { rest = after.rest; line = after.number; text = rw begins at r.judged; alone = alone }

-- a problem that is not refused
pub accepted_problem : (row : Row) (bytes : List ℕ) (problem : ProblemOf row) → length bytes ≤ 2 ^ 29 → (p : IsProblemOf row bytes problem)
    → (job_of row).refusal problem ≡ None → asked_of_bytes (answer row) bytes ≡ accepted (answer row) problem p.rest
accepted_problem row bytes problem short p passed = asks_read (answer row) bytes short ∙ rw (p.text, p.alone, passed) refl

-- a problem with the text after it
pub accepted_behind : (row : Row) (bytes : List ℕ) (start after : Place) (problem : ProblemOf row) → length bytes ≤ 2 ^ 29 → Begins start bytes → IsReadTo row start after problem
    → asked_of_bytes (check row) bytes ≡ accepted (check row) problem after.rest
accepted_behind row bytes start after problem short begins r = asks_read (check row) bytes short ∙ rw (rw begins at r.judged) refl
