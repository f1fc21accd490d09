-- What problems and answers have to do with the bytes that they are made from.
use Rattle.std.specs.Prelude.{◌≡◌, ◌≢◌, ℕ, ◌+◌, List, [], Ok, Err}
use Rattle.pf_text.specs.declared.Refusal.{Refusal}
use Rattle.pf_text.specs.declared.TextBad.{TextBad}
use Rattle.pf_text.specs.declared.Refusal.TheVariants.{Text, TooLong}
use Rattle.pf_text.specs.Lines.{lines_from}
use Rattle.pf_lines.specs.Places.{Place, lines_left}
use Rattle.pf_top.specs.Job.{Row, job_of, ProblemOf, TextCommand}
use Rattle.pf_top.specs.Asked.{refused, asked_of_bytes}
use Rattle.pf_top.specs.declared.job.Stop.{Stop}
use Rattle.pf_top.specs.declared.job.Stop.TheVariants as Stopped
use Rattle.pf_top.specs.declared.status.Status.{Status}
use Rattle.pf_top.specs.declared.status.Status.TheVariants.{Refused, NoMemory}

-- the bytes are refused, but not for their number
pub record IsRefused (command : TextCommand) (bytes : List ℕ) (refusal : Refusal) : Type 0 where
  pub asks : asked_of_bytes command bytes ≡ refused refusal
  pub short : refusal ≢ TooLong

-- the lines that are left at a place give the problem, and the other place is the one after them
pub record IsReadTo (row : Row) (before after : Place) (problem : ProblemOf row) : Type 0 where
  pub judged : (job_of row).read (lines_left before) ≡ Ok (record { problem = problem; rest = after.rest; line = after.number })

-- they are refused
pub record IsBadText (row : Row) (before : Place) (refusal : Refusal) : Type 0 where
  pub bad : TextBad
  pub judged : (job_of row).read (lines_left before) ≡ Err bad
  pub same : refusal ≡ Text bad

-- the text is that of the problem, with no line after it
pub record IsProblemOf (row : Row) (bytes : List ℕ) (problem : ProblemOf row) : Type 0 where
  pub rest : List ℕ
  pub line : ℕ
  pub text : (job_of row).read (lines_from 1 bytes) ≡ Ok (record { problem = problem; rest = rest; line = line })
  pub alone : lines_from (line + 1) rest ≡ []

-- the status of a command that made no answer
abbrev pub status_of : Stop → Status
status_of (Stopped.Refused refusal) = Refused refusal
status_of Stopped.NoMemory = NoMemory
