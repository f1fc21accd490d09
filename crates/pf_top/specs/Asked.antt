-- What the words and the bytes ask for: the first of the refusals that applies, or a command over a problem; or the network of
-- a seed, whatever the bytes.
use Rattle.std.specs.Prelude.{◌≡◌, ℕ, ◌+◌, ◌-◌, ◌^◌, pos, false, nat_lt, if◌then◌else◌, List, [], ◌∷◌, length, Option, Some, None, Result, Ok, Err, codes}
use Rattle.std.specs.Option.{option_map, option_and_then, option_or}
use Rattle.std.specs.Str.{bytes_eq}
use Rattle.pf_model.specs.Fraction.{Fraction}
use Rattle.pf_text.specs.declared.TextBad.{TextBad}
use Rattle.pf_text.specs.declared.TextBad.TheVariants.{Syntax}
use Rattle.pf_text.specs.declared.Refusal.{Refusal}
use Rattle.pf_text.specs.declared.Refusal.TheVariants.{Text, TooLong}
use Rattle.pf_text.specs.Lines.{Line, lines_from}
use Rattle.pf_text.specs.Numbers.{natural_of, billion}
use Rattle.pf_text.specs.Kinds.{Accepted}
use Rattle.pf_text.specs.Verdict.{verdict_text, IsRightVerdict}
use Rattle.pf_text.specs.Words.{natural_within, fraction_of_numbers, cut_at_slash, parameter_of}
use Rattle.pf_top.specs.Job.{at, sweep, trees, reinforce, layers, named, job_of, ProblemOf, TextCommand, answer, check, row_of, Command, reads, draws}
use Rattle.pf_top.specs.declared.words.Name.{Name}
use Rattle.pf_top.specs.declared.words.Name.TheVariants.{Curve, Closure, Densest, Strength, Select, Partition, Share}

-- what stands in a list beside the first word that is this one
abbrev pub beside : {A : Type 0} → List (List ℕ × A) → List ℕ → Option A
beside [] word = None
beside (entry ∷ others) word = if bytes_eq word entry.0 then Some entry.1 else beside others word

-- the names of jobs that a word alone asks for, and that `check` knows
abbrev pub names : List (List ℕ × Name)
names = (codes "curve", Curve) ∷ (codes "closure", Closure) ∷ (codes "densest", Densest) ∷ (codes "strength", Strength) ∷ (codes "select", Select) ∷ (codes "partition", Partition) ∷ (codes "share", Share) ∷ []

-- the words that stand alone and that `check` does not know, and what they ask for
abbrev pub lone_words : List (List ℕ × Command)
lone_words = (codes "layers", reads (answer layers)) ∷ []

-- the level of two texts of digits in lowest terms, with both numbers in their ranges
abbrev pub level_of_parts : List ℕ → List ℕ → Option Fraction
level_of_parts front back = fraction_of_numbers (option_map pos (natural_within 0 billion (natural_of front))) (natural_within 1 billion (natural_of back))

-- the level `P/Q` of a word
unfoldable pub level_of : List ℕ → Option Fraction
level_of bytes = cut_at_slash level_of_parts bytes

-- the words that have a second one after them, and what both then ask for, if the second has its form
abbrev pub first_words : List (List ℕ × (List ℕ → Option Command))
first_words =
    (codes "at", λ second. option_map (λ x. reads (answer (at x))) (parameter_of second))
    ∷ (codes "check", λ second. option_map (λ name. reads (check (named name))) (beside names second))
    ∷ (codes "sweep", λ second. option_map (λ k. reads (answer (sweep k))) (natural_within 1 100000 (natural_of second)))
    ∷ (codes "trees", λ second. option_map (λ k. reads (answer (trees k))) (natural_within 1 500 (natural_of second)))
    ∷ (codes "reinforce", λ second. option_map (λ x. reads (answer (reinforce x))) (level_of second))
    ∷ (codes "generate", λ second. option_map draws (natural_within 0 (2 ^ 64 - 1) (natural_of second)))
    ∷ []

-- the command of the words, where they have one of its forms
unfoldable pub command_of : List (List ℕ) → Option Command
command_of (first ∷ []) = option_or (option_map (λ name. reads (answer (named name))) (beside names first)) (beside lone_words first)
command_of (first ∷ second ∷ []) = option_and_then (λ read. read second) (beside first_words first)
command_of words = None

-- the refusal of the first of these lines, where there is one
abbrev pub refusal_of_lines : List Line → Option Refusal
refusal_of_lines [] = None
refusal_of_lines (line ∷ later) = Some (Text (Syntax line.number))

-- what is refused of the text after the problem: a line that is neither blank nor a comment, where no answer belongs there
abbrev pub refusal_behind : (command : TextCommand) → Accepted (ProblemOf (row_of command)) → Option Refusal
refusal_behind (answer row) read = refusal_of_lines (lines_from (read.line + 1) read.rest)
refusal_behind (check row) read = None

-- what the command refuses of a problem
abbrev pub problem_refusal : (command : TextCommand) → ProblemOf (row_of command) → Option Refusal
problem_refusal (answer row) problem = (job_of row).refusal problem
problem_refusal (check row) problem = None

-- what is asked
pub data Asked : Type 0 where
  usage : Asked
  refused : Refusal → Asked
  accepted : (command : TextCommand) → ProblemOf (row_of command) → List ℕ → Asked
  drawn : ℕ → Asked

-- the refusal, where there is one, and else what follows
abbrev pub unless : Option Refusal → Asked → Asked
unless (Some refusal) next = refused refusal
unless None next = next

-- what a command asks of the problem that its text gives
abbrev pub asked_of_read : (command : TextCommand) → Result (Accepted (ProblemOf (row_of command))) TextBad → Asked
asked_of_read command (Err bad) = refused (Text bad)
asked_of_read command (Ok read) = unless (refusal_behind command read) (unless (problem_refusal command read.problem) (accepted command read.problem read.rest))

-- what a command asks of the bytes
abbrev pub asked_of_bytes : TextCommand → List ℕ → Asked
asked_of_bytes command bytes =
    if nat_lt (2 ^ 29) (length bytes) then refused TooLong
    else asked_of_read command ((job_of (row_of command)).read (lines_from 1 bytes))

-- what words of this form ask of the bytes, which are not looked at where nothing is read
abbrev pub asked_by : Option Command → List ℕ → Asked
asked_by None bytes = usage
asked_by (Some (reads command)) bytes = asked_of_bytes command bytes
asked_by (Some (draws seed)) bytes = drawn seed

-- what the words ask of the bytes
unfoldable pub asked : List (List ℕ) → List ℕ → Asked
asked words bytes = asked_by (command_of words) bytes

-- The text is that of a right answer to the command for this problem, with this text after it.
abbrev pub IsRight : (command : TextCommand) → ProblemOf (row_of command) → List ℕ → List ℕ → Type 0
IsRight (answer row) problem rest text = (job_of row).IsRight problem text
IsRight (check row) problem rest text = IsRightVerdict ((job_of row).Certifies problem rest) text

-- the command asks for a verdict, and the text is that of `no`
abbrev pub SaysNo : TextCommand → List ℕ → Type 0
SaysNo (answer row) text = ⊥
SaysNo (check row) text = text ≡ verdict_text false
