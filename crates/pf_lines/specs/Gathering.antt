-- What a reader of problems asks of a kind of text, and what the lines make of what was given.
use Rattle.std.specs.Prelude.{◌≡◌, ℕ, ◌+◌, ◌&&◌, ◌==◌, List, ℤ, Result, Ok, Err, if◌then◌else◌}
use Rattle.pf_text.specs.declared.RuleKind.{RuleKind}
use Rattle.pf_text.specs.declared.TextBad.{TextBad}
use Rattle.pf_text.specs.declared.TextBad.TheVariants.{Rule, Count}
use Rattle.pf_text.specs.Lines.{Line}
use Rattle.pf_text.specs.Kinds.{Form, Kind, State, Accepted, rule_at, and_then, refuse_if, problem_of_lines}
use Rattle.pf_lines.specs.declared.errors.ReadBad.{ReadBad}
use Rattle.pf_lines.specs.declared.errors.ReadBad.TheVariants.{Text}
use Rattle.pf_lines.specs.declared.errors.LineBad.{LineBad}
use Rattle.pf_lines.specs.declared.errors.LineBad.TheVariants.{Broken, NoMemory}
use Rattle.pf_lines.specs.Places.{Place}

-- The result is what the rules decide: this value of what was made, or the rule that is broken. Running out of memory says nothing.
abbrev pub ObeysRules : {X Y : Type 0} → Result Y RuleKind → (X → Y) → Result X LineBad → Type 0
ObeysRules decided value (Ok x) = decided ≡ Ok (value x)
ObeysRules decided value (Err (Broken rule)) = decided ≡ Err rule
ObeysRules decided value (Err NoMemory) = Unit {0}

-- the refusal of the line of this number
abbrev pub line_refusal : ℕ → LineBad → ReadBad
line_refusal n (Broken rule) = Text (Rule n rule)
line_refusal n NoMemory = Rattle.pf_lines.specs.declared.errors.ReadBad.TheVariants.NoMemory

-- lines that give this problem
pub record AreLinesOf {G P : Type 0} (kind : Kind G P) (problem : P) : Type 0 where
  pub lines : List Line
  pub read : Accepted P
  pub judged : problem_of_lines kind lines ≡ Ok read
  pub problem_is : read.problem ≡ problem

-- where what was given makes a problem, there are lines that give it: so what holds of every accepted text holds of it
abbrev pub ComesFromLines : {G P : Type 0} → Kind G P → List ℤ → G → Type 0
ComesFromLines {G} {P} kind numbers given = (problem : P) → kind.problem numbers given ≡ Ok problem → AreLinesOf kind problem

-- what a text has given so far: the numbers of its header, how many lines were counted, and the rest
abbrev pub state_of : {G : Type 0} → List ℤ → ℕ → G → State G
state_of numbers counted given = record { header_numbers = numbers; counted_lines = counted; given = given }

-- what is judged of a line of this form with these numbers, each in its range: the count is tested first, then the rules
abbrev pub judged_by : {G P : Type 0} → Kind G P → State G → ℕ → Form G → List ℤ → Result (State G) TextBad
judged_by kind state n form numbers =
    refuse_if (form.is_counted && (state.counted_lines == kind.count state.header_numbers)) (Count n)
    (and_then (rule_at n (form.rules numbers state.given)) λ given.
    Ok (record {
      header_numbers = state.header_numbers;
      counted_lines = (if form.is_counted then state.counted_lines + 1 else state.counted_lines);
      given = given;
    }))

-- what is judged where the line `end` at this place makes a problem of what was given
abbrev pub judged_at : {P : Type 0} → Place → Result P RuleKind → Result (Accepted P) TextBad
judged_at place made = and_then (rule_at place.number made) (λ problem. Ok (record { problem = problem; rest = place.rest; line = place.number }))
