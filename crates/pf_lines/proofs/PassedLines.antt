-- Lines that were taken, one after another, and the line that decided.
use Rattle.std.proofs.Common.{◌≡◌, ℕ, Bool, true, false, not, ◌&&◌, List, [], ◌∷◌, ◌++◌, Option, Some, None, Result, Ok, Err, refl, sym, ap, ◌∙◌, append_assoc, subst, ◌+◌, ◌<◌, ◌≤◌}
use Rattle.std.specs.Prelude.{ℤ, IfErr, ◌==◌}
use Rattle.pf_text.specs.declared.RuleKind.{RuleKind}
use Rattle.pf_text.specs.declared.TextBad.{TextBad}
use Rattle.pf_text.specs.declared.TextBad.TheVariants.{Syntax, Range, Count, WrongKind, Rule}
use Rattle.pf_text.specs.Lines.{Line}
use Rattle.pf_text.specs.Kinds.{Kind, State, Match, Accepted, are_in_range, match_of, is_wrong_kind, and_then, refuse_if, rule_at, state_of_header, state_of_match, header, step, end_line, is_end, body, problem_of_lines}
use Rattle.std.proofs.lemmas.Bool.{le-ltb}
use Rattle.pf_text.proofs.LinesLemmas.{given_line}
use Rattle.pf_text.proofs.KindsLemmas.{end_count}
use Rattle.pf_lines.specs.Gathering.{ComesFromLines, judged_at}
use Rattle.pf_lines.specs.declared.errors.ReadBad.{ReadBad}
use Rattle.pf_lines.specs.declared.errors.ReadBad.TheVariants.{Text, NoMemory}
use Rattle.pf_lines.specs.Places.{Place, lines_left, behind}
use Rattle.pf_lines.specs.Reading.{Agrees, refused_line, IsBehindRefusal, behind_all, HasPassed}

-- ---- places

pub passed_none : (place : Place) → HasPassed place place
passed_none place = record { passed = []; lines = refl; place = refl; front = []; rest = refl }

behind_all-push : (place : Place) (lines : List Line) (line : Line) → behind_all place (lines ++ line ∷ []) ≡ behind line
behind_all-push place [] line = refl
behind_all-push place (first ∷ later) line = behind_all-push (behind first) later line

behind_all-append : (place : Place) (lines others : List Line) → behind_all place (lines ++ others) ≡ behind_all (behind_all place lines) others
behind_all-append place [] others = refl
behind_all-append place (first ∷ later) others = behind_all-append (behind first) later others

pub passed_more : (before middle after : Place) (line : Line) → HasPassed before middle → lines_left middle ≡ line ∷ lines_left after → after ≡ behind line → HasPassed before after
passed_more before middle after line has e is =
    let suffix = (given_line (middle.number + 1) middle.rest line (lines_left after) e).suffix in
    record {
      passed = has.passed ++ line ∷ [];
      lines = has.lines ∙ ap (λ (lines : List Line). has.passed ++ lines) e ∙ sym (append_assoc has.passed (line ∷ []) (lines_left after));
      place = is ∙ sym (behind_all-push before has.passed line);
      front = has.front ++ suffix.0;
      rest =
          has.rest ∙ ap (λ (bytes : List ℕ). has.front ++ bytes) (suffix.1 ∙ ap (λ (place : Place). suffix.0 ++ place.rest) (sym is))
          ∙ sym (append_assoc has.front suffix.0 after.rest);
    }

-- where the reader stays as it is
pub passed_nothing : (before middle after : Place) → HasPassed before middle → after ≡ middle → HasPassed before after
passed_nothing before middle after has is = subst (HasPassed before) (sym is) has

-- ---- the number of the line that is refused

by_test : {X : Type 0} (n : ℕ) (test : Bool) (first : TextBad) (next : Result X TextBad) (bad : TextBad) → refused_line first ≡ Some n
    → (next ≡ Err bad → refused_line bad ≡ Some n) → refuse_if test first next ≡ Err bad → refused_line bad ≡ Some n
by_test n true first next bad is later e = let same : first ≡ bad = cc in ap refused_line (sym same) ∙ is
by_test n false first next bad is later e = later e

by_rule : {X Y : Type 0} (n : ℕ) (rules : Result X RuleKind) (next : X → Y) (bad : TextBad) → and_then (rule_at n rules) (λ given. Ok (next given)) ≡ Err bad → refused_line bad ≡ Some n
by_rule n (Ok given) next bad e = absurd cc
by_rule n (Err rule) next bad e = let same : Rule n rule ≡ bad = cc in ap refused_line (sym same)

ok_is_no_refusal : {X : Type 0} (n : ℕ) (x : X) (bad : TextBad) → Ok x ≡ Err bad → refused_line bad ≡ Some n
ok_is_no_refusal n x bad e = absurd cc

header_by_numbers : {G P : Type 0} (kind : Kind G P) (n : ℕ) (numbers : Option (List ℤ)) (bad : TextBad) → state_of_header kind n numbers ≡ Err bad → refused_line bad ≡ Some n
header_by_numbers kind n None bad e = let same : Syntax n ≡ bad = cc in ap refused_line (sym same)
header_by_numbers kind n (Some numbers) bad e = by_test n (not (are_in_range kind.header_patterns numbers)) (Range n) _ bad refl (ok_is_no_refusal n _ bad) e

pub header_refusal : {G P : Type 0} (kind : Kind G P) (line : Line) (bad : TextBad) → header kind line ≡ Err bad → refused_line bad ≡ Some line.number
unfolding header
header_refusal kind line bad e = by_test line.number (is_wrong_kind kind.name line.fields) (WrongKind line.number) _ bad refl (header_by_numbers kind line.number _ bad) e

step_by_match : {G P : Type 0} (kind : Kind G P) (state : State G) (n : ℕ) (found : Option (Match G)) (bad : TextBad) → state_of_match kind state n found ≡ Err bad → refused_line bad ≡ Some n
step_by_match kind state n None bad e = let same : Syntax n ≡ bad = cc in ap refused_line (sym same)
step_by_match kind state n (Some found) bad e =
    by_test n (not (are_in_range found.form.patterns found.numbers)) (Range n) _ bad refl
    (by_test n (found.form.is_counted && (state.counted_lines == kind.count state.header_numbers)) (Count n) _ bad refl
    (by_rule n (found.form.rules found.numbers state.given) _ bad)) e

pub step_refusal : {G P : Type 0} (kind : Kind G P) (state : State G) (line : Line) (bad : TextBad) → step kind state line ≡ Err bad → refused_line bad ≡ Some line.number
unfolding step
step_refusal kind state line bad e = step_by_match kind state line.number (match_of (kind.forms state.header_numbers) line.fields) bad e

-- after the line that is refused
pub behind_refusal : {X Y : Type 0} (judged : Result Y TextBad) (value : X → Y) (answer : ReadBad) (line : Line) (place : Place)
    → Agrees judged value (Err answer) → ((bad : TextBad) → judged ≡ Err bad → refused_line bad ≡ Some line.number) → place ≡ behind line → IsBehindRefusal answer place
behind_refusal judged value (Text bad) line place e told is = rw (told bad e, is) refl
behind_refusal judged value NoMemory line place e told is = tt

-- lines that were taken, and then others
pub passed_then : (before middle after : Place) → HasPassed before middle → HasPassed middle after → HasPassed before after
passed_then before middle after first later = record {
  passed = first.passed ++ later.passed;
  lines = first.lines ∙ ap (λ (lines : List Line). first.passed ++ lines) later.lines ∙ sym (append_assoc first.passed later.passed (lines_left after));
  place = later.place ∙ ap (λ (place : Place). behind_all place later.passed) first.place ∙ sym (behind_all-append before first.passed later.passed);
  front = first.front ++ later.front;
  rest = first.rest ∙ ap (λ (bytes : List ℕ). first.front ++ bytes) later.rest ∙ sym (append_assoc first.front later.front after.rest);
}

-- ---- what was judged of all lines

pub stepped : {G P : Type 0} (kind : Kind G P) (before after : Place) (line : Line) (state next : State G) → lines_left before ≡ line ∷ lines_left after → is_end line.fields ≡ false → step kind state line ≡ Ok next
    → body kind state (lines_left before) ≡ body kind next (lines_left after)
stepped kind before after line state next e goes ok = rw (e, goes, ok) refl

ended : {G P : Type 0} (kind : Kind G P) (before after : Place) (line : Line) (state : State G) → lines_left before ≡ line ∷ lines_left after → is_end line.fields ≡ true
    → body kind state (lines_left before) ≡ end_line kind state line
ended kind before after line state e ends = rw (e, ends) refl

-- the line `end` comes too early
pub too_few : {G P : Type 0} (kind : Kind G P) (before after : Place) (line : Line) (state : State G) (most n : ℕ) → lines_left before ≡ line ∷ lines_left after → is_end line.fields ≡ true
    → most ≡ kind.count state.header_numbers → state.counted_lines < most → n ≡ line.number → body kind state (lines_left before) ≡ Err (Count n)
too_few kind before after line state most n e ends is few same =
    ended kind before after line state e ends ∙ end_count kind state line (subst (λ m. state.counted_lines < m) is few) ∙ ap (λ m. Err (Count m)) (sym same)

-- the line `end` makes the problem
pub made_at_end : {G P : Type 0} (kind : Kind G P) (before after : Place) (line : Line) (state : State G) (most : ℕ) → lines_left before ≡ line ∷ lines_left after → is_end line.fields ≡ true
    → most ≡ kind.count state.header_numbers → most ≤ state.counted_lines → after ≡ behind line
    → body kind state (lines_left before) ≡ judged_at after (kind.problem state.header_numbers state.given)
unfolding end_line
made_at_end kind before after line state most e ends is all place =
    ended kind before after line state e ends ∙ rw (le-ltb _ _ (subst (λ m. m ≤ state.counted_lines) is all), place) refl

-- what the header begins, line by line
pub begun : {G P : Type 0} (kind : Kind G P) (before after : Place) (line : Line) (state : State G) → lines_left before ≡ line ∷ lines_left after → header kind line ≡ Ok state
    → problem_of_lines kind (lines_left before) ≡ body kind state (lines_left after)
begun kind before after line state e ok = rw (e, ok) refl

-- ---- the line `end` that decided

-- where lines come to this line `end`, they give the problem of what was given
pub comes_from_lines : {G P : Type 0} (kind : Kind G P) (lines : List Line) (place : Place) (numbers : List ℤ) (given : G)
    → problem_of_lines kind lines ≡ judged_at place (kind.problem numbers given) → ComesFromLines kind numbers given
comes_from_lines kind lines place numbers given e = λ problem made. record {
  lines = lines;
  read = record { problem = problem; rest = place.rest; line = place.number };
  judged = e ∙ ap (judged_at place) made;
  problem_is = refl;
}

-- a rule that is broken at the line `end` is that of this line
pub refused_at_end : {X P : Type 0} (place : Place) (made : Result P RuleKind) (value : X → Accepted P) (result : Result X ReadBad) → Agrees (judged_at place made) value result
    → IfErr result (λ bad. IsBehindRefusal bad place)
refused_at_end place made value (Ok x) e = tt
refused_at_end place made value (Err (Text bad)) e = rw (by_rule place.number made (λ problem. record { problem = problem; rest = place.rest; line = place.number }) bad e) refl
refused_at_end place made value (Err NoMemory) e = tt
