-- What the header begins and each line keeps holds where the line `end` stands: for every kind of text.
use Rattle.std.proofs.Common.{◌≡◌, ℕ, ◌+◌, ◌≤◌, Bool, true, false, cond, eqb, not, ◌&&◌, List, [], ◌∷◌, Option, Some, None, Result, Ok, Err, refl, sym, subst, arith}
use Rattle.std.specs.Prelude.{ℤ, ◌≤ℤ◌, int_le, codes, if◌then◌else◌}
use Rattle.std.specs.List.{AllByRecursion}
use Rattle.std.specs.Option.{option_map}
use Rattle.std.specs.Str.{bytes_eq}
use Rattle.std.proofs.lemmas.Bool.{ltb-false}
use Rattle.std.proofs.lemmas.Int.{ints}
use Rattle.pf_text.specs.declared.RuleKind.{RuleKind}
use Rattle.pf_text.specs.declared.TextBad.{TextBad}
use Rattle.pf_text.specs.Lines.{Line, lines_from}
use Rattle.pf_text.specs.Numbers.{whole_of}
use Rattle.pf_text.specs.Kinds.{FieldPattern, number, word, Fits, Form, Kind, State, Accepted, Match, with_number, numbers_by, are_in_range, first_of, match_of, rule_at, and_then, refuse_if, state_of_header, state_of_match, header, step, is_end, end_line, body, problem_of_lines, problem_of, broken_if}

-- ---- the numbers of a line

record HasNumber (a : Option ℤ) (b : Option (List ℤ)) (numbers : List ℤ) : Type 0 where
  pub first : ℤ
  pub others : List ℤ
  pub field : a ≡ Some first
  pub fields : b ≡ Some others
  pub all : numbers ≡ first ∷ others

has_number : (a : Option ℤ) (b : Option (List ℤ)) (numbers : List ℤ) → with_number a b ≡ Some numbers → HasNumber a b numbers
has_number (Some n) (Some others) numbers e = record { first = n; others = others; field = refl; fields = refl; all = cc }
has_number (Some n) None numbers e = absurd cc
has_number None b numbers e = absurd cc

both : (a b : Bool) → (a && b) ≡ true → (a ≡ true) × (b ≡ true)
both true true e = (refl, refl)
both true false e = absurd cc
both false b e = absurd cc

le_from_test : (a b : ℤ) → int_le a b ≡ true → a ≤ℤ b
le_from_test a b e = omega (arith, ints, e)

if_some : (b : Bool) (x : Option (List ℤ)) (numbers : List ℤ) → cond b x None ≡ Some numbers → x ≡ Some numbers
if_some true x numbers e = e
if_some false x numbers e = absurd cc

-- numbers that were found, and that lie in their ranges
pub fits : (patterns : List FieldPattern) (fields : List (List ℕ)) (numbers : List ℤ)
    → numbers_by patterns fields ≡ Some numbers → are_in_range patterns numbers ≡ true → Fits patterns numbers
fits [] [] [] e r = tt
fits [] [] (n ∷ numbers) e r = absurd cc
fits [] (field ∷ fields) numbers e r = absurd cc
fits (number low high ∷ patterns) [] numbers e r = absurd cc
fits (number low high ∷ patterns) (field ∷ fields) numbers e r =
    let has = has_number (whole_of field) (numbers_by patterns fields) numbers e in
    let inside : are_in_range (number low high ∷ patterns) (has.first ∷ has.others) ≡ true = subst (λ (ns : List ℤ). are_in_range (number low high ∷ patterns) ns ≡ true) has.all r in
    let parts = both (int_le low has.first && int_le has.first high) (are_in_range patterns has.others) inside in
    let range = both (int_le low has.first) (int_le has.first high) parts.0 in
    subst (λ (ns : List ℤ). Fits (number low high ∷ patterns) ns) (sym has.all)
    (le_from_test low has.first range.0, le_from_test has.first high range.1, fits patterns fields has.others has.fields parts.1)
fits (word w ∷ patterns) [] numbers e r = absurd cc
fits (word w ∷ patterns) (field ∷ fields) numbers e r = fits patterns fields numbers (if_some (bytes_eq field w) (numbers_by patterns fields) numbers e) r

-- ---- what an answer that is Ok says of its parts

refuse_ok : {X : Type 0} (test : Bool) (bad : TextBad) (next : Result X TextBad) (x : X) → refuse_if test bad next ≡ Ok x → (test ≡ false) × (next ≡ Ok x)
refuse_ok true bad next x e = absurd cc
refuse_ok false bad next x e = (refl, e)

record Goes {A B : Type 0} (r : Result A TextBad) (next : A → Result B TextBad) (y : B) : Type 0 where
  pub value : A
  pub ok : r ≡ Ok value
  pub then_ok : next value ≡ Ok y

and_then_ok : {A B : Type 0} (r : Result A TextBad) (next : A → Result B TextBad) (y : B) → and_then r next ≡ Ok y → Goes r next y
and_then_ok (Ok x) next y e = record { value = x; ok = refl; then_ok = e }
and_then_ok (Err bad) next y e = absurd cc

rule_ok : {X : Type 0} (n : ℕ) (r : Result X RuleKind) (x : X) → rule_at n r ≡ Ok x → r ≡ Ok x
rule_ok n (Ok y) x e = cc
rule_ok n (Err rule) x e = absurd cc

pub not_false : (b : Bool) → not b ≡ false → b ≡ true
not_false true e = refl
not_false false e = absurd cc

-- ---- the form of a line

-- what holds of each form of a list holds of the form that was found, with the numbers that it found
abbrev pub HoldsOf : {G : Type 0} → (Form G → List ℤ → Type 0) → Form G → Type 0
HoldsOf P form = (numbers : List ℤ) → Fits form.patterns numbers → P form numbers

found_first : {G : Type 0} (P : Form G → List ℤ → Type 0) (form : Form G) (fields : List (List ℕ)) (found : Match G) (numbers : Option (List ℤ)) (others : Option (Match G))
    → numbers_by form.patterns fields ≡ numbers → HoldsOf P form
    → (others ≡ Some found → are_in_range found.form.patterns found.numbers ≡ true → P found.form found.numbers)
    → first_of (option_map (λ ns. record { form = form; numbers = ns }) numbers) others ≡ Some found
    → are_in_range found.form.patterns found.numbers ≡ true → P found.form found.numbers
found_first {G} P form fields found None others is holds later e r = later e r
found_first {G} P form fields found (Some ns) others is holds later e r =
    let here : Match G = record { form = form; numbers = ns } in
    let same : here ≡ found = cc in
    let range : are_in_range form.patterns ns ≡ true = subst (λ (m : Match G). are_in_range m.form.patterns m.numbers ≡ true) (sym same) r in
    subst (λ (m : Match G). P m.form m.numbers) same (holds ns (fits form.patterns fields ns is range))

pub found_holds : {G : Type 0} (P : Form G → List ℤ → Type 0) (forms : List (Form G)) (fields : List (List ℕ)) (found : Match G) → AllByRecursion (HoldsOf P) forms
    → match_of forms fields ≡ Some found → are_in_range found.form.patterns found.numbers ≡ true → P found.form found.numbers
found_holds P [] fields found all e r = absurd cc
found_holds P (form ∷ forms) fields found all e r =
    found_first P form fields found (numbers_by form.patterns fields) (match_of forms fields) refl all.0 (found_holds P forms fields found all.1) e r

-- ---- the induction over the lines

-- the state after a line of this form
abbrev pub after : {G : Type 0} → State G → Form G → G → State G
after state form given = record {
  header_numbers = state.header_numbers;
  counted_lines = (if form.is_counted then state.counted_lines + 1 else state.counted_lines);
  given = given;
}

-- a line of this form with these numbers keeps what holds
abbrev pub Keeps : {G P : Type 0} → Kind G P → (State G → Type 0) → State G → Form G → List ℤ → Type 0
Keeps {G} kind Holds state form numbers =
    (form.is_counted && eqb state.counted_lines (kind.count state.header_numbers)) ≡ false
    → (given : G) → form.rules numbers state.given ≡ Ok given → Holds (after state form given)

-- what holds after the header and is kept by each line gives what is claimed of the problem
pub record IsInvariant {G P : Type 0} (kind : Kind G P) (Holds : State G → Type 0) (Claim : P → Type 0) : Type 0 where
  pub begins : (numbers : List ℤ) → Fits kind.header_patterns numbers → Holds (record { header_numbers = numbers; counted_lines = 0; given = kind.start numbers })
  pub kept : (state : State G) → Holds state → AllByRecursion (HoldsOf (Keeps kind Holds state)) (kind.forms state.header_numbers)
  pub ends : (state : State G) (problem : P) → Holds state → kind.count state.header_numbers ≤ state.counted_lines
      → kind.problem state.header_numbers state.given ≡ Ok problem → Claim problem

match_kept : {G P : Type 0} (kind : Kind G P) (Holds : State G → Type 0) (Claim : P → Type 0) (state next : State G) (n : ℕ) (fields : List (List ℕ)) (m : Option (Match G))
    → IsInvariant kind Holds Claim → Holds state → match_of (kind.forms state.header_numbers) fields ≡ m → state_of_match kind state n m ≡ Ok next → Holds next
match_kept kind Holds Claim state next n fields None law holds is e = absurd cc
match_kept {G} kind Holds Claim state next n fields (Some found) law holds is e =
    let a = refuse_ok (not (are_in_range found.form.patterns found.numbers)) _ _ next e in
    let b = refuse_ok (found.form.is_counted && eqb state.counted_lines (kind.count state.header_numbers)) _ _ next a.1 in
    let c = and_then_ok (rule_at n (found.form.rules found.numbers state.given)) (λ given. Ok (after state found.form given)) next b.1 in
    let rules = rule_ok n (found.form.rules found.numbers state.given) c.value c.ok in
    let same : after state found.form c.value ≡ next = (let e' = c.then_ok in cc) in
    subst Holds same
    (found_holds (Keeps kind Holds state) (kind.forms state.header_numbers) fields found (law.kept state holds) is (not_false _ a.0) b.0 c.value rules)

step_kept : {G P : Type 0} (kind : Kind G P) (Holds : State G → Type 0) (Claim : P → Type 0) (state next : State G) (line : Line)
    → IsInvariant kind Holds Claim → Holds state → step kind state line ≡ Ok next → Holds next
unfolding step
step_kept kind Holds Claim state next line law holds e = match_kept kind Holds Claim state next line.number line.fields (match_of (kind.forms state.header_numbers) line.fields) law holds refl e

end_claims : {G P : Type 0} (kind : Kind G P) (Holds : State G → Type 0) (Claim : P → Type 0) (state : State G) (line : Line) (read : Accepted P)
    → IsInvariant kind Holds Claim → Holds state → end_line kind state line ≡ Ok read → Claim read.problem
unfolding end_line
end_claims {P = P} kind Holds Claim state line read law holds e =
    let a = refuse_ok _ _ _ read e in
    let c = and_then_ok (rule_at line.number (kind.problem state.header_numbers state.given)) (λ problem. Ok (record { problem = problem; rest = line.rest; line = line.number })) read a.1 in
    let same : record { problem = c.value; rest = line.rest; line = line.number } ≡ read = (let e' = c.then_ok in cc) in
    subst (λ (r : Accepted P). Claim r.problem) same (law.ends state c.value holds (ltb-false _ _ a.0) (rule_ok line.number (kind.problem state.header_numbers state.given) c.value c.ok))

body_claims : {G P : Type 0} (kind : Kind G P) (Holds : State G → Type 0) (Claim : P → Type 0) (lines : List Line) (state : State G) (read : Accepted P)
    → IsInvariant kind Holds Claim → Holds state → body kind state lines ≡ Ok read → Claim read.problem
body_claims kind Holds Claim [] state read law holds e = absurd cc
body_claims {G} {P} kind Holds Claim (line ∷ later) state read law holds e = by (is_end line.fields) (λ next. body_claims kind Holds Claim later next read law) e
  where
    by : (t : Bool) → ((next : State G) → Holds next → body kind next later ≡ Ok read → Claim read.problem)
        → cond t (end_line kind state line) (and_then (step kind state line) (λ next. body kind next later)) ≡ Ok read → Claim read.problem
    by true below e = end_claims kind Holds Claim state line read law holds e
    by false below e =
        let c = and_then_ok (step kind state line) (λ next. body kind next later) read e in
        below c.value (step_kept kind Holds Claim state c.value line law holds c.ok) c.then_ok

header_begins : {G P : Type 0} (kind : Kind G P) (Holds : State G → Type 0) (Claim : P → Type 0) (n : ℕ) (fields : List (List ℕ)) (m : Option (List ℤ)) (state : State G)
    → IsInvariant kind Holds Claim → numbers_by (word (codes "p") ∷ word kind.name ∷ kind.header_patterns) fields ≡ m → state_of_header kind n m ≡ Ok state → Holds state
header_begins kind Holds Claim n fields None state law is e = absurd cc
header_begins kind Holds Claim n fields (Some numbers) state law is e =
    let a = refuse_ok (not (are_in_range kind.header_patterns numbers)) _ _ state e in
    let same : record { header_numbers = numbers; counted_lines = 0; given = kind.start numbers } ≡ state = (let e' = a.1 in cc) in
    subst Holds same (law.begins numbers (fits (word (codes "p") ∷ word kind.name ∷ kind.header_patterns) fields numbers is (not_false _ a.0)))

-- what is claimed holds of the problem of all lines that are accepted
pub lines_claims : {G P : Type 0} (kind : Kind G P) (Holds : State G → Type 0) (Claim : P → Type 0) (lines : List Line) (read : Accepted P)
    → IsInvariant kind Holds Claim → problem_of_lines kind lines ≡ Ok read → Claim read.problem
unfolding header
lines_claims kind Holds Claim [] read law e = absurd cc
lines_claims kind Holds Claim (line ∷ later) read law e =
    let c = and_then_ok (header kind line) (λ state. body kind state later) read e in
    let a = refuse_ok _ _ _ c.value c.ok in
    body_claims kind Holds Claim later c.value read law (header_begins kind Holds Claim line.number line.fields _ c.value law refl a.1) c.then_ok

-- what is claimed holds of the problem of every text that is accepted
pub problem_claims : {G P : Type 0} (kind : Kind G P) (Holds : State G → Type 0) (Claim : P → Type 0) (text : List ℕ) (read : Accepted P)
    → IsInvariant kind Holds Claim → problem_of kind text ≡ Ok read → Claim read.problem
unfolding problem_of
problem_claims kind Holds Claim text read law e = lines_claims kind Holds Claim (lines_from 1 text) read law e

pub broken_ok : {X : Type 0} (test : Bool) (rule : RuleKind) (next : Result X RuleKind) (x : X) → broken_if test rule next ≡ Ok x → (test ≡ false) × (next ≡ Ok x)
broken_ok true rule next x e = absurd cc
broken_ok false rule next x e = (refl, e)
