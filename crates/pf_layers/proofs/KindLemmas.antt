-- Which kind a text is of.
use Rattle.std.proofs.Common.{◌≡◌, ℕ, ◌+◌, Bool, true, false, cond, not, List, [], ◌∷◌, Some, None, Result, Err, refl, sym, ap, ◌∙◌}
use Rattle.std.specs.Prelude.{codes, slice_get}
use Rattle.std.specs.List.{filter}
use Rattle.std.specs.Str.{bytes_eq}
use Rattle.std.proofs.lemmas.Slice.Eq.{bytes_eq-Decides}
use Rattle.pf_text.specs.declared.TextBad.{TextBad}
use Rattle.pf_text.specs.declared.TextBad.TheVariants.{Syntax, WrongKind}
use Rattle.pf_text.specs.Lines.{RawLine, Line, raw_lines, fields, numbered, is_passed_over, lines_from}
use Rattle.pf_text.specs.Kinds.{FieldPattern, word, Kind, Accepted, numbers_by, is_wrong_kind, header, problem_of_lines}
use Rattle.pf_lines.specs.declared.errors.ReadBad.{ReadBad}
use Rattle.pf_lines.specs.declared.errors.ReadBad.TheVariants.{Text, NoMemory}
use Rattle.pf_lines.specs.Places.{Place}
use Rattle.pf_lines.specs.Reading.{Agrees}
use Rattle.pf_graph.specs.declared.graph.Task.TheVariants.{Densest}
use Rattle.pf_graph.specs.Text.{graph}
use Rattle.pf_closure.specs.Text.{closure}
use Rattle.pf_layers.specs.declared.problem.LayerProblem.TheVariants.{Graph, Closure}
use Rattle.pf_layers.specs.Problem.{names_closure, begins_closure, accepted_as, layer_problem_of_lines}
use Rattle.pf_layers.specs.Laws.{IsReadByHeader}

-- ---- the second field

pub second_there : (fields : List (List ℕ)) (name : List ℕ) → slice_get fields 1 ≡ Some name → names_closure fields ≡ bytes_eq name (codes "closure")
second_there [] name e = absurd cc
second_there (a ∷ []) name e = absurd cc
second_there (a ∷ b ∷ others) name e = let same : b ≡ name = cc in ap (λ (field : List ℕ). bytes_eq field (codes "closure")) same

pub second_missing : (fields : List (List ℕ)) → slice_get fields 1 ≡ None → names_closure fields ≡ false
second_missing [] e = refl
second_missing (a ∷ []) e = refl
second_missing (a ∷ b ∷ others) e = absurd cc

-- ---- the numbers of lines say nothing of the kind

begins_raw : (n m : ℕ) (raws : List RawLine) → begins_closure (filter (λ line. not (is_passed_over line.fields)) (numbered n raws))
    ≡ begins_closure (filter (λ line. not (is_passed_over line.fields)) (numbered m raws))
begins_raw n m [] = refl
begins_raw n m (raw ∷ later) =
    by (not (is_passed_over (fields raw.bytes))) (record { number = n; fields = fields raw.bytes; rest = raw.rest }) (record { number = m; fields = fields raw.bytes; rest = raw.rest })
    _ _ refl (begins_raw (n + 1) (m + 1) later)
  where
    by : (t : Bool) (x y : Line) (xs ys : List Line) → x.fields ≡ y.fields → begins_closure xs ≡ begins_closure ys → begins_closure (cond t (x ∷ xs) xs) ≡ begins_closure (cond t (y ∷ ys) ys)
    by true x y xs ys same rest = ap names_closure same
    by false x y xs ys same rest = rest

pub begins_same : (n m : ℕ) (text : List ℕ) → begins_closure (lines_from n text) ≡ begins_closure (lines_from m text)
unfolding lines_from
begins_same n m text = begins_raw n m (raw_lines text)

-- ---- what is read of each kind

pub read_closure : (lines : List Line) → begins_closure lines ≡ true → layer_problem_of_lines lines ≡ accepted_as Closure (problem_of_lines closure lines)
unfolding layer_problem_of_lines
read_closure lines e = rw e refl

pub read_graph : (lines : List Line) → begins_closure lines ≡ false → layer_problem_of_lines lines ≡ accepted_as Graph (problem_of_lines (graph Densest) lines)
unfolding layer_problem_of_lines
read_graph lines e = rw e refl

-- what was read, up to a place
abbrev pub read_at : {P : Type 0} → Place → P → Accepted P
read_at place p = record { problem = p; rest = place.rest; line = place.number }

pub refused_as : {P R X Y : Type 0} (f : P → R) (judged : Result (Accepted P) TextBad) (value : X → Accepted P) (other : Y → Accepted R) (bad : ReadBad) →
    Agrees judged value (Err bad) → Agrees (accepted_as f judged) other (Err bad)
refused_as f judged value other (Text bad) e = ap (accepted_as f) e
refused_as f judged value other NoMemory e = tt

-- ---- headers

wrong_at : {G P : Type 0} (kind : Kind G P) (line : Line) (later : List Line) → is_wrong_kind kind.name line.fields ≡ true → problem_of_lines kind (line ∷ later) ≡ Err (WrongKind line.number)
unfolding header
wrong_at kind line later e = rw e refl

syntax_at : {G P : Type 0} (kind : Kind G P) (line : Line) (later : List Line) → is_wrong_kind kind.name line.fields ≡ false →
    numbers_by (word (codes "p") ∷ word kind.name ∷ kind.header_patterns) line.fields ≡ None → problem_of_lines kind (line ∷ later) ≡ Err (Syntax line.number)
unfolding header
syntax_at kind line later right none = rw (right, none) refl

-- the line does not begin with `p` and a second field
record Headless (line : Line) : Type 0 where
  right : (name : List ℕ) → is_wrong_kind name line.fields ≡ false
  none : (name : List ℕ) (patterns : List FieldPattern) → numbers_by (word (codes "p") ∷ word name ∷ patterns) line.fields ≡ None

same_both : {X : Type 0} (t : Bool) (x : X) → cond t x x ≡ x
same_both true x = refl
same_both false x = refl

headless_none : (line : Line) → line.fields ≡ [] → Headless line
headless_none line e = record { right = λ name. rw e refl; none = λ name patterns. rw e refl }

headless_one : (line : Line) (a : List ℕ) → line.fields ≡ a ∷ [] → Headless line
headless_one line a e = record { right = λ name. rw e refl; none = λ name patterns. rw e (same_both (bytes_eq a (codes "p")) None) }

headless_other : (line : Line) (a b : List ℕ) (others : List (List ℕ)) → line.fields ≡ a ∷ b ∷ others → bytes_eq a (codes "p") ≡ false → Headless line
headless_other line a b others e other = record { right = λ name. rw (e, other) refl; none = λ name patterns. rw (e, other) refl }

both_refused : (line : Line) (later : List Line) → Headless line →
    accepted_as Graph (problem_of_lines (graph Densest) (line ∷ later)) ≡ accepted_as Closure (problem_of_lines closure (line ∷ later))
both_refused line later short =
    let g = syntax_at (graph Densest) line later (short.right (graph Densest).name) (short.none (graph Densest).name (graph Densest).header_patterns) in
    let c = syntax_at closure line later (short.right closure.name) (short.none closure.name closure.header_patterns) in
    ap (accepted_as Graph) g ∙ sym (ap (accepted_as Closure) c)

-- a line of two fields or more whose first one is `p`, or a headless one
data Head (line : Line) : Type 0 where
  headless : Headless line → Head line
  headed : (b : List ℕ) → names_closure line.fields ≡ bytes_eq b (codes "closure") → ((name : List ℕ) → is_wrong_kind name line.fields ≡ not (bytes_eq b name)) → Head line

head_of : (line : Line) (fields : List (List ℕ)) → line.fields ≡ fields → Head line
head_of line [] e = headless (headless_none line e)
head_of line (a ∷ []) e = headless (headless_one line a e)
head_of line (a ∷ b ∷ others) e = by (bytes_eq a (codes "p")) refl
  where
    by : (t : Bool) → bytes_eq a (codes "p") ≡ t → Head line
    by true is = headed b (rw e refl) (λ name. rw (e, is) refl)
    by false is = headless (headless_other line a b others e is)

closure_name : closure.name ≡ codes "closure"
unfolding closure
closure_name = refl

graph_name : (graph Densest).name ≡ codes "graph"
unfolding graph
graph_name = refl

-- the two names differ
named_graph : (b : List ℕ) → bytes_eq b (codes "graph") ≡ true → bytes_eq b (codes "closure") ≡ false
named_graph b e = let same : b ≡ codes "graph" = (bytes_eq-Decides b (codes "graph")).0 e in rw same refl

pub read_by_header : (line : Line) (later : List Line) → IsReadByHeader line later
read_by_header line later = record {
  as_closure = λ e. by_closure (begins_closure (line ∷ later)) refl (head_of line line.fields refl) e;
  as_graph = λ e. by_graph (begins_closure (line ∷ later)) refl (head_of line line.fields refl) e;
  third = λ e d. by_third (begins_closure (line ∷ later)) refl e d;
}
  where
    by_closure : (t : Bool) → begins_closure (line ∷ later) ≡ t → Head line → is_wrong_kind (codes "closure") line.fields ≡ false →
        layer_problem_of_lines (line ∷ later) ≡ accepted_as Closure (problem_of_lines closure (line ∷ later))
    by_closure true is head e = read_closure (line ∷ later) is
    by_closure false is (headless short) e = read_graph (line ∷ later) is ∙ both_refused line later short
    by_closure false is (headed b named wrong) e = absurd (clash (bytes_eq b (codes "closure")) (sym named ∙ is) (sym (wrong (codes "closure")) ∙ e))
      where
        clash : (t : Bool) → t ≡ false → not t ≡ false → ⊥
        clash true a b = cc
        clash false a b = cc

    by_graph : (t : Bool) → begins_closure (line ∷ later) ≡ t → Head line → is_wrong_kind (codes "graph") line.fields ≡ false →
        layer_problem_of_lines (line ∷ later) ≡ accepted_as Graph (problem_of_lines (graph Densest) (line ∷ later))
    by_graph false is head e = read_graph (line ∷ later) is
    by_graph true is (headless short) e = read_closure (line ∷ later) is ∙ sym (both_refused line later short)
    by_graph true is (headed b named wrong) e =
        let graph_named : bytes_eq b (codes "graph") ≡ true = unnot (bytes_eq b (codes "graph")) (sym (wrong (codes "graph")) ∙ e) in
        absurd (differ (bytes_eq b (codes "closure")) (sym named ∙ is) (named_graph b graph_named))
      where
        unnot : (t : Bool) → not t ≡ false → t ≡ true
        unnot true e = refl
        unnot false e = absurd cc

        differ : (t : Bool) → t ≡ true → t ≡ false → ⊥
        differ true a b = cc
        differ false a b = cc

    by_third : (t : Bool) → begins_closure (line ∷ later) ≡ t → is_wrong_kind (codes "closure") line.fields ≡ true → is_wrong_kind (codes "graph") line.fields ≡ true →
        layer_problem_of_lines (line ∷ later) ≡ Err (WrongKind line.number)
    by_third true is e d = read_closure (line ∷ later) is ∙ ap (accepted_as Closure) (wrong_at closure line later (rw closure_name e))
    by_third false is e d = read_graph (line ∷ later) is ∙ ap (accepted_as Graph) (wrong_at (graph Densest) line later (rw graph_name d))
