-- Problems of two kinds: a graph, or items that need others.
use Rattle.std.specs.Prelude.{ℕ, Bool, false, if◌then◌else◌, List, [], ◌∷◌, Result, Ok, Err, codes}
use Rattle.std.specs.Str.{bytes_eq}
use Rattle.pf_text.specs.declared.TextBad.{TextBad}
use Rattle.pf_text.specs.Lines.{Line}
use Rattle.pf_text.specs.Kinds.{Accepted, problem_of_lines}
use Rattle.pf_graph.specs.declared.graph.Task.TheVariants.{Densest}
use Rattle.pf_graph.specs.Text.{graph}
use Rattle.pf_closure.specs.Text.{closure}
use Rattle.pf_layers.specs.declared.problem.LayerProblem.{LayerProblem}
use Rattle.pf_layers.specs.declared.problem.LayerProblem.TheVariants.{Graph, Closure}

-- the second of these fields is the name of the kind `closure`
abbrev pub names_closure : List (List ℕ) → Bool
names_closure (first ∷ second ∷ others) = bytes_eq second (codes "closure")
names_closure fields = false

-- the header is that of a text of the kind `closure`
abbrev pub begins_closure : List Line → Bool
begins_closure [] = false
begins_closure (line ∷ later) = names_closure line.fields

-- the same as a problem of another type
abbrev pub accepted_as : {P R : Type 0} → (P → R) → Result (Accepted P) TextBad → Result (Accepted R) TextBad
accepted_as f (Ok read) = Ok (record { problem = f read.problem; rest = read.rest; line = read.line })
accepted_as f (Err bad) = Err bad

-- The lines of a text without blank ones and comments: a problem of the kind `closure` where the header names it, and else one of the
-- kind `graph`. So a header of a third kind is a wrong one.
unfoldable pub layer_problem_of_lines : List Line → Result (Accepted LayerProblem) TextBad
layer_problem_of_lines lines =
    if begins_closure lines then accepted_as Closure (problem_of_lines closure lines) else accepted_as Graph (problem_of_lines (graph Densest) lines)
