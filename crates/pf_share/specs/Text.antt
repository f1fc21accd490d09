-- Texts of the kind `share`, and the text of an answer.
use Rattle.std.specs.Prelude.{ℕ, ◌+◌, ◌-◌, ◌==◌, ℤ, pos, nat_abs, Bool, if◌then◌else◌, List, [], ◌∷◌, ◌++◌, length, replicate, slice_index_or, slice_set, Option, Some, None, is_some, not, Result, Ok, Err, codes, false, true}
use Rattle.pf_model.specs.Fraction.{Fraction, lowest}
use Rattle.pf_text.specs.declared.RuleKind.{RuleKind}
use Rattle.pf_text.specs.declared.RuleKind.TheVariants.{Repeated, Missing, Ends}
use Rattle.pf_text.specs.Kinds.{FieldPattern, number, word, Form, Kind, broken_if}
use Rattle.pf_text.specs.Spelling.{line, row_line, fraction_line}
use Rattle.pf_share.specs.Problem.{ShareProblem, sharing_of}
use Rattle.pf_share.specs.Certificate.{SharesAnswer, level_at, share_of}

-- the sink, once it was given; the weight of each node, 0 where none was given; and the arcs
pub record Given : Type 0 where
  pub sink : Option ℕ
  pub weights : List ℕ
  pub ends : List (ℕ × ℕ)
  pub capacities : List ℕ

-- the number of nodes in a header's numbers, and the number of arcs
abbrev pub node_count : List ℤ → ℕ
node_count [] = 0
node_count (n ∷ others) = nat_abs n

abbrev pub arc_count : List ℤ → ℕ
arc_count (n ∷ m ∷ others) = nat_abs m
arc_count numbers = 0

-- texts number the nodes from 1, and problems from 0
abbrev pub node_number : List ℤ → FieldPattern
node_number header_numbers = number (pos 1) (pos (node_count header_numbers))

abbrev pub node_index : ℤ → ℕ
node_index n = nat_abs n - 1

-- the node is the sink that was given
abbrev pub is_sink : Option ℕ → ℕ → Bool
is_sink None v = false
is_sink (Some t) v = t == v

-- `n ID t`
abbrev pub sink_rules : List ℤ → Given → Result Given RuleKind
sink_rules (v ∷ []) given = broken_if (is_some given.sink) Repeated (Ok (record given { sink = Some (node_index v) }))
sink_rules numbers given = Ok given

abbrev pub sink_form : List ℤ → Form Given
sink_form header_numbers = record {
  patterns = word (codes "n") ∷ node_number header_numbers ∷ word (codes "t") ∷ [];
  is_counted = false;
  rules = sink_rules;
}

-- `w ID WEIGHT`
abbrev pub weight_rules : List ℤ → Given → Result Given RuleKind
weight_rules (v ∷ weight ∷ []) given =
    broken_if (not (slice_index_or given.weights (node_index v) 0 == 0)) Repeated
    (broken_if (not (is_some given.sink)) Missing
    (broken_if (is_sink given.sink (node_index v)) Ends
    (Ok (record given { weights = slice_set given.weights (node_index v) (nat_abs weight) }))))
weight_rules numbers given = Ok given

abbrev pub weight_form : List ℤ → Form Given
weight_form header_numbers = record {
  patterns = word (codes "w") ∷ node_number header_numbers ∷ number (pos 1) (pos 1000000) ∷ [];
  is_counted = false;
  rules = weight_rules;
}

-- `a U V CAP`
abbrev pub arc_rules : List ℤ → Given → Result Given RuleKind
arc_rules (u ∷ v ∷ capacity ∷ []) given =
    broken_if (not (is_some given.sink)) Missing
    (Ok (record given { ends = given.ends ++ (node_index u, node_index v) ∷ []; capacities = given.capacities ++ nat_abs capacity ∷ [] }))
arc_rules numbers given = Ok given

abbrev pub arc_form : List ℤ → Form Given
arc_form header_numbers = record {
  patterns = word (codes "a") ∷ node_number header_numbers ∷ node_number header_numbers ∷ number (pos 0) (pos 1000000000) ∷ [];
  is_counted = true;
  rules = arc_rules;
}

-- `end`
abbrev pub end_by : Option ℕ → List ℕ → List (ℕ × ℕ) → List ℕ → Result ShareProblem RuleKind
end_by (Some t) weights ends capacities = Ok (sharing_of t weights ends capacities)
end_by None weights ends capacities = Err Missing

-- `p share N M`
abbrev pub share_header : List FieldPattern
share_header = number (pos 2) (pos 1000) ∷ number (pos 0) (pos 10000) ∷ []

unfoldable pub share : Kind Given ShareProblem
share = record {
  name = codes "share";
  header_patterns = share_header;
  count = arc_count;
  forms = λ header_numbers. sink_form header_numbers ∷ weight_form header_numbers ∷ arc_form header_numbers ∷ [];
  start = λ header_numbers. record { sink = None; weights = replicate (node_count header_numbers) 0; ends = []; capacities = [] };
  problem = λ header_numbers given. end_by given.sink given.weights given.ends given.capacities;
}

-- the line of level j
abbrev pub level_line : ℕ → Fraction → List ℕ
level_line j level = fraction_line (codes "l") (j ∷ []) level []

-- the levels from level j + 1 on
abbrev pub levels_text : ℕ → List Fraction → List ℕ
levels_text j [] = []
levels_text j (level ∷ levels) = level_line (j + 1) level ++ levels_text (j + 1) levels

-- the line of the share of a source, which has a level and a weight: their product in lowest terms
abbrev pub share_line : ℕ → Fraction → ℤ → List ℕ
share_line v level weight = fraction_line (codes "x") (v ∷ []) (lowest (share_of level weight)) []

-- a node that is no source has no line; texts number the nodes from 1, and problems from 0
abbrev pub node_text : List Fraction → ℕ → ℤ → ℤ → List ℕ
node_text levels v weight group = if nat_abs weight == 0 then [] else share_line (v + 1) (level_at levels (nat_abs group)) weight

-- the shares of the sources from node v on
abbrev pub shares_lines : List Fraction → ℕ → List ℤ → List ℤ → List ℕ
shares_lines levels v (weight ∷ weights) (group ∷ groups) = node_text levels v weight group ++ shares_lines levels (v + 1) weights groups
shares_lines levels v weights groups = []

-- the text of an answer: the number of levels, the levels, the groups, the shares, and the numbers on the arcs
unfoldable pub shares_text : ShareProblem → SharesAnswer → List ℕ
shares_text p answer =
    line (codes "o" ∷ codes "share" ∷ [])
    ++ row_line (codes "k") (length answer.levels ∷ []) []
    ++ levels_text 0 answer.levels
    ++ row_line (codes "m") [] answer.groups
    ++ shares_lines answer.levels 0 p.weights answer.groups
    ++ row_line (codes "f") [] answer.flow
    ++ line (codes "end" ∷ [])
