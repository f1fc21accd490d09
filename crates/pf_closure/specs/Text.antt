-- Texts of the kind `closure`, and the text of an answer.
use Rattle.std.specs.Prelude.{ℕ, ◌-◌, ℤ, pos, neg_ℤ, nat_abs, List, [], ◌∷◌, ◌++◌, map, replicate, slice_index_or, slice_set, Option, Some, None, is_some, Result, Ok, Err, codes, false, true}
use Rattle.std.specs.Option.{option_map}
use Rattle.pf_text.specs.declared.RuleKind.{RuleKind}
use Rattle.pf_text.specs.declared.RuleKind.TheVariants.{Repeated, Missing}
use Rattle.pf_text.specs.Kinds.{FieldPattern, number, word, Form, Kind, broken_if}
use Rattle.pf_ratio.specs.Answer.{answer_text}
use Rattle.pf_closure.specs.Problem.{ClosureProblem}
use Rattle.pf_closure.specs.Certificate.{RatioAnswer}

-- a place for each item, which holds its cost and its weight once they were given; and the needs
pub record Given : Type 0 where
  pub slots : List (Option (ℤ × ℤ))
  pub needs : List (ℕ × ℕ)

-- the number of items in a header's numbers, and the number of needs
abbrev pub item_count : List ℤ → ℕ
item_count [] = 0
item_count (n ∷ others) = nat_abs n

abbrev pub need_count : List ℤ → ℕ
need_count (n ∷ m ∷ others) = nat_abs m
need_count numbers = 0

-- texts number the items from 1, and problems from 0
abbrev pub item_number : List ℤ → FieldPattern
item_number header_numbers = number (pos 1) (pos (item_count header_numbers))

abbrev pub item_index : ℤ → ℕ
item_index n = nat_abs n - 1

-- `v ID COST WEIGHT`
abbrev pub item_rules : List ℤ → Given → Result Given RuleKind
item_rules (v ∷ cost ∷ weight ∷ []) given =
    broken_if (is_some (slice_index_or given.slots (item_index v) None)) Repeated
    (Ok (record given { slots = slice_set given.slots (item_index v) (Some (cost, weight)) }))
item_rules numbers given = Ok given

abbrev pub item_form : List ℤ → Form Given
item_form header_numbers = record {
  patterns = word (codes "v") ∷ item_number header_numbers ∷ number (neg_ℤ (pos 1000000)) (pos 1000000) ∷ number (pos 1) (pos 1000000) ∷ [];
  is_counted = false;
  rules = item_rules;
}

-- `r U V`
abbrev pub need_rules : List ℤ → Given → Result Given RuleKind
need_rules (u ∷ v ∷ []) given = Ok (record given { needs = given.needs ++ (item_index u, item_index v) ∷ [] })
need_rules numbers given = Ok given

abbrev pub need_form : List ℤ → Form Given
need_form header_numbers = record {
  patterns = word (codes "r") ∷ item_number header_numbers ∷ item_number header_numbers ∷ [];
  is_counted = true;
  rules = need_rules;
}

-- the costs and the weights of all items, where they were given
abbrev pub all_given : List (Option (ℤ × ℤ)) → Option (List (ℤ × ℤ))
all_given [] = Some []
all_given (None ∷ slots) = None
all_given (Some item ∷ slots) = option_map (λ items. item ∷ items) (all_given slots)

abbrev pub problem_by : Option (List (ℤ × ℤ)) → List (ℕ × ℕ) → Result ClosureProblem RuleKind
problem_by (Some items) needs = Ok (record { costs = map (λ item. item.0) items; weights = map (λ item. item.1) items; needs = needs })
problem_by None needs = Err Missing

-- `p closure N M`
abbrev pub closure_header : List FieldPattern
closure_header = number (pos 1) (pos 1000) ∷ number (pos 0) (pos 10000) ∷ []

unfoldable pub closure : Kind Given ClosureProblem
closure = record {
  name = codes "closure";
  header_patterns = closure_header;
  count = need_count;
  forms = λ header_numbers. item_form header_numbers ∷ need_form header_numbers ∷ [];
  start = λ header_numbers. record { slots = replicate (item_count header_numbers) None; needs = [] };
  problem = λ header_numbers given. problem_by (all_given given.slots) given.needs;
}

-- the text of an answer: the ratio, the chosen items, and the numbers on the needs
unfoldable pub ratio_text : RatioAnswer → List ℕ
ratio_text answer = answer_text (codes "closure") (codes "r") answer.ratio answer.chosen answer.routing
