-- Texts of the kind `select`, and the text of a schedule.
use Rattle.std.specs.Prelude.{ℕ, ◌+◌, ◌-◌, ℤ, pos, nat_abs, Bool, List, [], ◌∷◌, ◌++◌, length, map, replicate, slice_index_or, slice_set, Option, Some, None, is_some, Result, Ok, Err, codes, false, true}
use Rattle.std.specs.Option.{option_map}
use Rattle.pf_model.specs.Fraction.{Fraction}
use Rattle.pf_text.specs.declared.RuleKind.{RuleKind}
use Rattle.pf_text.specs.declared.RuleKind.TheVariants.{Repeated, Missing}
use Rattle.pf_text.specs.Kinds.{FieldPattern, number, word, Form, Kind, broken_if}
use Rattle.pf_text.specs.Spelling.{line, row_line, fraction_line, side_line, table_text}
use Rattle.pf_select.specs.Problem.{SelectionProblem, worth}
use Rattle.pf_select.specs.Certificate.{ScheduleAnswer}

-- a place for each part, which holds its cost once it was given, one for each product with its gain, and the needs
pub record Given : Type 0 where
  pub costs : List (Option ℕ)
  pub gains : List (Option ℕ)
  pub needs : List (ℕ × ℕ)

-- the number of parts in a header's numbers, of products, and of needs
abbrev pub part_count : List ℤ → ℕ
part_count [] = 0
part_count (n ∷ others) = nat_abs n

abbrev pub product_count : List ℤ → ℕ
product_count (n ∷ k ∷ others) = nat_abs k
product_count numbers = 0

abbrev pub need_count : List ℤ → ℕ
need_count (n ∷ k ∷ m ∷ others) = nat_abs m
need_count numbers = 0

-- texts number parts and products from 1, and problems from 0
abbrev pub part_number : List ℤ → FieldPattern
part_number header_numbers = number (pos 1) (pos (part_count header_numbers))

abbrev pub product_number : List ℤ → FieldPattern
product_number header_numbers = number (pos 1) (pos (product_count header_numbers))

abbrev pub index_of : ℤ → ℕ
index_of n = nat_abs n - 1

-- `v ID COST`
abbrev pub part_rules : List ℤ → Given → Result Given RuleKind
part_rules (i ∷ cost ∷ []) given =
    broken_if (is_some (slice_index_or given.costs (index_of i) None)) Repeated
    (Ok (record given { costs = slice_set given.costs (index_of i) (Some (nat_abs cost)) }))
part_rules numbers given = Ok given

abbrev pub part_form : List ℤ → Form Given
part_form header_numbers = record {
  patterns = word (codes "v") ∷ part_number header_numbers ∷ number (pos 1) (pos 1000000) ∷ [];
  is_counted = false;
  rules = part_rules;
}

-- `g ID GAIN`
abbrev pub product_rules : List ℤ → Given → Result Given RuleKind
product_rules (j ∷ gain ∷ []) given =
    broken_if (is_some (slice_index_or given.gains (index_of j) None)) Repeated
    (Ok (record given { gains = slice_set given.gains (index_of j) (Some (nat_abs gain)) }))
product_rules numbers given = Ok given

abbrev pub product_form : List ℤ → Form Given
product_form header_numbers = record {
  patterns = word (codes "g") ∷ product_number header_numbers ∷ number (pos 1) (pos 1000000) ∷ [];
  is_counted = false;
  rules = product_rules;
}

-- `r PRODUCT PART`
abbrev pub need_rules : List ℤ → Given → Result Given RuleKind
need_rules (j ∷ i ∷ []) given = Ok (record given { needs = given.needs ++ (index_of j, index_of i) ∷ [] })
need_rules numbers given = Ok given

abbrev pub need_form : List ℤ → Form Given
need_form header_numbers = record {
  patterns = word (codes "r") ∷ product_number header_numbers ∷ part_number header_numbers ∷ [];
  is_counted = true;
  rules = need_rules;
}

-- all numbers, where each was given
abbrev pub all_given : List (Option ℕ) → Option (List ℕ)
all_given [] = Some []
all_given (None ∷ slots) = None
all_given (Some n ∷ slots) = option_map (λ numbers. n ∷ numbers) (all_given slots)

abbrev pub problem_by : Option (List ℕ) → Option (List ℕ) → List (ℕ × ℕ) → Result SelectionProblem RuleKind
problem_by (Some costs) (Some gains) needs = Ok (record { costs = map pos costs; gains = map pos gains; needs = needs })
problem_by costs gains needs = Err Missing

-- `p select N K M`
abbrev pub select_header : List FieldPattern
select_header = number (pos 1) (pos 500) ∷ number (pos 0) (pos 1000) ∷ number (pos 0) (pos 5000) ∷ []

unfoldable pub select : Kind Given SelectionProblem
select = record {
  name = codes "select";
  header_patterns = select_header;
  count = need_count;
  forms = λ header_numbers. part_form header_numbers ∷ product_form header_numbers ∷ need_form header_numbers ∷ [];
  start = λ header_numbers. record {
    costs = replicate (part_count header_numbers) None;
    gains = replicate (product_count header_numbers) None;
    needs = [];
  };
  problem = λ header_numbers given. problem_by (all_given given.costs) (all_given given.gains) given.needs;
}

-- the line of price j with a number there, and that of the selection after it
abbrev pub change_text : ℕ → Fraction → ℤ → List Bool → List ℕ
change_text j price value set = fraction_line (codes "b") (j ∷ []) price (value ∷ []) ++ side_line (codes "s") (j ∷ []) [] set

-- the prices from price j + 1 on, each with what the selection before it is worth there and the selection after it
abbrev pub changes_text : SelectionProblem → ℕ → List Bool → List Fraction → List (List Bool) → List ℕ
changes_text p j before (price ∷ prices) (set ∷ selections) = change_text (j + 1) price (worth p price before) set ++ changes_text p (j + 1) set prices selections
changes_text p j before prices selections = []

-- the first selection, and the prices
abbrev pub selections_text : SelectionProblem → List Fraction → List (List Bool) → List ℕ
selections_text p prices [] = []
selections_text p prices (set ∷ selections) = side_line (codes "s") (0 ∷ []) [] set ++ changes_text p 0 set prices selections

-- the charges at the prices from price j + 1 on
abbrev pub charges_text : ℕ → List (List ℤ) → List ℕ
charges_text j rows = table_text (codes "f") (j + 1) rows

-- the text of an answer: the number of prices, the selections with the prices between them, and the charges at each price
unfoldable pub schedule_text : SelectionProblem → ScheduleAnswer → List ℕ
schedule_text p answer =
    line (codes "o" ∷ codes "select" ∷ [])
    ++ row_line (codes "k") (length answer.prices ∷ []) []
    ++ selections_text p answer.prices answer.selections
    ++ charges_text 0 answer.charges
    ++ line (codes "end" ∷ [])
