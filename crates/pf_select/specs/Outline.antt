-- What the lines of selections and prices of a schedule's text say, whether or not the numbers that are written are what the
-- selections are worth.
use Rattle.std.specs.Prelude.{◌≡◌, ℕ, suc, ◌+◌, ◌<◌, Bool, List, [], ◌∷◌, ◌++◌, length, map, All, codes}
use Rattle.pf_model.specs.Fraction.{Fraction}
use Rattle.pf_model.specs.Answer.{IsFractionShape}
use Rattle.pf_model.specs.Cut.{at_arc}
use Rattle.pf_text.specs.Spelling.{side_line}
use Rattle.pf_lines.specs.Taking.{IsValued}
use Rattle.pf_select.specs.Problem.{SelectionProblem, worth, price_at, selection_at}
use Rattle.pf_select.specs.Text.{change_text}
use Rattle.pf_select.specs.declared.outline.Change.{Change}
use Rattle.pf_select.specs.declared.outline.Outline.{Outline}

-- a price with a number there, and the selection after it, with so many parts
pub record IsChange (width : ℕ) (change : Change) : Type 0 where
  pub point : IsValued change.point
  pub full : length change.set ≡ width

-- the lines of price j, and of the selection after it
abbrev pub change_lines : ℕ → Change → List ℕ
change_lines j change = change_text j change.point.at change.point.value change.set

-- those from price j + 1 on
abbrev pub all_changes : ℕ → List Change → List ℕ
all_changes j [] = []
all_changes j (change ∷ changes) = change_lines (j + 1) change ++ all_changes (j + 1) changes

-- the line of the first selection, and those after it
abbrev pub outline_text : List Bool → List Change → List ℕ
outline_text first changes = side_line (codes "s") (0 ∷ []) [] first ++ all_changes 0 changes

-- the same as three lists
abbrev pub outline_of : List Bool → List Change → Outline
outline_of first changes = record {
  prices = map (λ change. change.point.at) changes;
  selections = first ∷ map (λ change. change.set) changes;
  values = map (λ change. change.point.value) changes;
}

-- a selection and so many changes, each with so many parts, were in front of the text
pub record IsOutline (width count : ℕ) (o : Outline) (old new : List ℕ) : Type 0 where
  pub first : List Bool
  pub changes : List Change
  pub is : o ≡ outline_of first changes
  pub full : length first ≡ width
  pub number : length changes ≡ count
  pub each : All (IsChange width) changes
  pub text : old ≡ outline_text first changes ++ new

-- a selection more than prices, and a number for each price
pub record IsOutlineShape (p : SelectionProblem) (o : Outline) : Type 0 where
  pub count : length o.selections ≡ suc (length o.prices)
  pub selections : All (λ set. length set ≡ length p.costs) o.selections
  pub values : length o.values ≡ length o.prices

-- the number at each price is what the selection before it is worth there
pub record HasWorths (p : SelectionProblem) (o : Outline) (count : ℕ) : Type 0 where
  pub each : (j : ℕ) → j < count → at_arc o.values j ≡ worth p (price_at o.prices (suc j)) (selection_at o.selections j)

-- so many prices, and a selection more, each with a truth value for each part
pub record IsSelectionsShape (p : SelectionProblem) (count : ℕ) (prices : List Fraction) (selections : List (List Bool)) : Type 0 where
  pub full : length prices ≡ count
  pub prices_shape : All IsFractionShape prices
  pub count_is : length selections ≡ suc count
  pub selections_shape : All (λ set. length set ≡ length p.costs) selections
