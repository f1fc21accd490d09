-- Selections and prices, taken from the front of a text one after the other.
use Rattle.std.proofs.Common.{◌≡◌, ℕ, suc, ◌+◌, List, [], ◌∷◌, ◌++◌, length, map, Bool, refl, sym, ap, subst, ◌∙◌, append_assoc, arith}
use Rattle.std.specs.Prelude.{ℤ, All, codes}
use Rattle.std.proofs.lemmas.List.{length-map, map_push}
use Rattle.std.proofs.lemmas.List.Elements.{All-cons}
use Rattle.pf_model.specs.Fraction.{Fraction}
use Rattle.pf_text.specs.Spelling.{side_line}
use Rattle.pf_lines.specs.declared.taking.Valued.{Valued}
use Rattle.pf_lines.proofs.ItemsTaken.{Items}
use Rattle.pf_lines.proofs.PartsTaken.{Parts, PartsStand, HasParts, parts_text}
use Rattle.pf_select.specs.Problem.{SelectionProblem, IsBoundedProblem}
use Rattle.pf_select.specs.Text.{selections_text}
use Rattle.pf_select.specs.Outline.{IsChange, change_lines, all_changes, outline_text, outline_of, IsOutline, IsOutlineShape, HasWorths, IsSelectionsShape}
use Rattle.pf_select.specs.declared.outline.Change.{Change}
use Rattle.pf_select.specs.declared.outline.Outline.{Outline}
use Rattle.pf_select.proofs.ChangeTexts.{changes_of, text_is_lines, prices_are, sets_are, changes_full, worths_are, lines_are_text, changes_shape, ats_shape, sets_shape}

-- ---- one change

abbrev pub change_by : Valued → List Bool → Change
change_by point set = record { point = point; set = set }

of_point_and_set : (point point' : Valued) (set set' : List Bool) → point ≡ point' → set ≡ set' → change_by point set ≡ change_by point' set'
of_point_and_set point point' set set' e f = cc

pub same_change : (point : Valued) (set : List Bool) (change : Change) → point ≡ change.point → set ≡ change.set → ◌≡◌ {A = Change} (record { point = point; set = set }) change
same_change point set change e f = of_point_and_set point change.point set change.set e f

-- ---- the changes, one after the other

abbrev pub change_items : ℕ → Items Change
change_items width = record {
  text = λ j changes. all_changes j changes;
  item = λ j change. change_lines (j + 1) change;
  none = λ j. refl;
  more = λ j change changes. refl;
  Is = IsChange width;
  MayFollow = λ rest. Unit {0};
  follows = λ j change rest. tt;
}

abbrev first_line : List Bool → List ℕ
first_line first = side_line (codes "s") (0 ∷ []) [] first

abbrev outline_by : List Fraction → List (List Bool) → List ℤ → Outline
outline_by prices selections values = record { prices = prices; selections = selections; values = values }

three : (a a' : List Fraction) (b b' : List (List Bool)) (c c' : List ℤ) → a ≡ a' → b ≡ b' → c ≡ c' → outline_by a b c ≡ outline_by a' b' c'
three a a' b b' c c' e f g = cc

-- these lists, and a change after them
abbrev pub with_change : Change → Outline → Outline
with_change change o = outline_by (o.prices ++ change.point.at ∷ []) (o.selections ++ change.set ∷ []) (o.values ++ change.point.value ∷ [])

pub lists_more : (first : List Bool) (changes : List Change) (change : Change) → with_change change (outline_of first changes) ≡ outline_of first (changes ++ change ∷ [])
lists_more first changes change =
    three _ (map (λ (x : Change). x.point.at) (changes ++ change ∷ [])) _ (first ∷ map (λ (x : Change). x.set) (changes ++ change ∷ [])) _
    (map (λ (x : Change). x.point.value) (changes ++ change ∷ [])) (sym (map_push (λ (x : Change). x.point.at) changes change))
    (ap (λ (xs : List (List Bool)). first ∷ xs) (sym (map_push (λ (x : Change). x.set) changes change)))
    (sym (map_push (λ (x : Change). x.point.value) changes change))

-- a first selection, and the changes after it
abbrev pub outline_parts : ℕ → Parts (List Bool) Change Outline
outline_parts width = record {
  line = λ first. first_line first;
  IsFirst = λ first. length first ≡ width;
  items = change_items width;
  lists = λ first changes. outline_of first changes;
  add = λ change o. with_change change o;
  more = lists_more;
}

pub outline_stands : (width count : ℕ) (old : List ℕ) (first : List Bool) (changes : List Change) (rest : List ℕ) → length first ≡ width → length changes ≡ count → All (IsChange width) changes →
    old ≡ outline_text first changes ++ rest → PartsStand (outline_parts width) count old first changes rest
outline_stands width count old first changes rest full number each there = record {
  shape = full;
  full = number;
  each = each;
  behind = tt;
  text = there ∙ append_assoc (first_line first) (all_changes 0 changes) rest;
}

pub outline_ends : (width count : ℕ) (old now : List ℕ) (j : ℕ) (o : Outline) → HasParts (outline_parts width) count old now j o → j ≡ count → IsOutline width count o old now
outline_ends width count old now j o taken all = record {
  first = taken.first;
  changes = taken.got;
  is = taken.is;
  full = taken.shape;
  number = taken.taken.number ∙ all;
  each = taken.taken.each;
  text = parts_text (outline_parts width) count old now j o taken ∙ sym (append_assoc (first_line taken.first) (all_changes 0 taken.got) now);
}

-- ---- what was taken, with the worths

pub shape_of_outline : (p : SelectionProblem) (width count : ℕ) (o : Outline) (old new : List ℕ) → width ≡ length p.costs → IsOutline width count o old new → IsOutlineShape p o
shape_of_outline p width count o old new e out =
    let P : Outline → Type 0 = λ x. IsOutlineShape p x in
    let Q : ℕ → Type 0 = λ n. All (λ (set : List Bool). length set ≡ n) (out.first ∷ map (λ (x : Change). x.set) out.changes) in
    let ats = length-map out.changes (λ (x : Change). x.point.at) in
    let sets = length-map out.changes (λ (x : Change). x.set) in
    let values = length-map out.changes (λ (x : Change). x.point.value) in
    let inner : IsOutlineShape p (outline_of out.first out.changes) = record {
      count = ap suc (sets ∙ sym ats);
      selections = subst Q e (All-cons (λ (set : List Bool). length set ≡ width) out.first (map (λ (x : Change). x.set) out.changes) out.full (sets_shape width out.changes out.each));
      values = values ∙ sym ats;
    } in
    subst P (sym out.is) inner

worths_of_outline : (p : SelectionProblem) (o : Outline) (first : List Bool) (changes : List Change) → o ≡ outline_of first changes → HasWorths p o (length o.prices) →
    HasWorths p (outline_of first changes) (length changes)
worths_of_outline p o first changes e h =
    let P : Outline → Type 0 = λ x. HasWorths p x (length x.prices) in
    let Q : ℕ → Type 0 = λ n. HasWorths p (outline_of first changes) n in
    subst Q (length-map changes (λ (x : Change). x.point.at)) (subst P e h)

pub outline_taken : (p : SelectionProblem) (width count : ℕ) (o : Outline) (old new : List ℕ) → IsOutline width count o old new → HasWorths p o (length o.prices) →
    old ≡ selections_text p o.prices o.selections ++ new
outline_taken p width count o old new out h =
    let w = worths_of_outline p o out.first out.changes out.is h in
    out.text
    ∙ ap (λ (t : List ℕ). (first_line out.first ++ t) ++ new) (lines_are_text p 0 out.first out.changes w.each)
    ∙ ap (λ (x : Outline). selections_text p x.prices x.selections ++ new) (sym out.is)

pub outline_selections : (p : SelectionProblem) (width count : ℕ) (o : Outline) (old new : List ℕ) → width ≡ length p.costs → IsOutline width count o old new →
    IsSelectionsShape p count o.prices o.selections
outline_selections p width count o old new e out =
    let P : Outline → Type 0 = λ x. IsSelectionsShape p count x.prices x.selections in
    let Q : ℕ → Type 0 = λ n. All (λ (set : List Bool). length set ≡ n) (out.first ∷ map (λ (x : Change). x.set) out.changes) in
    let ats = length-map out.changes (λ (x : Change). x.point.at) in
    let sets = length-map out.changes (λ (x : Change). x.set) in
    let inner : IsSelectionsShape p count (map (λ (x : Change). x.point.at) out.changes) (out.first ∷ map (λ (x : Change). x.set) out.changes) = record {
      full = ats ∙ out.number;
      prices_shape = ats_shape width out.changes out.each;
      count_is = ap suc (sets ∙ out.number);
      selections_shape = subst Q e (All-cons (λ (set : List Bool). length set ≡ width) out.first (map (λ (x : Change). x.set) out.changes) out.full (sets_shape width out.changes out.each));
    } in
    subst P (sym out.is) inner

-- ---- the text of selections that stands there

-- the first selection and the changes of such a text
pub record IsSplit (p : SelectionProblem) (width count : ℕ) (prices : List Fraction) (selections : List (List Bool)) (old rest : List ℕ) : Type 0 where
  pub first : List Bool
  pub changes : List Change
  pub full : length first ≡ width
  pub number : length changes ≡ count
  pub each : All (IsChange width) changes
  pub there : old ≡ outline_text first changes ++ rest
  pub same_prices : map (λ (x : Change). x.point.at) changes ≡ prices
  pub same_selections : first ∷ map (λ (x : Change). x.set) changes ≡ selections
  pub worths : HasWorths p (outline_of first changes) (length changes)

pub split_of : (p : SelectionProblem) (width count : ℕ) (prices : List Fraction) (selections : List (List Bool)) (old rest : List ℕ) → IsBoundedProblem p →
    width ≡ length p.costs → IsSelectionsShape p count prices selections → old ≡ selections_text p prices selections ++ rest →
    IsSplit p width count prices selections old rest
split_of p width count prices [] old rest b e shape there = absurd (let n = shape.count_is in omega (arith, n))
split_of p width count prices (first ∷ selections) old rest b e shape there =
    let n = shape.count_is in
    let m = shape.full in
    let same : length selections ≡ length prices = omega (arith, n, m) in
    let changes = changes_of p first prices selections in
    let P : ℕ → Type 0 = λ k. All (IsChange k) changes in
    let all = shape.selections_shape in
    record {
      first = first;
      changes = changes;
      full = all 0 [] (omega arith) ∙ sym e;
      number = changes_full p first prices selections same ∙ m;
      each = subst P (sym e) (changes_shape p first prices selections b shape.prices_shape (λ i d low. all (suc i) d (omega (arith, low))));
      there = there ∙ ap (λ (t : List ℕ). (first_line first ++ t) ++ rest) (text_is_lines p 0 first prices selections);
      same_prices = prices_are p first prices selections same;
      same_selections = ap (λ (xs : List (List Bool)). first ∷ xs) (sets_are p first prices selections same);
      worths = record { each = worths_are p first prices selections };
    }

-- the outline that is taken there has the worths
pub split_worths : (p : SelectionProblem) (o : Outline) (first : List Bool) (changes : List Change) → o ≡ outline_of first changes →
    HasWorths p (outline_of first changes) (length changes) → HasWorths p o (length o.prices)
split_worths p o first changes e h =
    let P : Outline → Type 0 = λ x. HasWorths p x (length x.prices) in
    let Q : ℕ → Type 0 = λ n. HasWorths p (outline_of first changes) n in
    subst P (sym e) (subst Q (sym (length-map changes (λ (x : Change). x.point.at))) h)

pub split_parts : (o : Outline) (first : List Bool) (changes : List Change) (prices : List Fraction) (selections : List (List Bool)) → o ≡ outline_of first changes →
    map (λ (x : Change). x.point.at) changes ≡ prices → first ∷ map (λ (x : Change). x.set) changes ≡ selections → (o.prices ≡ prices) × (o.selections ≡ selections)
split_parts o first changes prices selections e f g = (ap (λ (x : Outline). x.prices) e ∙ f, ap (λ (x : Outline). x.selections) e ∙ g)
