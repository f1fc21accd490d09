-- Lines of numbers, sides and fractions, taken from the front of a text piece by piece.
use Rattle.std.proofs.Common.{◌≡◌, ℕ, ◌+◌, ◌<◌, ◌≤◌, arith, List, [], ◌∷◌, ◌++◌, length, map, drop, get_or, add-one, Bool, refl, sym, ap, ◌∙◌, append_assoc}
use Rattle.std.specs.Prelude.{ℤ, ◌≤ℤ◌, pos}
use Rattle.std.specs.Fmt.{decimal, signed_decimal}
use Rattle.std.proofs.lemmas.Int.{ints}
use Rattle.std.proofs.lemmas.List.{append-nil}
use Rattle.std.proofs.Math.Seq.{drop-cons}
use Rattle.pf_model.specs.Fraction.{Fraction}
use Rattle.pf_text.specs.Spelling.{line, spaced, rest_of_line, head, head_text, side_text, numbers_text, fraction_text}
use Rattle.pf_text.proofs.SpellingLemmas.{head_then, line_then}
use Rattle.pf_lines.specs.Taking.{Stops, IsBetween, IsRow, AreLabels}
use Rattle.pf_lines.specs.declared.taking.Valued.{Valued}
use Rattle.pf_lines.proofs.ItemsTaken.{Items, Stand}

-- ---- what is taken item by item

-- numbers, each with a space in front
abbrev pub number_items : ℤ → ℤ → Items ℤ
number_items min max = record {
  text = λ j numbers. numbers_text numbers;
  item = λ j number. 32 ∷ signed_decimal number;
  none = λ j. refl;
  more = λ j number numbers. refl;
  Is = IsBetween min max;
  MayFollow = Stops;
  follows = λ j number rest. refl;
}

pub numbers_stand : (width : ℕ) (min max : ℤ) (old : List ℕ) (numbers : List ℤ) (rest : List ℕ) → IsRow width min max numbers → Stops rest → old ≡ numbers_text numbers ++ rest
    → Stand (number_items min max) width old numbers rest
numbers_stand width min max old numbers rest row stops there = record { full = row.full; each = row.each; behind = stops; text = there }

-- labels, each with a space in front
abbrev pub label_items : ℕ → Items ℕ
label_items most = record {
  text = λ j labels. spaced (map decimal labels);
  item = λ j label. 32 ∷ decimal label;
  none = λ j. refl;
  more = λ j label labels. refl;
  Is = λ label. (1 ≤ label) × (label ≤ most);
  MayFollow = Stops;
  follows = λ j label rest. refl;
}

pub labels_stand : (width most : ℕ) (old labels rest : List ℕ) → AreLabels width most labels → Stops rest → old ≡ spaced (map decimal labels) ++ rest → Stand (label_items most) width old labels rest
labels_stand width most old labels rest row stops there = record { full = row.full; each = row.each; behind = stops; text = there }

-- the number of a label is one from 1 to the most
pub label_found : (most : ℕ) (P : ℤ → List ℕ → Type 0) (now : List ℕ) → ((n : ℤ) (rest : List ℕ) → pos 1 ≤ℤ n → n ≤ℤ pos most → Stops rest → now ≡ (32 ∷ signed_decimal n) ++ rest → P n rest)
    → (label : ℕ) (rest : List ℕ) → (1 ≤ label) × (label ≤ most) → Stops rest → now ≡ (32 ∷ decimal label) ++ rest → P (pos label) rest
label_found most P now found label rest is stops there =
    let low = is.0 in
    let high = is.1 in
    found (pos label) rest (omega (arith, ints, low)) (omega (arith, ints, high)) stops there

-- the nodes of a side
abbrev pub side_items : Items Bool
side_items = record {
  text = λ j side. side_text side;
  item = λ j inside. side_text (inside ∷ []);
  none = λ j. refl;
  more = λ j inside side. refl;
  Is = λ inside. Unit {0};
  MayFollow = λ rest. Unit {0};
  follows = λ j inside rest. tt;
}

pub side_stands : (nodes : ℕ) (old : List ℕ) (side : List Bool) (rest : List ℕ) → length side ≡ nodes → old ≡ side_text side ++ rest → Stand side_items nodes old side rest
side_stands nodes old side rest full there = record { full = full; each = λ i other low. tt; behind = tt; text = there }

-- ---- the head of a line

pub stops_fields : (fields : List (List ℕ)) (rest : List ℕ) → Stops rest → Stops (spaced fields ++ rest)
stops_fields [] rest stops = stops
stops_fields (field ∷ fields) rest stops = refl

-- the index at a place, and those after it
pub index_then : (indices : List ℕ) (i other : ℕ) (rest : List ℕ) → i < length indices
    → spaced (map decimal (drop i indices)) ++ rest ≡ (32 ∷ decimal (get_or indices i other)) ++ (spaced (map decimal (drop (i + 1) indices)) ++ rest)
index_then indices i other rest low =
    let next : drop i indices ≡ get_or indices i other ∷ drop (i + 1) indices = rw add-one (drop-cons indices i other low) in
    ap (λ (xs : List ℕ). spaced (map decimal xs) ++ rest) next ∙ append_assoc (32 ∷ decimal (get_or indices i other)) (spaced (map decimal (drop (i + 1) indices))) rest

-- a line is its head, and the rest
pub line_rest : (word indices : List ℕ) (fields : List (List ℕ)) (rest : List ℕ) → line (head word indices ++ fields) ++ rest ≡ head_text word indices ++ (rest_of_line fields ++ rest)
line_rest word indices fields rest = ap (λ (t : List ℕ). t ++ rest) (sym (head_then word indices fields)) ∙ append_assoc (head_text word indices) (rest_of_line fields) rest

-- what stands after the head of a line
pub behind_head : (word indices : List ℕ) (fields : List (List ℕ)) (rest t0 t1 : List ℕ) → ((r : List ℕ) → Stops r → t0 ≡ head_text word indices ++ r → t1 ≡ r)
    → t0 ≡ line (head word indices ++ fields) ++ rest → t1 ≡ spaced fields ++ (10 ∷ rest)
behind_head word indices fields rest t0 t1 found there = found (spaced fields ++ (10 ∷ rest)) (stops_fields fields (10 ∷ rest) refl) (there ∙ line_then word indices fields rest)

-- a line that was taken: its head, its fields and the line feed
pub line_taken : (word indices : List ℕ) (fields : List (List ℕ)) (t0 t1 t2 t3 : List ℕ) → t0 ≡ head_text word indices ++ t1 → t1 ≡ spaced fields ++ t2 → t2 ≡ (10 ∷ []) ++ t3
    → t0 ≡ line (head word indices ++ fields) ++ t3
line_taken word indices fields t0 t1 t2 t3 first later feed =
    first ∙ ap (λ (t : List ℕ). head_text word indices ++ t) (later ∙ ap (λ (t : List ℕ). spaced fields ++ t) feed) ∙ sym (line_then word indices fields t3)

-- ---- fractions, values and sides as fields

pub fraction_fields : (at : Fraction) (rest : List ℕ) → spaced (signed_decimal at.p ∷ signed_decimal at.q ∷ []) ++ rest ≡ fraction_text at ++ rest
fraction_fields at rest = by (signed_decimal at.p) (signed_decimal at.q)
  where
    by : (p q : List ℕ) → ((32 ∷ p) ++ ((32 ∷ q) ++ [])) ++ rest ≡ ((32 ∷ p) ++ (32 ∷ q)) ++ rest
    by p q = ap (λ (t : List ℕ). ((32 ∷ p) ++ t) ++ rest) (append-nil (32 ∷ q))

pub valued_fields : (at : Fraction) (value : ℤ) (rest : List ℕ)
    → spaced (signed_decimal at.p ∷ signed_decimal at.q ∷ signed_decimal value ∷ []) ++ rest ≡ fraction_text at ++ ((32 ∷ signed_decimal value) ++ rest)
valued_fields at value rest = by (signed_decimal at.p) (signed_decimal at.q) (signed_decimal value)
  where
    by : (p q v : List ℕ) → ((32 ∷ p) ++ ((32 ∷ q) ++ ((32 ∷ v) ++ []))) ++ rest ≡ ((32 ∷ p) ++ (32 ∷ q)) ++ ((32 ∷ v) ++ rest)
    by p q v = ap (λ (t : List ℕ). ((32 ∷ p) ++ ((32 ∷ q) ++ t)) ++ rest) (append-nil (32 ∷ v)) ∙ simp append_assoc

abbrev valued_of : Fraction → ℤ → Valued
valued_of at value = record { at = at; value = value }

of_parts : (at at' : Fraction) (value value' : ℤ) → at ≡ at' → value ≡ value' → valued_of at value ≡ valued_of at' value'
of_parts at at' value value' e f = cc

pub same_point : (at : Fraction) (value : ℤ) (point : Valued) → at ≡ point.at → value ≡ point.value → ◌≡◌ {A = Valued} (record { at = at; value = value }) point
same_point at value point e f = of_parts at point.at value point.value e f

-- the rest of a line that is a side
pub side_parts : (side : List Bool) (rest : List ℕ) → rest_of_line (side_text side ∷ []) ++ rest ≡ (32 ∷ []) ++ (side_text side ++ (10 ∷ rest))
side_parts side rest = ap (λ (t : List ℕ). 32 ∷ t) (append_assoc (side_text side) (10 ∷ []) rest)

-- the parts of the line of a count
pub count_parts : (word : List ℕ) (count : ℕ) (rest : List ℕ) → line (head word (count ∷ []) ++ []) ++ rest ≡ word ++ ((32 ∷ decimal count) ++ (10 ∷ rest))
count_parts word count rest = line_then word (count ∷ []) [] rest ∙ by word (decimal count)
  where
    by : (w d : List ℕ) → (w ++ ((32 ∷ d) ++ [])) ++ (10 ∷ rest) ≡ w ++ ((32 ∷ d) ++ (10 ∷ rest))
    by w d = ap (λ (t : List ℕ). (w ++ t) ++ (10 ∷ rest)) (append-nil (32 ∷ d)) ∙ append_assoc w (32 ∷ d) (10 ∷ rest)
