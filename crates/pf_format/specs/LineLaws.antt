-- Lines of numbers, fractions and labels, and tables of them, as formats.
use Rattle.std.proofs.Common.{◌≡◌, ℕ, ◌+◌, ◌<◌, ◌^◌, List, [], ◌∷◌, ◌++◌, length, get_or, map, refl, sym, ap, ◌∙◌, append_assoc, arith}
use Rattle.std.specs.Prelude.{ℤ, Bool, true, false, codes}
use Rattle.std.specs.List.{AllByRecursion}
use Rattle.std.specs.Fmt.{decimal, signed_decimal}
use Rattle.std.proofs.lemmas.List.{append_cancel_left}
use Rattle.std.proofs.lemmas.List.Elements.{recursion_from_All}
use Rattle.pf_model.specs.Fraction.{Fraction}
use Rattle.pf_model.specs.Answer.{IsFractionShape, IsWithinSize}
use Rattle.pf_text.specs.Spelling.{line, rest_of_line, head, head_text, row_line, fraction_line, side_text, side_line, label_line, table_text}
use Rattle.pf_text.proofs.SameParts.{same_fraction, same_numbers}
use Rattle.pf_text.proofs.SpellingLemmas.{line_is}
use Rattle.pf_text.proofs.TextLines.{ArePlain, same_line, decimal_plain, numbers_plain, same_decimal}
use Rattle.pf_lines.specs.Taking.{IsFlowRow, AreLabels}
use Rattle.pf_lines.proofs.RowsTaken.{line_rest, side_parts}
use Rattle.pf_format.specs.Format.{IsSame, HasOneReading}
use Rattle.pf_format.specs.Shapes.{AreFlowRows}

-- ---- plain fields

pub labels_plain : (labels : List ℕ) → ArePlain (map decimal labels)
labels_plain [] = tt
labels_plain (x ∷ labels) = (decimal_plain x, labels_plain labels)

both_plain : (a b : List (List ℕ)) → ArePlain a → ArePlain b → ArePlain (a ++ b)
both_plain [] b pa pb = pb
both_plain (x ∷ a) b pa pb = (pa.0, both_plain a b pa.1 pb)

-- ---- lines

-- a line is its word, whatever it is, and what stands behind it
behind_word : (word : List ℕ) (fields : List (List ℕ)) (rest : List ℕ) → line (word ∷ fields) ++ rest ≡ word ++ (rest_of_line fields ++ rest)
behind_word word fields rest = ap (λ (t : List ℕ). t ++ rest) (sym (line_is word fields)) ∙ append_assoc word (rest_of_line fields) rest

pub same_behind : (word : List ℕ) (a b : List (List ℕ)) (rest later : List ℕ) → ArePlain a → ArePlain b → line (word ∷ a) ++ rest ≡ line (word ∷ b) ++ later → IsSame a b rest later
same_behind word a b rest later pa pb e =
    let own = codes "r" in
    let same = append_cancel_left word (rest_of_line a ++ rest) (rest_of_line b ++ later) (sym (behind_word word a rest) ∙ e ∙ behind_word word b later) in
    let s = same_line (own ∷ a) (own ∷ b) rest later (record { some = omega arith; all = refl }, pa) (record { some = omega arith; all = refl }, pb)
    (behind_word own a rest ∙ ap (λ (t : List ℕ). own ++ t) same ∙ sym (behind_word own b later)) in
    record { value = append_cancel_left (own ∷ []) a b s.same_parts; left = s.same_rest }

-- a line of a head and these fields
pub line_one : {X : Type 0} (word indices : List ℕ) (fields : X → List (List ℕ)) (Is : X → Type 0) → ((x : X) → ArePlain (fields x))
    → ((x y : X) → Is x → Is y → fields x ≡ fields y → x ≡ y) → HasOneReading (λ x. line (head word indices ++ fields x)) Is
line_one word indices fields Is plain same x y rest later a b e =
    let front = map decimal indices in
    let s = same_behind word (front ++ fields x) (front ++ fields y) rest later (both_plain front (fields x) (labels_plain indices) (plain x)) (both_plain front (fields y) (labels_plain indices) (plain y)) e in
    record { value = same x y a b (append_cancel_left front (fields x) (fields y) s.value); left = s.left }

pub flow_row_one : (word indices : List ℕ) (width : ℕ) → HasOneReading (row_line word indices) (IsFlowRow width)
flow_row_one word indices width =
    line_one word indices (map signed_decimal) (IsFlowRow width) numbers_plain (λ x y a b e.
    same_numbers x y (recursion_from_All (IsWithinSize (2 ^ 104)) x a.each) (recursion_from_All (IsWithinSize (2 ^ 104)) y b.each) e)

same_fields : (x y : Fraction) → IsFractionShape x → IsFractionShape y → map signed_decimal (x.p ∷ x.q ∷ []) ≡ map signed_decimal (y.p ∷ y.q ∷ []) → x ≡ y
same_fields x y a b e =
    let p : signed_decimal x.p ≡ signed_decimal y.p = cc in
    let q : signed_decimal x.q ≡ signed_decimal y.q = cc in
    same_fraction x y a b p q

pub fraction_row_one : (word indices : List ℕ) → HasOneReading (λ at. fraction_line word indices at []) IsFractionShape
fraction_row_one word indices = line_one word indices (λ at. map signed_decimal (at.p ∷ at.q ∷ [])) IsFractionShape (λ at. numbers_plain (at.p ∷ at.q ∷ [])) same_fields

abbrev IsLabel : ℕ → Type 0
IsLabel x = x < 10 ^ 64

same_labels : (a b : List ℕ) → AllByRecursion IsLabel a → AllByRecursion IsLabel b → map decimal a ≡ map decimal b → a ≡ b
same_labels [] [] sa sb e = refl
same_labels [] (y ∷ b) sa sb e = absurd cc
same_labels (x ∷ a) [] sa sb e = absurd cc
same_labels (x ∷ a) (y ∷ b) sa sb e =
    let first : decimal x ≡ decimal y = cc in
    let later : map decimal a ≡ map decimal b = cc in
    let here = same_decimal x y sa.0 sb.0 first in
    let back = same_labels a b sa.1 sb.1 later in
    cc

pub label_row_one : (word indices : List ℕ) (width most : ℕ) → most < 10 ^ 64 → HasOneReading (label_line word indices) (AreLabels width most)
label_row_one word indices width most few =
    let small : (labels : List ℕ) → AreLabels width most labels → AllByRecursion IsLabel labels = λ labels are.
    recursion_from_All IsLabel labels (λ i d low. let p = are.each i d low in let high = p.1 in omega (arith, few, high)) in
    line_one word indices (map decimal) (AreLabels width most) labels_plain (λ x y a b e. same_labels x y (small x a) (small y b) e)

-- ---- sides

more_sides : (c : Bool) (x y : List Bool) (rest later : List ℕ) → IsSame x y rest later → IsSame (c ∷ x) (c ∷ y) rest later
more_sides c x y rest later s = record { value = ap (λ (side : List Bool). c ∷ side) s.value; left = s.left }

same_sides : (x y : List Bool) (rest later : List ℕ) → length x ≡ length y → side_text x ++ rest ≡ side_text y ++ later → IsSame x y rest later
same_sides [] [] rest later n e = record { value = refl; left = e }
same_sides [] (d ∷ y) rest later n e = absurd (omega (arith, n))
same_sides (c ∷ x) [] rest later n e = absurd (omega (arith, n))
same_sides (true ∷ x) (true ∷ y) rest later n e = more_sides true x y rest later (same_sides x y rest later (omega (arith, n)) (append_cancel_left (49 ∷ []) (side_text x ++ rest) (side_text y ++ later) e))
same_sides (false ∷ x) (false ∷ y) rest later n e = more_sides false x y rest later (same_sides x y rest later (omega (arith, n)) (append_cancel_left (48 ∷ []) (side_text x ++ rest) (side_text y ++ later) e))
same_sides (true ∷ x) (false ∷ y) rest later n e = absurd (let first = ap (λ (t : List ℕ). get_or t 0 0) e in omega (arith, first))
same_sides (false ∷ x) (true ∷ y) rest later n e = absurd (let first = ap (λ (t : List ℕ). get_or t 0 0) e in omega (arith, first))

side_behind : (word indices : List ℕ) (side : List Bool) (rest : List ℕ) → side_line word indices [] side ++ rest ≡ head_text word indices ++ ((32 ∷ []) ++ (side_text side ++ ((10 ∷ []) ++ rest)))
side_behind word indices side rest = line_rest word indices (side_text side ∷ []) rest ∙ ap (λ (t : List ℕ). head_text word indices ++ t) (side_parts side rest)

pub side_row_one : (word indices : List ℕ) (nodes : ℕ) → HasOneReading (side_line word indices []) (λ side. length side ≡ nodes)
side_row_one word indices nodes x y rest later a b e =
    let behind : List Bool → List ℕ → List ℕ = λ side rest. side_text side ++ ((10 ∷ []) ++ rest) in
    let head = head_text word indices in
    let first = append_cancel_left head ((32 ∷ []) ++ behind x rest) ((32 ∷ []) ++ behind y later) (sym (side_behind word indices x rest) ∙ e ∙ side_behind word indices y later) in
    let s = same_sides x y ((10 ∷ []) ++ rest) ((10 ∷ []) ++ later) (a ∙ sym b) (append_cancel_left (32 ∷ []) (behind x rest) (behind y later) first) in
    record { value = s.value; left = append_cancel_left (10 ∷ []) rest later s.left }

-- ---- tables

rows_one : (word : List ℕ) (width j : ℕ) (x y : List (List ℤ)) (rest later : List ℕ) → length x ≡ length y → AllByRecursion (IsFlowRow width) x → AllByRecursion (IsFlowRow width) y
    → table_text word j x ++ rest ≡ table_text word j y ++ later → IsSame x y rest later
rows_one word width j [] [] rest later n a b e = record { value = refl; left = e }
rows_one word width j [] (r ∷ y) rest later n a b e = absurd (omega (arith, n))
rows_one word width j (q ∷ x) [] rest later n a b e = absurd (omega (arith, n))
rows_one word width j (q ∷ x) (r ∷ y) rest later n a b e =
    let front = row_line word (j ∷ []) in
    let s = flow_row_one word (j ∷ []) width q r (table_text word (j + 1) x ++ rest) (table_text word (j + 1) y ++ later) a.0 b.0
    (sym (append_assoc (front q) (table_text word (j + 1) x) rest) ∙ e ∙ append_assoc (front r) (table_text word (j + 1) y) later) in
    let t = rows_one word width (j + 1) x y rest later (omega (arith, n)) a.1 b.1 s.left in
    let here = s.value in
    let back = t.value in
    record { value = cc; left = t.left }

pub flow_rows_one : (word : List ℕ) (first width count : ℕ) → HasOneReading (table_text word first) (AreFlowRows count width)
flow_rows_one word first width count x y rest later a b e =
    rows_one word width first x y rest later (a.full ∙ sym b.full) (recursion_from_All (IsFlowRow width) x a.each) (recursion_from_All (IsFlowRow width) y b.each) e
