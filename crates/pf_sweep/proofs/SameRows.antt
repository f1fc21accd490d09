-- Rows of the right shape with equal texts are equal.
use Rattle.std.proofs.Common.{◌≡◌, ℕ, ◌+◌, ◌-◌, ◌<◌, ◌≤◌, ◌^◌, List, [], ◌∷◌, ◌++◌, length, get_or, drop, refl, sym, ap, ◌∙◌, append_assoc, arith}
use Rattle.std.specs.Prelude.{◌≢◌, ℤ, nat_abs, All, codes}
use Rattle.std.specs.List.{AllByRecursion}
use Rattle.std.specs.Fmt.{decimal, signed_decimal}
use Rattle.std.proofs.lemmas.Int.{ints}
use Rattle.std.proofs.lemmas.List.{append-nil}
use Rattle.std.proofs.lemmas.List.Elements.{recursion_from_All}
use Rattle.pf_model.specs.Fraction.{Fraction}
use Rattle.pf_model.specs.Answer.{Row, IsWithinSize, IsFractionShape, IsRowShape}
use Rattle.pf_text.specs.Spelling.{line}
use Rattle.pf_text.proofs.NumbersLemmas.{one_number}
use Rattle.pf_text.proofs.TextLines.{ArePlain, lines_text, lines_text-append, same_lines, decimal_plain, signed_plain, same_decimal}
use Rattle.pf_sweep.specs.Text.{row_text, rows_text, sweep_text}

-- ---- the parts of a row

value_digits : (x : ℤ) → IsWithinSize (2 ^ 119) x → nat_abs x < 10 ^ 64
value_digits x size =
    let low = size.low in
    let high = size.high in
    omega (arith, ints, low, high)

fraction_digits : (x : Fraction) → IsFractionShape x → (nat_abs x.p < 10 ^ 64) × (nat_abs x.q < 10 ^ 64)
fraction_digits x s =
    let a = s.bounds.p_low in
    let b = s.bounds.p_high in
    let c = s.bounds.parameter in
    let d = s.bounds.q_high in
    (omega (arith, ints, a, b), omega (arith, ints, c, d))

size_digits : (n : ℕ) → n ≤ 2 ^ 13 → n < 10 ^ 64
size_digits n small = omega (arith, small)

abbrev pub row_of : ℤ → ℤ → ℤ → ℕ → Row
row_of p q value size = record { at = record { p = p; q = q }; value = value; size = size }

pub row_of_parts : (p p' q q' value value' : ℤ) (size size' : ℕ) → p ≡ p' → q ≡ q' → value ≡ value' → size ≡ size' → row_of p q value size ≡ row_of p' q' value' size'
row_of_parts p p' q q' value value' size size' d e f g = cc

-- ---- lines

abbrev row_fields : ℕ → Row → List (List ℕ)
row_fields j row = codes "x" ∷ decimal j ∷ signed_decimal row.at.p ∷ signed_decimal row.at.q ∷ signed_decimal row.value ∷ decimal row.size ∷ []

abbrev row_lines : ℕ → List Row → List (List (List ℕ))
row_lines j [] = []
row_lines j (row ∷ rows) = row_fields j row ∷ row_lines (j + 1) rows

row_lines_plain : (j : ℕ) (rows : List Row) → AllByRecursion ArePlain (row_lines j rows)
row_lines_plain j [] = tt
row_lines_plain j (row ∷ rows) =
    ((record { some = omega arith; all = refl }, (decimal_plain j, (signed_plain _, (signed_plain _, (signed_plain _, (decimal_plain _, tt)))))), row_lines_plain (j + 1) rows)

rows_text_is : (j : ℕ) (rows : List Row) → rows_text j rows ≡ lines_text (row_lines j rows)
rows_text_is j [] = refl
rows_text_is j (row ∷ rows) = ap (λ (t : List ℕ). row_text j row ++ t) (rows_text_is (j + 1) rows)

-- a field of a line, and the first byte of the first field of the first line
abbrev field_at : ℕ → ℕ → List (List (List ℕ)) → List ℕ
field_at i j lines = get_or (get_or lines i []) j []

abbrev mark : List (List (List ℕ)) → ℕ
mark lines = get_or (field_at 0 0 lines) 0 0

same_row : (j : ℕ) (x y : Row) → IsRowShape x → IsRowShape y → row_fields j x ≡ row_fields j y → x ≡ y
same_row j x y s t e =
    let f = fraction_digits x.at s.at in
    let g = fraction_digits y.at t.at in
    let p = one_number x.at.p y.at.p f.0 g.0 (ap (λ (parts : List (List ℕ)). get_or parts 2 []) e) in
    let q = one_number x.at.q y.at.q f.1 g.1 (ap (λ (parts : List (List ℕ)). get_or parts 3 []) e) in
    let value = one_number x.value y.value (value_digits x.value s.value) (value_digits y.value t.value) (ap (λ (parts : List (List ℕ)). get_or parts 4 []) e) in
    let size = same_decimal x.size y.size (size_digits x.size s.size) (size_digits y.size t.size) (ap (λ (parts : List (List ℕ)). get_or parts 5 []) e) in
    row_of_parts x.at.p y.at.p x.at.q y.at.q x.value y.value x.size y.size p q value size

same_rows_by : (j : ℕ) (a b : List Row) (tail tail' : List (List (List ℕ))) → AllByRecursion IsRowShape a → AllByRecursion IsRowShape b → mark tail ≢ 120 → mark tail' ≢ 120
    → row_lines j a ++ tail ≡ row_lines j b ++ tail' → a ≡ b
same_rows_by j [] [] tail tail' sa sb other other' e = refl
same_rows_by j [] (row ∷ b) tail tail' sa sb other other' e = absurd (other (ap mark e))
same_rows_by j (row ∷ a) [] tail tail' sa sb other other' e = absurd (other' (sym (ap mark e)))
same_rows_by j (x ∷ a) (y ∷ b) tail tail' sa sb other other' e =
    let here : x ≡ y = same_row j x y sa.0 sb.0 (ap (λ (ls : List (List (List ℕ))). get_or ls 0 []) e) in
    let back : a ≡ b = same_rows_by (j + 1) a b tail tail' sa.1 sb.1 other other' (ap (drop 1) e) in
    ap (λ (row : Row). row ∷ a) here ∙ ap (λ (rows : List Row). y ∷ rows) back

-- ---- the whole text

abbrev sweep_lines : List Row → List (List (List ℕ))
sweep_lines rows = (codes "o" ∷ codes "sweep" ∷ []) ∷ (codes "k" ∷ decimal (length rows - 1) ∷ []) ∷ (row_lines 0 rows ++ (codes "end" ∷ []) ∷ [])

four : (a b c d : List ℕ) → a ++ b ++ c ++ d ≡ a ++ (b ++ (c ++ (d ++ [])))
four a b c d = simp (append_assoc, append-nil)

sweep_text_is : (rows : List Row) → sweep_text rows ≡ lines_text (sweep_lines rows)
unfolding sweep_text
sweep_text_is rows =
    four (line (codes "o" ∷ codes "sweep" ∷ [])) (line (codes "k" ∷ decimal (length rows - 1) ∷ [])) (rows_text 0 rows) (line (codes "end" ∷ []))
    ∙ ap (λ (t : List ℕ). line (codes "o" ∷ codes "sweep" ∷ []) ++ (line (codes "k" ∷ decimal (length rows - 1) ∷ []) ++ t))
    (ap (λ (t : List ℕ). t ++ (line (codes "end" ∷ []) ++ [])) (rows_text_is 0 rows) ∙ sym (lines_text-append (row_lines 0 rows) ((codes "end" ∷ []) ∷ [])))

all_plain : (a b : List (List (List ℕ))) → AllByRecursion ArePlain a → AllByRecursion ArePlain b → AllByRecursion ArePlain (a ++ b)
all_plain [] b pa pb = pb
all_plain (parts ∷ a) b pa pb = (pa.0, all_plain a b pa.1 pb)

end_plain : AllByRecursion ArePlain ((codes "end" ∷ []) ∷ [])
end_plain = ((record { some = omega arith; all = refl }, tt), tt)

sweep_lines_plain : (rows : List Row) → AllByRecursion ArePlain (sweep_lines rows)
sweep_lines_plain rows = (
  (record { some = omega arith; all = refl }, (record { some = omega arith; all = refl }, tt)),
  ((record { some = omega arith; all = refl }, (decimal_plain _, tt)), all_plain (row_lines 0 rows) ((codes "end" ∷ []) ∷ []) (row_lines_plain 0 rows) end_plain),
)

pub same_rows : (a b : List Row) → All IsRowShape a → All IsRowShape b → sweep_text a ≡ sweep_text b → a ≡ b
same_rows a b sa sb e =
    let lines : sweep_lines a ≡ sweep_lines b = same_lines (sweep_lines a) (sweep_lines b) (sweep_lines_plain a) (sweep_lines_plain b) (sym (sweep_text_is a) ∙ e ∙ sweep_text_is b) in
    let other : mark ((codes "end" ∷ []) ∷ []) ≢ 120 = (λ same. omega (arith, same)) in
    same_rows_by 0 a b ((codes "end" ∷ []) ∷ []) ((codes "end" ∷ []) ∷ []) (recursion_from_All IsRowShape a sa) (recursion_from_All IsRowShape b sb) other other (ap (drop 2) lines)
