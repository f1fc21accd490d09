-- Lines of a fraction and a value, and items one after another, have one reading.
use Rattle.std.proofs.Common.{◌≡◌, ℕ, ◌+◌, ◌<◌, ◌^◌, List, [], ◌∷◌, ◌++◌, length, get_or, map, refl, sym, ap, ◌∙◌, append_assoc, arith}
use Rattle.std.specs.Prelude.{ℤ, nat_abs}
use Rattle.std.specs.List.{AllByRecursion}
use Rattle.std.specs.Fmt.{decimal, signed_decimal}
use Rattle.std.proofs.lemmas.Int.{ints}
use Rattle.std.proofs.lemmas.List.{append_cancel_left}
use Rattle.pf_model.specs.Fraction.{Fraction}
use Rattle.pf_model.specs.Answer.{IsWithinSize}
use Rattle.pf_text.specs.Spelling.{row_line}
use Rattle.pf_text.proofs.SameParts.{same_fraction}
use Rattle.pf_text.proofs.NumbersLemmas.{one_number}
use Rattle.pf_text.proofs.TextLines.{decimal_plain, numbers_plain}
use Rattle.pf_lines.specs.Taking.{IsValued, valued_line}
use Rattle.pf_lines.specs.declared.taking.Valued.{Valued}
use Rattle.pf_lines.proofs.ItemsTaken.{Items}
use Rattle.pf_format.specs.Format.{IsSame, HasOneReading}
use Rattle.pf_format.specs.LineLaws.{same_behind, line_one}

-- ---- numbers, and values at fractions

pub long_digits : (x : ℤ) → IsWithinSize (2 ^ 127) x → nat_abs x < 10 ^ 64
long_digits x size =
    let low = size.low in
    let high = size.high in
    omega (arith, ints, low, high)

-- a line of one number
pub number_row_one : (word indices : List ℕ) → HasOneReading (λ x. row_line word indices (x ∷ [])) (IsWithinSize (2 ^ 127))
number_row_one word indices = line_one word indices (λ x. map signed_decimal (x ∷ [])) (IsWithinSize (2 ^ 127)) (λ x. numbers_plain (x ∷ [])) (λ x y a b e.
    let same : signed_decimal x ≡ signed_decimal y = cc in
    one_number x y (long_digits x a) (long_digits y b) same)

value_digits : (x : ℤ) → IsWithinSize (2 ^ 120) x → nat_abs x < 10 ^ 64
value_digits x size =
    let low = size.low in
    let high = size.high in
    omega (arith, ints, low, high)

abbrev valued_of : Fraction → ℤ → Valued
valued_of at value = record { at = at; value = value }

same_valued : (at at' : Fraction) (value value' : ℤ) → at ≡ at' → value ≡ value' → valued_of at value ≡ valued_of at' value'
same_valued at at' value value' e f = cc

same_fields : (x y : Valued) → IsValued x → IsValued y → map signed_decimal (x.at.p ∷ x.at.q ∷ x.value ∷ []) ≡ map signed_decimal (y.at.p ∷ y.at.q ∷ y.value ∷ []) → x ≡ y
same_fields x y a b e =
    let p : signed_decimal x.at.p ≡ signed_decimal y.at.p = cc in
    let q : signed_decimal x.at.q ≡ signed_decimal y.at.q = cc in
    let v : signed_decimal x.value ≡ signed_decimal y.value = cc in
    same_valued x.at y.at x.value y.value (same_fraction x.at y.at a.at b.at p q) (one_number x.value y.value (value_digits x.value a.value) (value_digits y.value b.value) v)

pub valued_row_one : (word indices : List ℕ) → HasOneReading (valued_line word indices) IsValued
valued_row_one word indices =
    line_one word indices (λ (x : Valued). map signed_decimal (x.at.p ∷ x.at.q ∷ x.value ∷ [])) IsValued (λ x. numbers_plain (x.at.p ∷ x.at.q ∷ x.value ∷ [])) same_fields

-- what stands behind a line of a count
pub count_left : (word : List ℕ) (m n : ℕ) (rest later : List ℕ) → row_line word (m ∷ []) [] ++ rest ≡ row_line word (n ∷ []) [] ++ later → rest ≡ later
count_left word m n rest later e = (same_behind word (decimal m ∷ []) (decimal n ∷ []) rest later (decimal_plain m, tt) (decimal_plain n, tt) e).left

-- ---- items

behind : {X : Type 0} (items : Items X) (j : ℕ) (x : X) (xs : List X) (rest : List ℕ) → items.text j (x ∷ xs) ++ rest ≡ items.item j x ++ (items.text (j + 1) xs ++ rest)
behind items j x xs rest = ap (λ (t : List ℕ). t ++ rest) (items.more j x xs) ∙ append_assoc (items.item j x) (items.text (j + 1) xs) rest

-- so many items
pub counted_one : {X : Type 0} (items : Items X) → ((j : ℕ) → HasOneReading (items.item j) items.Is) → (j : ℕ) (a b : List X) (rest later : List ℕ) → length a ≡ length b
    → AllByRecursion items.Is a → AllByRecursion items.Is b → items.text j a ++ rest ≡ items.text j b ++ later → IsSame a b rest later
counted_one items one j [] [] rest later n sa sb e = record { value = refl; left = append_cancel_left (items.text j []) rest later e }
counted_one items one j [] (y ∷ b) rest later n sa sb e = absurd (omega (arith, n))
counted_one items one j (x ∷ a) [] rest later n sa sb e = absurd (omega (arith, n))
counted_one items one j (x ∷ a) (y ∷ b) rest later n sa sb e =
    let s = one j x y (items.text (j + 1) a ++ rest) (items.text (j + 1) b ++ later) sa.0 sb.0 (sym (behind items j x a rest) ∙ e ∙ behind items j y b later) in
    let t = counted_one items one (j + 1) a b rest later (omega (arith, n)) sa.1 sb.1 s.left in
    let here = s.value in
    let back = t.value in
    record { value = cc; left = t.left }

-- The text of an item begins with this byte, and an item has one reading.
pub record IsMarked {X : Type 0} (items : Items X) (mark : ℕ) : Type 0 where
  pub one : (j : ℕ) → HasOneReading (items.item j) items.Is
  pub front : (j : ℕ) (x : X) (rest : List ℕ) → get_or (items.item j x ++ rest) 0 0 ≡ mark

not_more : {X : Type 0} (items : Items X) (mark : ℕ) → IsMarked items mark → (j : ℕ) (x : X) (xs : List X) (rest later : List ℕ) → (get_or rest 0 0 ≡ mark → ⊥)
    → items.text j [] ++ rest ≡ items.text j (x ∷ xs) ++ later → ⊥
not_more items mark m j x xs rest later unlike e =
    let start : rest ≡ items.text j [] ++ rest = sym (ap (λ (t : List ℕ). t ++ rest) (items.none j)) in
    unlike (ap (λ (t : List ℕ). get_or t 0 0) (start ∙ e ∙ behind items j x xs later) ∙ m.front j x (items.text (j + 1) xs ++ later))

-- items, and behind them what begins with another byte
pub items_one : {X : Type 0} (items : Items X) (mark : ℕ) → IsMarked items mark → (j : ℕ) (a b : List X) (rest later : List ℕ) → AllByRecursion items.Is a → AllByRecursion items.Is b
    → (get_or rest 0 0 ≡ mark → ⊥) → (get_or later 0 0 ≡ mark → ⊥) → items.text j a ++ rest ≡ items.text j b ++ later → IsSame a b rest later
items_one items mark m j [] [] rest later sa sb x y e = record { value = refl; left = append_cancel_left (items.text j []) rest later e }
items_one items mark m j [] (t ∷ b) rest later sa sb x y e = absurd (not_more items mark m j t b rest later x e)
items_one items mark m j (s ∷ a) [] rest later sa sb x y e = absurd (not_more items mark m j s a later rest y (sym e))
items_one items mark m j (s ∷ a) (t ∷ b) rest later sa sb x y e =
    let first = m.one j s t (items.text (j + 1) a ++ rest) (items.text (j + 1) b ++ later) sa.0 sb.0 (sym (behind items j s a rest) ∙ e ∙ behind items j t b later) in
    let second = items_one items mark m (j + 1) a b rest later sa.1 sb.1 x y first.left in
    let here = first.value in
    let back = second.value in
    record { value = cc; left = second.left }
