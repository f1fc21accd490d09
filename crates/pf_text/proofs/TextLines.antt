-- A text of lines has these lines and no others: fields and lines can be told apart.
use Rattle.std.proofs.Common.{◌≡◌, ℕ, zero, suc, ◌+◌, ◌/◌, ◌%◌, ◌<◌, ◌^◌, Bool, true, false, cond, eqb, ltb, not, ◌&&◌, List, [], ◌∷◌, ◌++◌, length, get_or, map, Some, refl, sym, ap, subst, ◌∙◌, append_assoc, arith}
use Rattle.std.specs.Prelude.{ℤ, pos, negsuc}
use Rattle.std.specs.List.{join_with_byte, list_all, AllByRecursion}
use Rattle.std.specs.Fmt.{digit_glyph, digits_onto, digits, decimal, signed_decimal}
use Rattle.std.proofs.lemmas.Bool.{lt-ltb, ltb-true}
use Rattle.std.proofs.lemmas.Bool.Decides.{nat_tests}
use Rattle.std.proofs.lemmas.List.Folds.{list_all-append}
use Rattle.pf_text.specs.Lines.{is_blank, fields}
use Rattle.pf_text.specs.Numbers.{natural_of}
use Rattle.pf_text.specs.Spelling.{line, side_text}
use Rattle.pf_text.proofs.LinesLemmas.{IsField, AreFields, field_end, fields_of_line}
use Rattle.pf_text.proofs.NumbersLemmas.{natural_of-decimal}

-- ---- plain fields

-- the byte is none of the blanks and no line feed
abbrev pub is_plain : ℕ → Bool
is_plain b = ltb 32 b

-- a field has a byte, and all its bytes are plain
pub record IsPlain (field : List ℕ) : Type 0 where
  pub some : 0 < length field
  pub all : list_all is_plain field ≡ true

abbrev pub ArePlain : List (List ℕ) → Type 0
ArePlain fields = AllByRecursion IsPlain fields

both : (a b : Bool) → (a && b) ≡ true → (a ≡ true) × (b ≡ true)
both true true e = (refl, refl)
both true false e = absurd cc
both false b e = absurd cc

no_blank : (b : ℕ) → 32 < b → is_blank b ≡ false
no_blank b large = grind (arith, nat_tests)

field_end_plain : (field rest : List ℕ) → list_all is_plain field ≡ true → field_end (32 ∷ rest) ≡ 0 → field_end (field ++ 32 ∷ rest) ≡ length field
field_end_plain [] rest all none = none
field_end_plain (b ∷ field) rest all none =
    let p = both (is_plain b) (list_all is_plain field) all in
    let other = no_blank b (ltb-true 32 b p.0) in
    let shift : field_end (b ∷ (field ++ 32 ∷ rest)) ≡ suc (field_end (field ++ 32 ∷ rest)) = rw other (omega arith) in
    shift ∙ ap suc (field_end_plain field rest p.1 none)

field_end_alone : (field : List ℕ) → list_all is_plain field ≡ true → field_end field ≡ length field
field_end_alone [] all = refl
field_end_alone (b ∷ field) all =
    let p = both (is_plain b) (list_all is_plain field) all in
    let other = no_blank b (ltb-true 32 b p.0) in
    let shift : field_end (b ∷ field) ≡ suc (field_end field) = rw other (omega arith) in
    shift ∙ ap suc (field_end_alone field p.1)

is_field : (field : List ℕ) → IsPlain field → IsField field
is_field field plain = record { some = plain.some; before_blank = λ rest. field_end_plain field rest plain.all refl; alone = field_end_alone field plain.all }

pub are_fields : (parts : List (List ℕ)) → ArePlain parts → AreFields parts
are_fields [] plain = tt
are_fields (field ∷ parts) plain = (is_field field plain.0, are_fields parts plain.1)

-- ---- lines

-- no line feed
abbrev pub is_inside : ℕ → Bool
is_inside b = not (eqb b 10)

plain_inside : (field : List ℕ) → list_all is_plain field ≡ true → list_all is_inside field ≡ true
plain_inside [] all = refl
plain_inside (b ∷ field) all =
    let p = both (is_plain b) (list_all is_plain field) all in
    let large = ltb-true 32 b p.0 in
    let here : is_inside b ≡ true = grind (arith, nat_tests) in
    rw (here, plain_inside field p.1) refl

pub join_inside : (parts : List (List ℕ)) → ArePlain parts → list_all is_inside (join_with_byte 32 parts) ≡ true
join_inside [] plain = refl
join_inside (field ∷ []) plain = plain_inside field plain.0.all
join_inside (field ∷ next ∷ parts) plain =
    list_all-append is_inside field (32 ∷ join_with_byte 32 (next ∷ parts)) ∙ rw (plain_inside field plain.0.all, join_inside (next ∷ parts) plain.1) refl

record IsSameSplit (a b r s : List ℕ) : Type 0 where
  pub front : a ≡ b
  pub back : r ≡ s

-- the first line feed ends the line
same_split : (a b r s : List ℕ) → list_all is_inside a ≡ true → list_all is_inside b ≡ true → a ++ 10 ∷ r ≡ b ++ 10 ∷ s → IsSameSplit a b r s
same_split [] [] r s pa pb e = record { front = refl; back = cc }
same_split [] (y ∷ b) r s pa pb e =
    let first : 10 ≡ y = cc in
    absurd (let out : is_inside y ≡ true = (both (is_inside y) (list_all is_inside b) pb).0 in let P : ℕ → Type 0 = λ n. is_inside n ≡ true in let bad : is_inside 10 ≡ true = subst P (sym first) out in cc)
same_split (x ∷ a) [] r s pa pb e =
    let first : x ≡ 10 = cc in
    absurd (let out : is_inside x ≡ true = (both (is_inside x) (list_all is_inside a) pa).0 in let P : ℕ → Type 0 = λ n. is_inside n ≡ true in let bad : is_inside 10 ≡ true = subst P first out in cc)
same_split (x ∷ a) (y ∷ b) r s pa pb e =
    let first : x ≡ y = cc in
    let later : a ++ 10 ∷ r ≡ b ++ 10 ∷ s = cc in
    let same = same_split a b r s (both (is_inside x) (list_all is_inside a) pa).1 (both (is_inside y) (list_all is_inside b) pb).1 later in
    let front = same.front in
    record { front = cc; back = same.back }

pub record IsSameLine (parts others : List (List ℕ)) (rest later : List ℕ) : Type 0 where
  pub same_parts : parts ≡ others
  pub same_rest : rest ≡ later

-- a line and what follows it are told apart
pub same_line : (parts others : List (List ℕ)) (rest later : List ℕ) → ArePlain parts → ArePlain others → line parts ++ rest ≡ line others ++ later → IsSameLine parts others rest later
same_line parts others rest later plain other_plain e =
    let a = join_with_byte 32 parts in
    let b = join_with_byte 32 others in
    let left : (a ++ 10 ∷ []) ++ rest ≡ a ++ 10 ∷ rest = append_assoc a (10 ∷ []) rest in
    let right : (b ++ 10 ∷ []) ++ later ≡ b ++ 10 ∷ later = append_assoc b (10 ∷ []) later in
    let same = same_split a b rest later (join_inside parts plain) (join_inside others other_plain) (sym left ∙ e ∙ right) in
    record {
      same_parts = sym (fields_of_line parts (are_fields parts plain)) ∙ ap fields same.front ∙ fields_of_line others (are_fields others other_plain);
      same_rest = same.back;
    }

-- the text of lines of these fields
abbrev pub lines_text : List (List (List ℕ)) → List ℕ
lines_text [] = []
lines_text (parts ∷ later) = line parts ++ lines_text later

pub lines_text-append : (a b : List (List (List ℕ))) → lines_text (a ++ b) ≡ lines_text a ++ lines_text b
lines_text-append [] b = refl
lines_text-append (parts ∷ a) b = ap (λ (t : List ℕ). line parts ++ t) (lines_text-append a b) ∙ sym (append_assoc (line parts) (lines_text a) (lines_text b))

some_byte : (a rest : List ℕ) → [] ≡ (a ++ 10 ∷ []) ++ rest → ⊥
some_byte [] rest e = cc
some_byte (x ∷ a) rest e = cc

-- equal texts of lines have equal lines
pub same_lines : (a b : List (List (List ℕ))) → AllByRecursion ArePlain a → AllByRecursion ArePlain b → lines_text a ≡ lines_text b → a ≡ b
same_lines [] [] pa pb e = refl
same_lines [] (others ∷ b) pa pb e = absurd (some_byte (join_with_byte 32 others) (lines_text b) e)
same_lines (parts ∷ a) [] pa pb e = absurd (some_byte (join_with_byte 32 parts) (lines_text a) (sym e))
same_lines (parts ∷ a) (others ∷ b) pa pb e =
    let same = same_line parts others (lines_text a) (lines_text b) pa.0 pb.0 e in
    let front = same.same_parts in
    let back = same_lines a b pa.1 pb.1 same.same_rest in
    cc

-- ---- numbers and sides are plain

glyph_plain : (d : ℕ) → d < 10 → is_plain (digit_glyph false d) ≡ true
glyph_plain d small = rw (lt-ltb d 10 small) (lt-ltb 32 (48 + d) (omega arith))

onto_plain : (k n : ℕ) (acc : List ℕ) → IsPlain acc → IsPlain (digits_onto k 10 false n acc)
onto_plain zero n acc plain = plain
onto_plain (suc k) n acc plain =
    let here : IsPlain (digit_glyph false (n % 10) ∷ acc) = record { some = omega arith; all = rw (glyph_plain (n % 10) (omega arith), plain.all) refl } in
    by (eqb (n / 10) 0) here (onto_plain k (n / 10) (digit_glyph false (n % 10) ∷ acc) here)
  where
    by : (t : Bool) → IsPlain (digit_glyph false (n % 10) ∷ acc) → IsPlain (digits_onto k 10 false (n / 10) (digit_glyph false (n % 10) ∷ acc))
        → IsPlain (cond t (digit_glyph false (n % 10) ∷ acc) (digits_onto k 10 false (n / 10) (digit_glyph false (n % 10) ∷ acc)))
    by true here below = here
    by false here below = below

first_plain : (k n : ℕ) → IsPlain (digits_onto (suc k) 10 false n [])
first_plain k n =
    let here : IsPlain (digit_glyph false (n % 10) ∷ []) = record { some = omega arith; all = rw (glyph_plain (n % 10) (omega arith)) refl } in
    by (eqb (n / 10) 0) here (onto_plain k (n / 10) (digit_glyph false (n % 10) ∷ []) here)
  where
    by : (t : Bool) → IsPlain (digit_glyph false (n % 10) ∷ []) → IsPlain (digits_onto k 10 false (n / 10) (digit_glyph false (n % 10) ∷ []))
        → IsPlain (cond t (digit_glyph false (n % 10) ∷ []) (digits_onto k 10 false (n / 10) (digit_glyph false (n % 10) ∷ [])))
    by true here below = here
    by false here below = below

pub decimal_plain : (n : ℕ) → IsPlain (decimal n)
unfolding digits
decimal_plain n = first_plain 63 n

pub signed_plain : (z : ℤ) → IsPlain (signed_decimal z)
signed_plain (pos n) = decimal_plain n
signed_plain (negsuc n) = let p = decimal_plain (suc n) in record { some = omega arith; all = p.all }

pub numbers_plain : (numbers : List ℤ) → ArePlain (map signed_decimal numbers)
numbers_plain [] = tt
numbers_plain (z ∷ numbers) = (signed_plain z, numbers_plain numbers)

side_all : (side : List Bool) → list_all is_plain (side_text side) ≡ true
side_all [] = refl
side_all (true ∷ side) = side_all side
side_all (false ∷ side) = side_all side

side_length : (side : List Bool) → length (side_text side) ≡ length side
side_length [] = refl
side_length (b ∷ side) = ap suc (side_length side)

pub side_plain : (side : List Bool) → 0 < length side → IsPlain (side_text side)
side_plain side some = record { some = (let same = side_length side in omega (arith, same, some)); all = side_all side }

-- ---- and they can be read back

pub same_side : (a b : List Bool) → side_text a ≡ side_text b → a ≡ b
same_side [] [] e = refl
same_side [] (y ∷ b) e = absurd cc
same_side (x ∷ a) [] e = absurd cc
same_side (true ∷ a) (true ∷ b) e = ap (λ (s : List Bool). true ∷ s) (same_side a b cc)
same_side (false ∷ a) (false ∷ b) e = ap (λ (s : List Bool). false ∷ s) (same_side a b cc)
same_side (true ∷ a) (false ∷ b) e = absurd (let first = ap (λ (xs : List ℕ). get_or xs 0 0) e in omega (arith, first))
same_side (false ∷ a) (true ∷ b) e = absurd (let first = ap (λ (xs : List ℕ). get_or xs 0 0) e in omega (arith, first))

pub same_decimal : (m n : ℕ) → m < 10 ^ 64 → n < 10 ^ 64 → decimal m ≡ decimal n → m ≡ n
same_decimal m n m_small n_small e =
    let some : Some m ≡ Some n = sym (natural_of-decimal m m_small) ∙ ap natural_of e ∙ natural_of-decimal n n_small in
    cc
