-- The two numbers of a parameter, as the reader of fields gives them.
use Rattle.std.proofs.Common.{◌≡◌, ℕ, to_z, of_z, ◌<◌, ◌≤◌, Bool, true, false, cond, eqb, get_or, List, [], ◌∷◌, Option, Some, None, Ok, Err, refl, sym, ap, ◌∙◌, arith}
use Rattle.std.specs.Prelude.{ℤ, pos, neg_ℤ, ◌≤ℤ◌, int_le, nat_le, ◌&&◌, length, map}
use Rattle.std.specs.Option.{option_map, option_and_then, option_or}
use Rattle.std.specs.Int.{w64}
use Rattle.std.proofs.lemmas.Int.{ints}
use Rattle.std.proofs.lemmas.Bool.Decides.{nat_tests}
use Rattle.pf_model.specs.Fraction.{lowest}
use Rattle.pf_text.specs.Numbers.{natural_of, whole_of, billion}
use Rattle.pf_text.specs.Words.{natural_within, integer_within, fraction_of_numbers, fraction_of_parts}
use Rattle.pf_top.specs.Job.{named, answer, reads}
use Rattle.pf_top.specs.Asked.{beside, names, lone_words, first_words, command_of}
use Rattle.pf_text.proofs.NumbersLemmas.{whole_of-minus, whole_of-plain, natural_of-others}
use Rattle.pf_top.specs.Words.{word_bytes}
use Rattle.std.specs.String.{string_bytes}
use Rattle.std.specs.declared.string.String.{String}
use Rattle.std.specs.declared.alloc.Global.{Global}
use Rattle.pf_lines.specs.declared.numbers.Bad.{Bad}
use Rattle.pf_lines.specs.declared.numbers.Bad.TheVariants.{OutOfRange}
use Rattle.pf_lines.specs.Values.{within_range}
use Rattle.pf_lines.proofs.ValueLemmas.{in_range, not_refused}

integer_found : (low high n : ℤ) (value : Option ℤ) → Ok n ≡ within_range low high value → integer_within low high value ≡ Some n
integer_found low high n None e = absurd cc
integer_found low high n (Some m) e = by (int_le low m && int_le m high) e
  where
    by : (t : Bool) → Ok n ≡ cond t (Ok m) (Err OutOfRange) → cond t (Some m) None ≡ Some n
    by true e = let same : n ≡ m = cc in rw same refl
    by false e = absurd cc

below_one : (natural : Option ℕ) (n : ℤ) → option_map (λ k. neg_ℤ (pos k)) natural ≡ Some n → n ≤ℤ pos 0
below_one None n e = absurd cc
below_one (Some k) n e = let same : neg_ℤ (pos k) ≡ n = cc in omega (arith, ints, same)

-- digits have the same value in both ways of reading, and what has a `-` in front is not above 0
data Reading (field : List ℕ) : Type 0 where
  negative : natural_of field ≡ None → ((n : ℤ) → whole_of field ≡ Some n → n ≤ℤ pos 0) → Reading field
  plain : whole_of field ≡ option_map pos (natural_of field) → Reading field

minus_is_no_digit : (digits : List ℕ) → natural_of (45 ∷ digits) ≡ None
minus_is_no_digit digits = natural_of-others (45 ∷ digits) refl

reading : (field : List ℕ) → Reading field
reading [] = plain (whole_of-plain [] (λ e. cc))
reading (b ∷ digits) = by (eqb b 45) refl
  where
    by : (t : Bool) → eqb b 45 ≡ t → Reading (b ∷ digits)
    by true e =
        let same : b ≡ 45 = grind (arith, nat_tests, e) in
        rw same (negative (minus_is_no_digit digits) (λ n value. below_one (natural_of digits) n (sym (whole_of-minus digits) ∙ value)))
    by false e = plain (whole_of-plain (b ∷ digits) (λ same. grind (arith, nat_tests, e, same)))

-- the number of the denominator
pub natural_found : (field : List ℕ) (n : ℤ) → Ok n ≡ within_range (pos 1) (pos billion) (whole_of field) → (k : ℕ) × (natural_within 1 billion (natural_of field) ≡ Some k) × (n ≡ pos k)
natural_found field n e =
    let found = in_range (pos 1) (pos billion) (whole_of field) n e in
    elim (reading field) [ negative none low ↦ absurd (let l = low n found.0 in let m = found.1 in omega (arith, ints, l, m)) | plain same ↦ by (natural_of field) (sym same ∙ found.0) found.1 found.2 ]
  where
    by : (natural : Option ℕ) → option_map pos natural ≡ Some n → pos 1 ≤ℤ n → n ≤ℤ pos billion → (k : ℕ) × (natural_within 1 billion natural ≡ Some k) × (n ≡ pos k)
    by None value low high = absurd cc
    by (Some k) value low high =
        let same : pos k ≡ n = cc in
        let l : nat_le 1 k ≡ true = grind (arith, ints, nat_tests, same, low) in
        let h : nat_le k billion ≡ true = grind (arith, ints, nat_tests, same, high) in
        (k, rw (l, h) refl, sym same)

pub natural_missing : (field : List ℕ) (bad : Bad) → Err bad ≡ within_range (pos 1) (pos billion) (whole_of field) → natural_within 1 billion (natural_of field) ≡ None
natural_missing field bad e =
    elim (reading field) [ negative none low ↦ rw none refl | plain same ↦ by (natural_of field) (rw same at e) ]
  where
    by : (natural : Option ℕ) → Err bad ≡ within_range (pos 1) (pos billion) (option_map pos natural) → natural_within 1 billion natural ≡ None
    by None e = refl
    by (Some k) e = test (nat_le 1 k) (nat_le k billion) refl refl
      where
        test : (s t : Bool) → nat_le 1 k ≡ s → nat_le k billion ≡ t → cond (s && t) (Some k) None ≡ None
        test true true l h = absurd (not_refused (pos 1) (pos billion) (pos k) bad e (grind (arith, ints, nat_tests, l)) (grind (arith, ints, nat_tests, h)))
        test true false l h = refl
        test false t l h = refl

-- the fraction of two fields that are numbers of the ranges
pub fraction_found : (front back : List ℕ) (p q : ℤ) → Ok p ≡ within_range (neg_ℤ (pos billion)) (pos billion) (whole_of front) → Ok q ≡ within_range (pos 1) (pos billion) (whole_of back)
    → fraction_of_parts front back ≡ Some (lowest (record { p = p; q = q }))
fraction_found front back p q numerator denominator =
    let n = natural_found back q denominator in
    let first : integer_within (neg_ℤ (pos billion)) (pos billion) (whole_of front) ≡ Some p = integer_found (neg_ℤ (pos billion)) (pos billion) p (whole_of front) numerator in
    found n.0 n.1 n.2 first
  where
    found : (k : ℕ) → natural_within 1 billion (natural_of back) ≡ Some k → q ≡ pos k → integer_within (neg_ℤ (pos billion)) (pos billion) (whole_of front) ≡ Some p
        → fraction_of_parts front back ≡ Some (lowest (record { p = p; q = q }))
    found k second same first = let both : fraction_of_parts front back ≡ Some (lowest (record { p = p; q = pos k })) = rw (first, second) refl in
        both ∙ ap (λ (z : ℤ). Some (lowest (record { p = p; q = z }))) (sym same)

-- the same, of numbers of 64 bits
pub fraction_stored : (front back : List ℕ) (p q : ℤ) → Ok p ≡ within_range (neg_ℤ (pos billion)) (pos billion) (whole_of front) → Ok q ≡ within_range (pos 1) (pos billion) (whole_of back)
    → fraction_of_parts front back ≡ Some (lowest (record { p = to_z w64 (of_z w64 p); q = to_z w64 (of_z w64 q) }))
fraction_stored front back p q numerator denominator =
    let n = in_range (neg_ℤ (pos billion)) (pos billion) (whole_of front) p numerator in
    let low = n.1 in
    let high = n.2 in
    let d = in_range (pos 1) (pos billion) (whole_of back) q denominator in
    let one = d.1 in
    let most = d.2 in
    let first : to_z w64 (of_z w64 p) ≡ p = omega (arith, ints, low, high) in
    let second : to_z w64 (of_z w64 q) ≡ q = omega (arith, ints, one, most) in
    rw (first, second) (fraction_found front back p q numerator denominator)

none_behind : (p : Option ℤ) → fraction_of_numbers p None ≡ None
none_behind None = refl
none_behind (Some p) = refl

pub fraction_no_back : (front back : List ℕ) (bad : Bad) → Err bad ≡ within_range (pos 1) (pos billion) (whole_of back) → fraction_of_parts front back ≡ None
fraction_no_back front back bad e = rw (natural_missing back bad e) (none_behind (integer_within (neg_ℤ (pos billion)) (pos billion) (whole_of front)))

-- ---- the number of words

command_of_no_word : command_of [] ≡ None
unfolding command_of
command_of_no_word = refl

command_of_one : (first : List ℕ) → command_of (first ∷ []) ≡ option_or (option_map (λ name. reads (answer (named name))) (beside names first)) (beside lone_words first)
unfolding command_of
command_of_one first = refl

command_of_two : (first second : List ℕ) → command_of (first ∷ second ∷ []) ≡ option_and_then (λ read. read second) (beside first_words first)
unfolding command_of
command_of_two first second = refl

command_of_many : (first second third : List ℕ) (others : List (List ℕ)) → command_of (first ∷ second ∷ third ∷ others) ≡ None
unfolding command_of
command_of_many first second third others = refl

pub command_of_pair : (words : List (String Global)) (first second : String Global) → 2 ≤ length words → length words < 3 → first ≡ get_or words 0 first → second ≡ get_or words 1 second
    → command_of (word_bytes words) ≡ option_and_then (λ read. read (string_bytes second)) (beside first_words (string_bytes first))
command_of_pair [] first second some few zeroth next = absurd (omega (arith, some))
command_of_pair (a ∷ []) first second some few zeroth next = absurd (omega (arith, some))
command_of_pair (a ∷ b ∷ []) first second some few zeroth next =
    let one : first ≡ a = zeroth in
    let two : second ≡ b = next in
    rw (one, two) (command_of_two (string_bytes a) (string_bytes b))
command_of_pair (a ∷ b ∷ c ∷ words) first second some few zeroth next = absurd (omega (arith, few))

pub command_of_single : (words : List (String Global)) (first : String Global) → 1 ≤ length words → length words < 2 → first ≡ get_or words 0 first
    → command_of (word_bytes words) ≡ option_or (option_map (λ name. reads (answer (named name))) (beside names (string_bytes first))) (beside lone_words (string_bytes first))
command_of_single [] first some few zeroth = absurd (omega (arith, some))
command_of_single (a ∷ []) first some few zeroth = let one : first ≡ a = zeroth in rw one (command_of_one (string_bytes a))
command_of_single (a ∷ b ∷ words) first some few zeroth = absurd (omega (arith, few))

pub command_of_none : (words : List (String Global)) → length words < 1 → command_of (word_bytes words) ≡ None
command_of_none [] few = command_of_no_word
command_of_none (a ∷ words) few = absurd (omega (arith, few))

pub command_of_more : (words : List (String Global)) → 3 ≤ length words → command_of (word_bytes words) ≡ None
command_of_more [] more = absurd (omega (arith, more))
command_of_more (a ∷ []) more = absurd (omega (arith, more))
command_of_more (a ∷ b ∷ []) more = absurd (omega (arith, more))
command_of_more (a ∷ b ∷ c ∷ words) more = command_of_many (string_bytes a) (string_bytes b) (string_bytes c) (map string_bytes words)
