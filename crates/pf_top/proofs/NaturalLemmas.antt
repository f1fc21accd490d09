-- A number is read digit by digit, up to a greatest one.
use Rattle.std.proofs.Common.{◌≡◌, ℕ, zero, suc, ◌+◌, ◌-◌, ◌*◌, ◌<◌, ◌≤◌, Bool, true, false, cond, ◌&&◌, List, [], ◌∷◌, length, take, get_or, Some, None, refl, sym, ap, ◌∙◌, arith}
use Rattle.std.specs.Prelude.{nat_le}
use Rattle.std.specs.List.{list_all}
use Rattle.std.proofs.lemmas.Bool.Decides.{nat_tests}
use Rattle.std.proofs.lemmas.List.{take_more, take_all}
use Rattle.std.proofs.lemmas.List.Folds.{list_all_more, list_all_at}
use Rattle.pf_text.specs.Numbers.{is_digit, value_from, natural_of}
use Rattle.pf_text.specs.Words.{natural_within}
use Rattle.pf_text.proofs.NumbersLemmas.{value_from-append, value_from-le, natural_of-digits, natural_of-others}

pub within : (least most n : ℕ) → least ≤ n → n ≤ most → natural_within least most (Some n) ≡ Some n
within least most n low high =
    let l : nat_le least n ≡ true = grind (arith, nat_tests) in
    let h : nat_le n most ≡ true = grind (arith, nat_tests) in
    rw (l, h) refl

pub below : (least most n : ℕ) → n < least → natural_within least most (Some n) ≡ None
below least most n low =
    let l : nat_le least n ≡ false = grind (arith, nat_tests) in
    rw l refl

pub past : (least most n : ℕ) → most < n → natural_within least most (Some n) ≡ None
past least most n high = by (nat_le least n) (nat_le n most) (let h : nat_le n most ≡ false = grind (arith, nat_tests) in h)
  where
    by : (l h : Bool) → h ≡ false → cond (l && h) (Some n) None ≡ None
    by true h e = rw e refl
    by false h e = refl

-- what lies between them
pub stored : (least most n m : ℕ) → natural_within least most (Some n) ≡ Some m → (m ≡ n) × (least ≤ m) × (m ≤ most)
stored least most n m e = by (nat_le least n) (nat_le n most) refl refl e
  where
    by : (l h : Bool) → nat_le least n ≡ l → nat_le n most ≡ h → cond (l && h) (Some n) None ≡ Some m → (m ≡ n) × (least ≤ m) × (m ≤ most)
    by true true l h e = let same : m ≡ n = cc in rw same (refl, grind (arith, nat_tests), grind (arith, nat_tests))
    by true false l h e = absurd cc
    by false h l e f = absurd cc

-- what does not
pub left : (most n : ℕ) → natural_within 0 most (Some n) ≡ None → most < n
left most n e = by (nat_le 0 n) (nat_le n most) refl refl e
  where
    by : (l h : Bool) → nat_le 0 n ≡ l → nat_le n most ≡ h → cond (l && h) (Some n) None ≡ None → most < n
    by true true l h e = absurd cc
    by true false l h e = grind (arith, nat_tests)
    by false h l e f = absurd (let some : nat_le 0 n ≡ true = grind (arith, nat_tests) in cc)

-- the first digits have no greater value than all
front_value : (n k : ℕ) (bytes : List ℕ) → value_from n (take k bytes) ≤ value_from n bytes
front_value n zero bytes = value_from-le n bytes
front_value n (suc k) [] = omega arith
front_value n (suc k) (d ∷ bytes) = front_value (10 * n + (d - 48)) k bytes

-- the number of the first i digits
pub record IsRead (bytes : List ℕ) (most i number : ℕ) : Type 0 where
  pub all : list_all is_digit (take i bytes) ≡ true
  pub value : value_from 0 (take i bytes) ≡ number
  pub small : number ≤ most

-- one digit more
more_value : (bytes : List ℕ) (most i number : ℕ) → i < length bytes → IsRead bytes most i number → value_from 0 (take (i + 1) bytes) ≡ 10 * number + (get_or bytes i 0 - 48)
more_value bytes most i number here r =
    rw (take_more bytes i 0 here, value_from-append 0 (take i bytes) (get_or bytes i 0), r.value) refl

pub read_more : (bytes : List ℕ) (most i number next : ℕ) → i < length bytes → is_digit (get_or bytes i 0) ≡ true → IsRead bytes most i number
    → natural_within 0 most (Some (10 * number + (get_or bytes i 0 - 48))) ≡ Some next → IsRead bytes most (i + 1) next
read_more bytes most i number next here digit r e =
    let s = stored 0 most (10 * number + (get_or bytes i 0 - 48)) next e in
    record {
      all = rw (list_all_more is_digit bytes i 0 here, r.all, digit) refl;
      value = more_value bytes most i number here r ∙ sym s.0;
      small = s.2;
    }

-- a byte that is no digit
pub read_other : (bytes : List ℕ) (least most i : ℕ) → i < length bytes → is_digit (get_or bytes i 0) ≡ false → natural_within least most (natural_of bytes) ≡ None
read_other bytes least most i here other = rw (natural_of-others bytes (list_all_at is_digit bytes i 0 here other)) refl

-- a value that is too great
pub read_past : (bytes : List ℕ) (least most i number : ℕ) → i < length bytes → IsRead bytes most i number
    → natural_within 0 most (Some (10 * number + (get_or bytes i 0 - 48))) ≡ None → natural_within least most (natural_of bytes) ≡ None
read_past bytes least most i number here r e =
    by (list_all is_digit bytes) refl
  where
    by : (t : Bool) → list_all is_digit bytes ≡ t → natural_within least most (natural_of bytes) ≡ None
    by true all =
        let great : most < value_from 0 bytes =
        let n = left most (10 * number + (get_or bytes i 0 - 48)) e in
        let first = more_value bytes most i number here r in
        let whole = front_value 0 (i + 1) bytes in
        omega (arith, n, first, whole)
        in
        rw (natural_of-digits bytes (omega (arith, here)) all) (past least most (value_from 0 bytes) great)
    by false all = rw (natural_of-others bytes all) refl

-- all of them
read_end : (bytes : List ℕ) (most i number : ℕ) → length bytes ≤ i → 0 < length bytes → IsRead bytes most i number → natural_of bytes ≡ Some number
read_end bytes most i number end some r =
    let whole = take_all i bytes end in
    natural_of-digits bytes some (rw whole at r.all) ∙ ap Some (rw whole at r.value)

pub read_below : (bytes : List ℕ) (least most i number : ℕ) → length bytes ≤ i → 0 < length bytes → IsRead bytes most i number → number < least
    → natural_within least most (natural_of bytes) ≡ None
read_below bytes least most i number end some r low = rw (read_end bytes most i number end some r) (below least most number low)

pub read_whole : (bytes : List ℕ) (least most i number : ℕ) → length bytes ≤ i → 0 < length bytes → IsRead bytes most i number → least ≤ number
    → natural_within least most (natural_of bytes) ≡ Some number
read_whole bytes least most i number end some r low = rw (read_end bytes most i number end some r) (within least most number low r.small)
