-- Sums over the items of a side, item by item.
use Rattle.std.proofs.Common.{◌≡◌, ℕ, zero, suc, ◌+◌, ◌-◌, ◌*◌, ◌<◌, ◌≤◌, List, [], ◌∷◌, length, take, refl, Bool, true, false, cond, arith, ap, sym, ◌∙◌, add-one}
use Rattle.std.specs.Prelude.{ℤ, ◌+ℤ◌, ◌≤ℤ◌, pos, neg_ℤ}
use Rattle.std.proofs.lemmas.Int.{ints}
use Rattle.std.proofs.lemmas.List.{get_or-take}
use Rattle.pf_model.specs.Cut.{has, at_arc}
use Rattle.pf_closure.specs.Problem.{ClosureProblem, sum_of_side}
use Rattle.pf_closure.specs.Reduction.{behind_first, items_of}
use Rattle.pf_closure.proofs.ItemSums.{sum_of_none}
use Rattle.pf_model.proofs.Sums.{none_after, take_whole}
use Rattle.pf_model.proofs.Facts.{add_before, length_front}

pub record IsSum (side : List Bool) (numbers : List ℤ) (i : ℕ) (sum : ℤ) : Type 0 where
  pub value : sum ≡ sum_of_side (take i (behind_first side)) (take i numbers)
  pub low : neg_ℤ (pos (i * 1000000)) ≤ℤ sum
  pub high : sum ≤ℤ pos (i * 1000000)

sum_of_next : (set : List Bool) (xs : List ℤ) (k : ℕ) → k < length xs → k < length set →
    sum_of_side (take (suc k) set) (take (suc k) xs) ≡ sum_of_side (take k set) (take k xs) +ℤ cond (has set k) (at_arc xs k) (pos 0)
sum_of_next [] xs k low there = absurd (omega (arith, there))
sum_of_next (b ∷ set) [] k low there = absurd (omega (arith, low))
sum_of_next (b ∷ set) (x ∷ xs) zero low there = none_after (cond b x (pos 0))
sum_of_next (b ∷ set) (x ∷ xs) (suc k) low there =
    add_before (cond b x (pos 0)) _ _ _ (sum_of_next set xs k (omega (arith, low)) (omega (arith, there)))

pub sum_begins : (side : List Bool) (numbers : List ℤ) → IsSum side numbers 0 (pos 0)
sum_begins side numbers = record { value = sym (sum_of_none (behind_first side) numbers); low = omega (arith, ints); high = omega (arith, ints) }

has_behind : (side : List Bool) (i : ℕ) → has (behind_first side) i ≡ has side (suc i)
has_behind [] i = refl
has_behind (b ∷ side) i = refl

length_behind : (side : List Bool) (n : ℕ) → n < length side → n ≤ length (behind_first side)
length_behind [] n low = absurd (omega (arith, low))
length_behind (b ∷ side) n low = omega (arith, low)

pub picked_low : (b : Bool) (x y z : ℤ) → x ≡ cond b y (pos 0) → y ≡ z → neg_ℤ (pos 1000000) ≤ℤ z → z ≤ℤ pos 1000000 →
    (neg_ℤ (pos 1000000) ≤ℤ x) × (x ≤ℤ pos 1000000)
picked_low true x y z e f l h = (omega (arith, ints, e, f, l), omega (arith, ints, e, f, h))
picked_low false x y z e f l h = (omega (arith, ints, e), omega (arith, ints, e))

pub sum_goes_on : (side : List Bool) (numbers : List ℤ) (i : ℕ) (sum sum' x y : ℤ) → IsSum side numbers i sum → i < length numbers → length numbers < length side →
    neg_ℤ (pos 1000000) ≤ℤ at_arc numbers i → at_arc numbers i ≤ℤ pos 1000000 → y ≡ at_arc numbers i → x ≡ cond (has side (i + 1)) y (pos 0) →
    sum' ≡ sum +ℤ x → IsSum side numbers (i + 1) sum'
sum_goes_on side numbers i sum sum' x y s low room l h same picked step =
    let v = s.value in
    let a = s.low in
    let b = s.high in
    let size = picked_low (has side (i + 1)) x y (at_arc numbers i) picked same l h in
    let least = size.0 in
    let most = size.1 in
    let there = length_behind side (length numbers) room in
    let next = sum_of_next (behind_first side) numbers i low (omega (arith, low, there)) in
    let here : x ≡ cond (has (behind_first side) i) (at_arc numbers i) (pos 0) =
    picked ∙ ap (λ n. cond (has side (i + 1)) n (pos 0)) same ∙ ap (λ n. cond (has side n) (at_arc numbers i) (pos 0)) (add-one i)
    ∙ sym (ap (λ b. cond b (at_arc numbers i) (pos 0)) (has_behind side i)) in
    let more : (i + 1) * 1000000 ≡ i * 1000000 + 1000000 = grind arith in
    let whole : sum' ≡ sum_of_side (take (suc i) (behind_first side)) (take (suc i) numbers) = omega (arith, ints, v, next, here, step) in
    record {
      value = whole ∙ sym (ap (λ n. sum_of_side (take n (behind_first side)) (take n numbers)) (add-one i));
      low = omega (arith, ints, a, least, step, more);
      high = omega (arith, ints, b, most, step, more);
    }

pub sum_ends : (side : List Bool) (numbers : List ℤ) (i : ℕ) (sum : ℤ) → IsSum side numbers i sum → i ≡ length numbers →
    sum ≡ sum_of_side (take (length numbers) (behind_first side)) numbers
sum_ends side numbers i sum s e =
    s.value ∙ ap (λ n. sum_of_side (take n (behind_first side)) (take n numbers)) e
    ∙ ap (λ l. sum_of_side (take (length numbers) (behind_first side)) l) (take_whole numbers (length numbers) (omega arith))

pub sum_at : (side : List Bool) (xs ys : List ℤ) (n : ℕ) (sum : ℤ) → xs ≡ ys → length ys ≡ n → sum ≡ sum_of_side (take (length xs) (behind_first side)) xs →
    sum ≡ sum_of_side (take n (behind_first side)) ys
sum_at side xs ys n sum e full h =
    h ∙ ap (λ l. sum_of_side (take (length l) (behind_first side)) l) e ∙ ap (λ m. sum_of_side (take m (behind_first side)) ys) full

pub items_length : (side : List Bool) (n : ℕ) → n < length side → length (take n (behind_first side)) ≡ n
items_length side n low = length_front (behind_first side) n (length_behind side n low)

-- an item of a side, and the items of a side as a part of it
pub item_has : (p : ClosureProblem) (side : List Bool) (i : ℕ) → i < length p.costs → has (items_of p side) i ≡ has side (suc i)
item_has p side i low = get_or-take (length p.costs) (behind_first side) i false low ∙ has_behind side i
