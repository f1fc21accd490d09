-- Quotients that are rounded down, and numbers that are carried to another unit.
use Rattle.std.proofs.Common.{◌≡◌, ℕ, ◌+◌, ◌*◌, ◌/◌, ◌<◌, ◌≤◌, true, false, cond, arith, ap, sym, ◌∙◌}
use Rattle.std.specs.Prelude.{ℤ, ◌+ℤ◌, ◌*ℤ◌, ◌≤ℤ◌, ◌<ℤ◌, pos, negsuc, int_div, int_le}
use Rattle.std.proofs.lemmas.Int.{ints, by_lt_z}
use Rattle.pf_model.proofs.Integers.{add_mul, mul_assoc, mul_comm, mul_most, mul_most_inverse, mul_nonneg}
use Rattle.pf_carry.specs.Carry.{least_of, carried}
use Rattle.pf_carry.specs.Scaling.{IsFloor}

natural_low : (a b : ℕ) → 0 < b → a / b * b ≤ a
natural_low a b h = omega arith

natural_high : (a b : ℕ) → 0 < b → a < a / b * b + b
natural_high a b h = omega arith

pub floor_of : (x d : ℤ) → pos 0 ≤ℤ x → pos 1 ≤ℤ d → IsFloor x d (int_div x d)
floor_of (pos a) (pos b) h k =
    let low = natural_low a b (omega (arith, ints, k)) in
    let high = natural_high a b (omega (arith, ints, k)) in
    record { low = omega (arith, ints, low); high = omega (arith, ints, high) }
floor_of (pos a) (negsuc b) h k = absurd (omega (arith, ints, k))
floor_of (negsuc a) d h k = absurd (omega (arith, ints, h))

-- a greater factor, by a whole one
one_more : (p q d : ℤ) → pos 0 ≤ℤ d → p <ℤ q → ((p *ℤ d) +ℤ d) ≤ℤ (q *ℤ d)
one_more p q d h less =
    let e = mul_most d (p +ℤ pos 1) q h (omega (arith, ints, less)) in
    let f = mul_comm d (p +ℤ pos 1) in
    let g = mul_comm d q in
    let k = add_mul p (pos 1) d in
    let one : pos 1 *ℤ d ≡ d = omega (arith, ints) in
    omega (arith, ints, e, f, g, k, one)

-- the quotient is the greatest number whose product is not more
pub at_most_floor : (x d p q : ℤ) → pos 1 ≤ℤ d → IsFloor x d p → (q *ℤ d) ≤ℤ x → q ≤ℤ p
at_most_floor x d p q h f l =
    by_lt_z p q (λ less. let e = one_more p q d (omega (arith, ints, h)) less in let high = f.high in absurd (omega (arith, ints, e, high, l))) (λ fine. fine)

floor_only : (x d p q : ℤ) → pos 1 ≤ℤ d → IsFloor x d p → IsFloor x d q → p ≡ q
floor_only x d p q h f g =
    let a = at_most_floor x d p q h f g.low in
    let b = at_most_floor x d q p h g f.low in
    omega (arith, ints, a, b)

pub floor_low : (x d q : ℤ) → pos 1 ≤ℤ d → pos 0 ≤ℤ x → IsFloor x d q → pos 0 ≤ℤ q
floor_low x d q h k f =
    let none : pos 0 *ℤ d ≡ pos 0 = omega (arith, ints) in
    at_most_floor x d q (pos 0) h f (omega (arith, ints, none, k))

pub floor_most : (x d q m : ℤ) → pos 1 ≤ℤ d → x ≤ℤ (m *ℤ d) → IsFloor x d q → q ≤ℤ m
floor_most x d q m h k f =
    let low = f.low in
    let e = mul_comm d q in
    let g = mul_comm d m in
    mul_most_inverse d q m (omega (arith, ints, h)) (omega (arith, ints, low, k, e, g))

-- less than one unit is less than so many of the other
pub part_most : (from to rest q : ℤ) → pos 1 ≤ℤ from → pos 1 ≤ℤ to → rest <ℤ from → IsFloor (rest *ℤ to) from q → q ≤ℤ to
part_most from to rest q h k less f =
    let e = mul_most to rest from (omega (arith, ints, k)) (omega (arith, ints, less)) in
    let g = mul_comm to rest in
    floor_most (rest *ℤ to) from q to h (omega (arith, ints, e, g)) f

-- the division first, and then the product
pub floor_parts : (from to k x rest m : ℤ) → x ≡ (k *ℤ from) +ℤ rest → IsFloor (rest *ℤ to) from m → IsFloor (x *ℤ to) from ((k *ℤ to) +ℤ m)
floor_parts from to k x rest m is f =
    let e : x *ℤ to ≡ ((k *ℤ from) *ℤ to) +ℤ (rest *ℤ to) = ap (λ n. n *ℤ to) is ∙ add_mul (k *ℤ from) rest to in
    let g : ((k *ℤ to) +ℤ m) *ℤ from ≡ ((k *ℤ to) *ℤ from) +ℤ (m *ℤ from) = add_mul (k *ℤ to) m from in
    let s : (k *ℤ from) *ℤ to ≡ (k *ℤ to) *ℤ from = mul_assoc k from to ∙ (ap (λ n. k *ℤ n) (mul_comm from to) ∙ sym (mul_assoc k to from)) in
    let low = f.low in
    let high = f.high in
    record { low = omega (arith, ints, e, g, s, low); high = omega (arith, ints, e, g, s, high) }

least_first : (x y : ℤ) → x ≤ℤ y → least_of x y ≡ x
least_first x y h = let e : int_le x y ≡ true = grind (arith, ints) in ap (λ b. cond b x y) e

least_second : (x y : ℤ) → y <ℤ x → least_of x y ≡ y
least_second x y h = let e : int_le x y ≡ false = grind (arith, ints) in ap (λ b. cond b x y) e

-- a number that is carried, by its quotient
pub carried_cut : (from to cap x q : ℤ) → pos 1 ≤ℤ from → pos 0 ≤ℤ to → pos 0 ≤ℤ x → IsFloor (x *ℤ to) from q → carried from to cap x ≡ least_of cap q
carried_cut from to cap x q h k l f =
    let e = floor_only (x *ℤ to) from (int_div (x *ℤ to) from) q h (floor_of (x *ℤ to) from (mul_nonneg x to l k) h) f in
    ap (λ n. least_of cap n) e

pub carried_full : (from to cap x : ℤ) → pos 1 ≤ℤ from → pos 0 ≤ℤ to → pos 0 ≤ℤ x → (cap *ℤ from) ≤ℤ (x *ℤ to) → carried from to cap x ≡ cap
carried_full from to cap x h k l full =
    let f = floor_of (x *ℤ to) from (mul_nonneg x to l k) h in
    least_first cap (int_div (x *ℤ to) from) (at_most_floor (x *ℤ to) from (int_div (x *ℤ to) from) cap h f full)

least_low : (x y : ℤ) → pos 0 ≤ℤ x → pos 0 ≤ℤ y → pos 0 ≤ℤ least_of x y
least_low x y h k =
    by_lt_z y x (λ less. let e = least_second x y less in omega (arith, ints, e, k)) (λ most. let e = least_first x y most in omega (arith, ints, e, h))

least_high : (x y : ℤ) → least_of x y ≤ℤ x
least_high x y =
    by_lt_z y x (λ less. let e = least_second x y less in omega (arith, ints, e, less)) (λ most. let e = least_first x y most in omega (arith, ints, e))

pub carried_low : (from to cap x : ℤ) → pos 1 ≤ℤ from → pos 0 ≤ℤ to → pos 0 ≤ℤ cap → pos 0 ≤ℤ x → pos 0 ≤ℤ carried from to cap x
carried_low from to cap x h k l m =
    let n = mul_nonneg x to m k in
    least_low cap (int_div (x *ℤ to) from) l (floor_low (x *ℤ to) from (int_div (x *ℤ to) from) h n (floor_of (x *ℤ to) from n h))

pub carried_high : (from to cap x : ℤ) → carried from to cap x ≤ℤ cap
carried_high from to cap x = least_high cap (int_div (x *ℤ to) from)

-- the same of equal numbers
pub same_carried : (n from to cap x from' to' cap' x' : ℤ) → from ≡ from' → to ≡ to' → cap ≡ cap' → x ≡ x' → n ≡ carried from to cap x → n ≡ carried from' to' cap' x'
same_carried n from to cap x from' to' cap' x' a b c d h =
    h ∙ (ap (λ z. carried z to cap x) a ∙ (ap (λ z. carried from' z cap x) b ∙ (ap (λ z. carried from' to' z x) c ∙ ap (λ z. carried from' to' cap' z) d)))

-- a test by the code
pub chosen_first : (cap q : ℤ) → cap ≤ℤ q → cap ≡ least_of cap q
chosen_first cap q h = sym (least_first cap q h)

pub chosen_second : (cap q : ℤ) → q <ℤ cap → q ≡ least_of cap q
chosen_second cap q h = sym (least_second cap q h)

-- the same, told by products of natural numbers
pub short_full : (from to cap x : ℕ) → 1 ≤ from → cap * from ≤ x * to → pos cap ≡ carried (pos from) (pos to) (pos cap) (pos x)
short_full from to cap x h le =
    let full : (pos cap *ℤ pos from) ≤ℤ (pos x *ℤ pos to) = omega (arith, ints, le) in
    sym (carried_full (pos from) (pos to) (pos cap) (pos x) (omega (arith, ints, h)) (omega (arith, ints)) (omega (arith, ints)) full)
