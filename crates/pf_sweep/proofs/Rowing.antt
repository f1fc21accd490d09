-- Equal steps through an interval, and the rows at their ends.
use Rattle.std.proofs.Common.{◌≡◌, ℕ, ◌+◌, ◌<◌, ◌≤◌, ◌^◌, List, [], ◌∷◌, ◌++◌, length, get_or, arith, ap, sym, ◌∙◌, refl, below_more, subst, true}
use Rattle.std.specs.Prelude.{ℤ, ◌+ℤ◌, ◌-ℤ◌, ◌*ℤ◌, ◌≤ℤ◌, ◌<ℤ◌, pos, nat_abs}
use Rattle.std.proofs.lemmas.Int.{ints}
use Rattle.std.proofs.lemmas.List.{length_push, get_or_append_left}
use Rattle.std.proofs.Math.Seq.{get_or-append_seam}
use Rattle.pf_model.specs.Fraction.{lowest}
use Rattle.pf_model.specs.Cut.{IsLeastValue}
use Rattle.pf_model.specs.Network.{Network, IsMonotone, IsInInterval}
use Rattle.pf_model.specs.Answer.{Row}
use Rattle.pf_model.proofs.Integers.{add_mul, mul_assoc, mul_comm, mul_most, mul_nonneg, mul_most_inverse}
use Rattle.pf_sweep.specs.Parameters.{of_units, most_unit, HasNearEnds, is_too_fine, unit_of, step_units, sweep_parameter}
use Rattle.pf_sweep.specs.Swept.{Swept, IsAdvanced, network_of_sweep}
use Rattle.pf_sweep.specs.Rows.{IsRightRow, IsUnderway, IsAhead, IsSeen, AreFirstRows, row_at}
use Rattle.pf_sweep.proofs.Units.{turned, some_product, start_near}

-- a ((b c) k) in another order
moved : (a b c k : ℤ) → a *ℤ ((b *ℤ c) *ℤ k) ≡ ((a *ℤ c) *ℤ k) *ℤ b
moved a b c k = ap (λ n. a *ℤ n) (turned b c k) ∙ sym (mul_assoc a (c *ℤ k) b) ∙ ap (λ n. n *ℤ b) (sym (mul_assoc a c k))

-- from A K to B K by steps of d, where d is B - A
low_step : (a d k j q : ℤ) → pos 0 ≤ℤ d → pos 0 ≤ℤ j → pos 0 ≤ℤ q → ((a *ℤ k) *ℤ q) ≤ℤ (((a *ℤ k) +ℤ (d *ℤ j)) *ℤ q)
low_step a d k j q h l m =
    let e = add_mul (a *ℤ k) (d *ℤ j) q in
    let some = mul_nonneg (d *ℤ j) q (mul_nonneg d j h l) m in
    omega (arith, ints, e, some)

high_step : (a b d k j q : ℤ) → d ≡ b -ℤ a → pos 0 ≤ℤ d → j ≤ℤ k → pos 0 ≤ℤ q → (((a *ℤ k) +ℤ (d *ℤ j)) *ℤ q) ≤ℤ ((b *ℤ k) *ℤ q)
high_step a b d k j q e h l m =
    let more = mul_most d j k h l in
    let split = add_mul d a k in
    let gap : d +ℤ a ≡ b = omega (arith, ints, e) in
    let same = ap (λ n. n *ℤ k) gap in
    let below : ((a *ℤ k) +ℤ (d *ℤ j)) ≤ℤ (b *ℤ k) = omega (arith, ints, more, split, same) in
    let whole = mul_most q ((a *ℤ k) +ℤ (d *ℤ j)) (b *ℤ k) m below in
    let left = mul_comm q ((a *ℤ k) +ℤ (d *ℤ j)) in
    let right = mul_comm q (b *ℤ k) in
    omega (arith, ints, whole, left, right)

pub step_inside : (net : Network) (k j : ℕ) → IsMonotone net → pos 1 ≤ℤ unit_of net k → j ≤ k → IsInInterval net (of_units (unit_of net k) (step_units net k j))
step_inside net k j m some most =
    let a : ℤ = net.low.p *ℤ net.high.q in
    let b : ℤ = net.high.p *ℤ net.low.q in
    let below = m.interval in
    let lq = m.low in
    let hq = m.high in
    let d : ℤ = b -ℤ a in
    let up : pos 0 ≤ℤ d = omega (arith, ints, below) in
    let left = moved net.low.p net.low.q net.high.q (pos k) in
    let right = ap (λ n. net.high.p *ℤ (n *ℤ pos k)) (mul_comm net.low.q net.high.q) ∙ moved net.high.p net.high.q net.low.q (pos k) in
    let low = low_step a d (pos k) (pos j) net.low.q up (omega (arith, ints)) (omega (arith, ints, lq)) in
    let high = high_step a b d (pos k) (pos j) net.high.q refl up (omega (arith, ints, most)) (omega (arith, ints, hq)) in
    record {
      parameter = some;
      low = omega (arith, ints, left, low);
      high = omega (arith, ints, right, high);
    }

pub step_later : (net : Network) (k j : ℕ) → IsMonotone net → step_units net k j ≤ℤ step_units net k (j + 1)
step_later net k j m =
    let below = m.interval in
    let d : ℤ = (net.high.p *ℤ net.low.q) -ℤ (net.low.p *ℤ net.high.q) in
    let more = mul_most d (pos j) (pos (j + 1)) (omega (arith, ints, below)) (omega (arith, ints)) in
    omega (arith, ints, more)

-- the low end is the first of them
pub first_step : (net : Network) (k : ℕ) (at : ℤ) → IsMonotone net → at *ℤ net.low.q ≡ net.low.p *ℤ unit_of net k → at ≡ step_units net k 0
first_step net k at m e =
    let a : ℤ = net.low.p *ℤ net.high.q in
    let d : ℤ = (net.high.p *ℤ net.low.q) -ℤ a in
    let q : ℤ = net.low.q in
    let lq = m.low in
    let left = moved net.low.p net.low.q net.high.q (pos k) in
    let x = mul_comm q at in
    let y = mul_comm q (a *ℤ pos k) in
    let down = mul_most_inverse q at (a *ℤ pos k) (omega (arith, ints, lq)) (omega (arith, ints, x, y, e, left)) in
    let up = mul_most_inverse q (a *ℤ pos k) at (omega (arith, ints, lq)) (omega (arith, ints, x, y, e, left)) in
    let none : d *ℤ pos 0 ≡ pos 0 = omega (arith, ints) in
    omega (arith, ints, down, up, none)

pub rows_more : (net : Network) (k j : ℕ) (old new : List Row) (row : Row) → AreFirstRows net k j old → new ≡ old ++ row ∷ [] → IsRightRow net (sweep_parameter net k j) row →
    AreFirstRows net k (j + 1) new
rows_more net k j old new row r e right =
    let P : ℕ → Row → Type 0 = λ i x. IsRightRow net (sweep_parameter net k i) x in
    let other : Row = record { at = net.low; value = pos 0; size = 0 } in
    let count = ap length e ∙ length_push old row ∙ ap (λ n. n + 1) r.count_is in
    let here : row_at net new j ≡ row =
    ap (λ (t : List Row). get_or t j other) e ∙ ap (λ (i : ℕ). get_or (old ++ row ∷ []) i other) (sym r.count_is) ∙ get_or-append_seam old row [] other in
    let all : (i : ℕ) → i < j + 1 → P i (row_at net new i) = below_more (λ i. P i (row_at net new i)) j
    (λ i less.
    let same : row_at net new i ≡ row_at net old i = ap (λ (t : List Row). get_or t i other) e ∙ get_or_append_left old (row ∷ []) other i (omega (arith, less, r.count_is)) in
    subst (P i) (sym same) (r.each i (omega (arith, less, r.count_is))))
    (subst (P j) (sym here) right) in
    record { count_is = count; each = λ i low. all i (omega (arith, low, count)) }

-- ---- the sizes of both ends

-- the ends in units of the product of the denominators
pub record AreNear (net : Network) : Type 0 where
  pub low : nat_abs (net.low.p *ℤ net.high.q) ≤ 2 ^ 73
  pub high : nat_abs (net.high.p *ℤ net.low.q) ≤ 2 ^ 73

pub near_of : (net : Network) (k : ℕ) → 1 ≤ k → pos 1 ≤ℤ net.low.q → pos 1 ≤ℤ net.high.q → HasNearEnds net → unit_of net k ≤ℤ pos (2 ^ 40) → AreNear net
near_of net k some l h ends fine =
    let a : ℤ = net.low.q in
    let b : ℤ = net.high.q in
    let one = some_product a b (pos 1) l h (omega (arith, ints)) in
    let alone : (a *ℤ b) *ℤ pos 1 ≡ a *ℤ b = omega (arith, ints) in
    let more = mul_most (a *ℤ b) (pos 1) (pos k) (omega (arith, ints, one, alone)) (omega (arith, ints, some)) in
    let same = mul_comm a b in
    let first = start_near net.low.p a b (b *ℤ a) l (omega (arith, ints, one, alone, same)) refl ends.low.low ends.low.high in
    let second = start_near net.high.p b a (a *ℤ b) h (omega (arith, ints, one, alone)) refl ends.high.low ends.high.high in
    let first_low = first.0 in
    let first_high = first.1 in
    let second_low = second.0 in
    let second_high = second.1 in
    record {
      low = omega (arith, ints, first_low, first_high, same, more, alone, fine);
      high = omega (arith, ints, second_low, second_high, more, alone, fine);
    }

-- ---- rows are added one after the other

pub steps_rise : (net : Network) (k i j : ℕ) → IsMonotone net → i ≤ j → step_units net k i ≤ℤ step_units net k j
steps_rise net k i j m order =
    let below = m.interval in
    let d : ℤ = (net.high.p *ℤ net.low.q) -ℤ (net.low.p *ℤ net.high.q) in
    let more = mul_most d (pos i) (pos j) (omega (arith, ints, below)) (omega (arith, ints, order)) in
    omega (arith, ints, more)

pub stands_inside : (net : Network) (k j : ℕ) (s : Swept) (p : ℤ) → IsMonotone net → 1 ≤ k → s.net ≡ net → s.unit ≡ unit_of net k → j ≤ k → p ≡ step_units net k j → IsInInterval s.net (of_units s.unit p)
stands_inside net k j s p m some net_is unit_is low e =
    rw (net_is, unit_is, e) (step_inside net k j m (some_product net.low.q net.high.q (pos k) m.low m.high (omega (arith, ints, some))) low)

pub underway_begins : (net : Network) (k : ℕ) (sweep : Swept) (rows : List Row) → IsMonotone net → sweep.net ≡ net → sweep.unit ≡ unit_of net k → sweep.at ≡ step_units net k 0 → AreFirstRows net k 1 rows →
    IsUnderway net k 1 sweep rows
underway_begins net k sweep rows m e f g r =
    let more = steps_rise net k 0 1 m (omega arith) in
    record { net_is = e; unit_is = f; at_most = omega (arith, ints, g, more); some = omega arith; most = omega arith; held = r }

pub ahead_begins : (net : Network) (k : ℕ) (sweep : Swept) → IsMonotone net → sweep.net ≡ net → sweep.unit ≡ unit_of net k → sweep.at ≡ step_units net k 0 → IsAhead net k 1 sweep
ahead_begins net k sweep m e f g =
    let more = steps_rise net k 0 1 m (omega arith) in
    record { net_is = e; unit_is = f; at_most = omega (arith, ints, g, more) }

pub ahead_on : (net : Network) (k j to : ℕ) (sweep : Swept) → IsMonotone net → IsAhead net k j sweep → j ≤ to → IsAhead net k to sweep
ahead_on net k j to sweep m w order =
    let more = steps_rise net k j to m order in
    let at = w.at_most in
    record { net_is = w.net_is; unit_is = w.unit_is; at_most = omega (arith, ints, more, at) }

pub ahead_later : (net : Network) (k to : ℕ) (sweep : Swept) (y : ℤ) → IsAhead net k to sweep → y ≡ step_units net k to → sweep.at ≤ℤ y
ahead_later net k to sweep y w e = let at = w.at_most in omega (arith, ints, at, e)

pub ahead_more : (net : Network) (k to : ℕ) (sweep after : Swept) (y : ℤ) (steps steps' : ℕ) → IsMonotone net → IsAhead net k to sweep → y ≡ step_units net k to → IsAdvanced sweep after y steps steps' →
    IsAhead net k (to + 1) after
ahead_more net k to sweep after y steps steps' m w e a =
    let more = step_later net k to m in
    let at = a.at_is in
    record { net_is = a.net_is ∙ w.net_is; unit_is = a.unit_is ∙ w.unit_is; at_most = omega (arith, ints, more, at, e) }

-- what the sweep ahead tells of its row, and so of every row before it
pub seen_of : (net : Network) (k to : ℕ) (s : Swept) (y least : ℤ) → IsMonotone net → 1 ≤ k → s.net ≡ net → s.unit ≡ unit_of net k → s.at ≡ y → y ≡ step_units net k to → to ≤ k →
    IsLeastValue (network_of_sweep s) least → IsSeen net k to y least
seen_of net k to s y least m some net_is unit_is at_is e low v = record {
  inside = rw e (step_inside net k to m (some_product net.low.q net.high.q (pos k) m.low m.high (omega (arith, ints, some))) low);
  later = omega (arith, ints, e);
  value = rw (net_is, unit_is, at_is) at v;
}

pub seen_earlier : (net : Network) (k i j : ℕ) (y least : ℤ) → IsMonotone net → j ≤ i → IsSeen net k i y least → IsSeen net k j y least
seen_earlier net k i j y least m order s =
    let more = steps_rise net k j i m order in
    let later = s.later in
    record { inside = s.inside; later = omega (arith, ints, more, later); value = s.value }

pub underway_more : (net : Network) (k j : ℕ) (sweep after last : Swept) (rows rows' : List Row) (p : ℤ) (steps steps' : ℕ) → IsMonotone net → IsUnderway net k j sweep rows → j ≤ k → p ≡ step_units net k j →
    IsAdvanced sweep after p steps steps' → last ≡ after → AreFirstRows net k (j + 1) rows' → IsUnderway net k (j + 1) last rows'
underway_more net k j sweep after last rows rows' p steps steps' m w low e a same r =
    let P : Swept → Type 0 = λ s. IsUnderway net k (j + 1) s rows' in
    let more = step_later net k j m in
    let at = a.at_is in
    subst P (sym same) (record {
      net_is = a.net_is ∙ w.net_is;
      unit_is = a.unit_is ∙ w.unit_is;
      at_most = omega (arith, ints, more, at, e);
      some = omega arith;
      most = omega (arith, low);
      held = r;
    })

-- a row without a step
pub underway_passed : (net : Network) (k j : ℕ) (sweep : Swept) (rows rows' : List Row) (row : Row) (p : ℤ) → IsMonotone net → IsUnderway net k j sweep rows → j ≤ k → p ≡ step_units net k j →
    rows' ≡ rows ++ row ∷ [] → IsRightRow sweep.net (lowest (of_units sweep.unit p)) row → IsUnderway net k (j + 1) sweep rows'
underway_passed net k j sweep rows rows' row p m w low e added right =
    let more = step_later net k j m in
    let at = w.at_most in
    record {
      net_is = w.net_is;
      unit_is = w.unit_is;
      at_most = omega (arith, ints, more, at);
      some = omega arith;
      most = omega (arith, low);
      held = rows_more net k j rows rows' row w.held added (rw (w.net_is, w.unit_is, e) at right);
    }

-- ---- too fine, or not

pub too_fine_is : (net : Network) (k : ℕ) (unit : ℤ) → unit ≡ unit_of net k → is_too_fine k net ≡ true → pos most_unit <ℤ unit
too_fine_is net k unit e told = omega (arith, ints, e, told)
