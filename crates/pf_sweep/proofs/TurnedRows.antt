-- The row of the mirror, and its rows in reverse order.
use Rattle.std.proofs.Common.{◌≡◌, ℕ, ◌+◌, ◌-◌, ◌<◌, ◌≤◌, List, length, get_or, map, arith, ap, sym, ◌∙◌, subst}
use Rattle.std.specs.Prelude.{ℤ, ◌+ℤ◌, ◌-ℤ◌, ◌*ℤ◌, ◌≤ℤ◌, neg_ℤ, pos, nat_abs, reverse}
use Rattle.std.proofs.lemmas.Int.{ints}
use Rattle.std.proofs.lemmas.List.{length-map, get_or-map, length-reverse}
use Rattle.pf_model.specs.declared.Sense.TheVariants.{Rising, Falling}
use Rattle.pf_model.specs.Fraction.{Fraction, IsParameter, IsLowest, IsBoundedFraction, lowest}
use Rattle.pf_model.specs.Cut.{FlowNetwork, IsLeastValue, IsLeastSize}
use Rattle.pf_model.specs.Network.{Network, IsMonotone}
use Rattle.pf_model.specs.Answer.{Row, IsRowShape}
use Rattle.pf_model.specs.Mirror.{negative, mirror, other_sense}
use Rattle.pf_model.proofs.Integers.{mul_add, mul_comm}
use Rattle.pf_model.proofs.Lowest.{lowest_is, lowest_only, lowest_stays}
use Rattle.pf_model.proofs.Mirror.{neg_mul, equal_turned, network_turned, monotone_turned, mirror_twice}
use Rattle.pf_sweep.specs.Parameters.{of_units, IsNearEnd, HasNearEnds, unit_of, step_units, sweep_parameter}
use Rattle.pf_sweep.specs.Rows.{IsRightRow, AreRows, turned_row}
use Rattle.pf_sweep.specs.Laws.{RowOfMirror, RowsOfMirror}
use Rattle.pf_sweep.proofs.Units.{some_product}
use Rattle.pf_model.proofs.Turned.{place_turned}

same_size : (x : ℤ) → nat_abs (neg_ℤ x) ≡ nat_abs x
same_size x = omega (arith, ints)

fraction_of_parts : (p p' q q' : ℤ) → p ≡ p' → q ≡ q' → of_units q p ≡ of_units q' p'
fraction_of_parts p p' q q' e f = cc

turned_lowest : (x : Fraction) → IsLowest x → IsLowest (negative x)
turned_lowest x l = record { alone = rw (same_size x.p) l.alone }

pub turned_bounds : (x : Fraction) → IsBoundedFraction x → IsBoundedFraction (negative x)
turned_bounds x b =
    let low = b.p_low in
    let high = b.p_high in
    record { p_low = omega (arith, ints, high); p_high = omega (arith, ints, low); parameter = b.parameter; q_high = b.q_high }

-- the negated parameter is in lowest terms, as it was
pub turned_stays : (x : Fraction) → IsBoundedFraction x → IsLowest x → lowest (negative x) ≡ negative x
turned_stays x b l = lowest_stays (negative x) b.parameter (turned_lowest x l)

pub turned_shape : (row : Row) → IsRowShape row → IsRowShape (turned_row row)
turned_shape row s = record {
  at = record { bounds = turned_bounds row.at s.at.bounds; lowest = turned_lowest row.at s.at.lowest };
  value = s.value;
  size = s.size;
}

-- what is made of the negated parameter
pub turned_at : (x y at : Fraction) → at ≡ lowest y → y.p ≡ neg_ℤ x.p → y.q ≡ x.q → IsBoundedFraction x → IsLowest x → at ≡ negative x
turned_at x y at e f g b l = e ∙ ap lowest (fraction_of_parts y.p (neg_ℤ x.p) y.q x.q f g) ∙ turned_stays x b l

abbrev row_of : Fraction → ℤ → ℕ → Row
row_of at value size = record { at = at; value = value; size = size }

pub turned_made : (x at : Fraction) (value value' : ℤ) (size : ℕ) (row : Row) → at ≡ negative x → value' ≡ value → row_of x value size ≡ row → row_of at value' size ≡ turned_row row
turned_made x at value value' size row e f g = ap (λ z. row_of z value' size) e ∙ ap (λ v. row_of (negative x) v size) f ∙ ap turned_row g

-- ---- right rows of the mirror

pub row_of_mirror : RowOfMirror
row_of_mirror net x row r =
    let e = sym (network_turned net row.at) in
    let P : FlowNetwork → Type 0 = λ g. IsLeastValue g row.value in
    let Q : FlowNetwork → Type 0 = λ g. IsLeastSize g row.size in
    record { shape = turned_shape row r.shape; parameter = ap negative r.parameter; value = subst P e r.value; size = subst Q e r.size }

lowest_turned : (x : Fraction) → IsParameter x → lowest (negative x) ≡ negative (lowest x)
lowest_turned x h =
    let l = lowest_is x h in
    sym (lowest_only (negative x) (negative (lowest x)) h l.parameter (equal_turned (lowest x) x l.equal) (turned_lowest (lowest x) l.lowest))

-- B K + (A - B) J, for minus the high end A and minus the low end B, is minus A K + (B - A) I
turned_step : (a b a' b' k j i : ℤ) → a' ≡ neg_ℤ a → b' ≡ neg_ℤ b → i +ℤ j ≡ k → ((b' *ℤ k) +ℤ ((a' -ℤ b') *ℤ j)) ≡ neg_ℤ ((a *ℤ k) +ℤ ((b -ℤ a) *ℤ i))
turned_step a b a' b' k j i e f g =
    let d : ℤ = b -ℤ a in
    let gap : a' -ℤ b' ≡ d = omega (arith, ints, e, f) in
    let first = ap (λ n. n *ℤ j) gap in
    let second = ap (λ n. n *ℤ k) f ∙ neg_mul b k in
    let whole = ap (λ n. d *ℤ n) (sym g) ∙ mul_add d i j in
    let split = mul_comm d k ∙ ap (λ n. k *ℤ n) (let h : d ≡ b +ℤ neg_ℤ a = omega (arith, ints) in h) ∙ mul_add k b (neg_ℤ a) in
    let left = mul_comm k b in
    let right = mul_comm k (neg_ℤ a) ∙ neg_mul a k in
    omega (arith, ints, first, second, whole, split, left, right)

parameter_turned : (net : Network) (k i j : ℕ) → pos 1 ≤ℤ unit_of net k → i + j ≡ k → sweep_parameter (mirror net) k j ≡ negative (sweep_parameter net k i)
parameter_turned net k i j some e =
    let a : ℤ = net.low.p *ℤ net.high.q in
    let b : ℤ = net.high.p *ℤ net.low.q in
    let whole : pos i +ℤ pos j ≡ pos k = omega (arith, ints, e) in
    let p = turned_step a b (neg_ℤ net.low.p *ℤ net.high.q) (neg_ℤ net.high.p *ℤ net.low.q) (pos k) (pos j) (pos i)
    (neg_mul net.low.p net.high.q) (neg_mul net.high.p net.low.q) whole in
    let q : unit_of (mirror net) k ≡ unit_of net k = ap (λ n. n *ℤ pos k) (mul_comm net.high.q net.low.q) in
    let x : Fraction = of_units (unit_of net k) (step_units net k i) in
    ap lowest (fraction_of_parts (step_units (mirror net) k j) (neg_ℤ (step_units net k i)) (unit_of (mirror net) k) (unit_of net k) p q) ∙ lowest_turned x some

some_unit : (net : Network) (k : ℕ) → IsMonotone net → 1 ≤ k → pos 1 ≤ℤ unit_of net k
some_unit net k m some = some_product net.low.q net.high.q (pos k) m.low m.high (omega (arith, ints, some))

pub rows_of_mirror : RowsOfMirror
rows_of_mirror net k rows m some r =
    let turned : List Row = map turned_row rows in
    let long = length-reverse turned in
    let wide = length-map rows turned_row in
    let count = r.count_is in
    let other : Row = record { at = negative net.high; value = pos 0; size = 0 } in
    let old : Row = record { at = net.low; value = pos 0; size = 0 } in
    record {
      count_is = long ∙ wide ∙ count;
      each = λ j low.
          let i : ℕ = k - j in
          let e : i + j ≡ k = omega (arith, low, long, wide, count) in
          let here : i < length rows = omega (arith, e, count) in
          let at : get_or (reverse turned) j other ≡ turned_row (get_or rows i old) =
          place_turned turned other j i (omega (arith, e, wide, count)) ∙ get_or-map turned_row rows i old other here in
          let right = row_of_mirror net (sweep_parameter net k i) (get_or rows i old) (r.each i here) in
          let P : Fraction → Row → Type 0 = λ x row. IsRightRow (mirror net) x row in
          subst (λ x. P x (get_or (reverse turned) j other)) (sym (parameter_turned net k i j (some_unit net k m some) e))
          (subst (P (negative (sweep_parameter net k i))) (sym at) right);
    }

-- ---- a falling network and its mirror

near_turned : (x : Fraction) → IsNearEnd x → IsNearEnd (negative x)
near_turned x near =
    let low = near.low in
    let high = near.high in
    record { low = omega (arith, ints, high); high = omega (arith, ints, low) }

pub near_ends_turned : (net other : Network) → other ≡ mirror net → HasNearEnds net → HasNearEnds other
near_ends_turned net other e near =
    let turned : HasNearEnds (mirror net) = record { low = near_turned net.high near.high; high = near_turned net.low near.low } in
    subst HasNearEnds (sym e) turned

pub rising_turned : (net other : Network) → other ≡ mirror net → net.sense ≡ Falling → other.sense ≡ Rising
rising_turned net other e falling = ap (λ (net : Network). net.sense) e ∙ ap other_sense falling

pub rows_back : (net other : Network) (k : ℕ) (rows made : List Row) → other ≡ mirror net → IsMonotone net → 1 ≤ k → AreRows other k rows → made ≡ reverse (map turned_row rows) → AreRows net k made
rows_back net other k rows made e m some r f =
    let right : AreRows (mirror net) k rows = subst (λ o. AreRows o k rows) e r in
    let back = rows_of_mirror (mirror net) k rows (monotone_turned net m) some right in
    let same : AreRows net k (reverse (map turned_row rows)) = subst (λ o. AreRows o k (reverse (map turned_row rows))) (mirror_twice net) back in
    subst (AreRows net k) (sym f) same
