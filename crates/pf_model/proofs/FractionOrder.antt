-- The order of all fractions is total, and between parameters it is that of the cross products.
use Rattle.std.proofs.Common.{◌≡◌, refl, ap, sym, subst, arith, Bool, true, false}
use Rattle.std.specs.Prelude.{ℤ, pos, ◌*ℤ◌, ◌≤ℤ◌, int_lt, if◌then◌else◌}
use Rattle.std.specs.Cmp.{IsTotalOrder, int_cmp_total, int_ranks, int_cmp_is}
use Rattle.std.specs.declared.cmp.Ordering.{Ordering}
use Rattle.std.specs.declared.cmp.Ordering.TheVariants.{Less, Equal, Greater}
use Rattle.std.specs.Ordering.{MatchOrdering, int_cmp}
use Rattle.std.proofs.lemmas.Int.{ints}
use Rattle.pf_model.specs.Fraction.{Fraction, IsParameter, IsBelow, IsEqual, least_one, fraction_cmp}
use Rattle.pf_model.proofs.Lowest.{equal_below, below_equal, equal_both}
use Rattle.pf_model.proofs.Unique.{below_then_at_most}

one_by : (q : ℤ) (small : Bool) → int_lt q (pos 1) ≡ small → pos 1 ≤ℤ (if small then pos 1 else q)
one_by q true e = omega (arith, ints)
one_by q false e = omega (arith, ints, e)

stays_by : (q : ℤ) (small : Bool) → int_lt q (pos 1) ≡ small → pos 1 ≤ℤ q → (if small then pos 1 else q) ≡ q
stays_by q true e h = absurd (omega (arith, ints, e, h))
stays_by q false e h = refl

-- the parameter by which a fraction is compared
abbrev compared : Fraction → Fraction
compared x = record { p = x.p; q = least_one x.q }

parameter : (x : Fraction) → IsParameter (compared x)
parameter x = one_by x.q (int_lt x.q (pos 1)) refl

stays : (x : Fraction) → IsParameter x → compared x ≡ x
stays x h = let from : ℤ → Fraction = λ q. record { p = x.p; q = q } in ap from (stays_by x.q (int_lt x.q (pos 1)) refl h)

ranks : (x y : Fraction) → MatchOrdering (fraction_cmp x y) (IsBelow (compared x) (compared y)) (IsEqual (compared x) (compared y)) (IsBelow (compared y) (compared x))
ranks x y = int_ranks (x.p *ℤ least_one y.q) (y.p *ℤ least_one x.q)

means : (x y : Fraction) (r : Ordering) → fraction_cmp x y ≡ r →
    MatchOrdering r (IsBelow (compared x) (compared y)) (IsEqual (compared x) (compared y)) (IsBelow (compared y) (compared x))
means x y r e = subst (λ o. MatchOrdering o (IsBelow (compared x) (compared y)) (IsEqual (compared x) (compared y)) (IsBelow (compared y) (compared x))) e (ranks x y)

is_from : (x y : Fraction) (r : Ordering) →
    MatchOrdering r (IsBelow (compared x) (compared y)) (IsEqual (compared x) (compared y)) (IsBelow (compared y) (compared x)) → fraction_cmp x y ≡ r
is_from x y r h = sym (int_cmp_is (x.p *ℤ least_one y.q) (y.p *ℤ least_one x.q) r h)

carried : (o : Ordering) {P Q R P' Q' R' : Type 0} → (P → P') → (Q → Q') → (R → R') → MatchOrdering o P Q R → MatchOrdering o P' Q' R'
carried Less f g h m = f m
carried Equal f g h m = g m
carried Greater f g h m = h m

chain : (x y z : Fraction) → IsBelow (compared x) (compared y) → IsBelow (compared y) (compared z) → IsBelow (compared x) (compared z)
chain x y z h k =
    below_then_at_most (compared x) (compared y) (compared z) (parameter x) (parameter y) (parameter z) h (omega (arith, ints, k))

pub fraction_cmp_total : IsTotalOrder fraction_cmp
fraction_cmp_total = record {
  antisymm = λ x y. int_cmp_total.antisymm (x.p *ℤ least_one y.q) (y.p *ℤ least_one x.q);
  trans = λ x y z e f. is_from x z Less (chain x y z (means x y Less e) (means y z Less f));
  congr = λ x y z e.
      let same = means x y Equal e in
      is_from x z (fraction_cmp y z) (carried (fraction_cmp y z)
      (λ h. equal_below (compared x) (compared y) (compared z) (parameter x) (parameter y) (parameter z) same h)
      (λ h. equal_both (compared y) (compared x) (compared z) (parameter y) same (sym h))
      (λ h. below_equal (compared z) (compared y) (compared x) (parameter z) (parameter y) (parameter x) h (sym same))
      (ranks y z));
}

-- between parameters
pub fraction_order : (x y : Fraction) → IsParameter x → IsParameter y →
    MatchOrdering (fraction_cmp x y) (IsBelow x y) (IsEqual x y) (IsBelow y x)
fraction_order x y px py =
    let P : Fraction → Fraction → Type 0 = λ a b. MatchOrdering (fraction_cmp x y) (IsBelow a b) (IsEqual a b) (IsBelow b a) in
    subst (P x) (stays y py) (subst (λ a. P a (compared y)) (stays x px) (ranks x y))

-- it compares the cross products
pub cross_order : (x y : Fraction) → IsParameter x → IsParameter y → fraction_cmp x y ≡ int_cmp (x.p *ℤ y.q) (y.p *ℤ x.q)
cross_order x y px py = int_cmp_is (x.p *ℤ y.q) (y.p *ℤ x.q) (fraction_cmp x y) (fraction_order x y px py)
