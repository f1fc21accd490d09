-- Steps of the search for the dropped parts and products.
use Rattle.std.proofs.Common.{◌≡◌, ℕ, ◌+◌, ◌-◌, ◌<◌, ◌≤◌, List, length, get_or, set, refl, Bool, true, false, cond, ◌||◌, arith, sym, ◌∙◌, inl, inr, subst}
use Rattle.std.specs.Prelude.{ℤ, ◌<ℤ◌, pos}
use Rattle.std.proofs.lemmas.Bool.{cases_eq, false≢true}
use Rattle.std.proofs.lemmas.List.{length-set}
use Rattle.pf_model.specs.Cut.{has, at_arc, size}
use Rattle.pf_model.specs.Fraction.{Fraction}
use Rattle.pf_model.proofs.Search.{has-set, has-set_new, size-set, size-le-length}
use Rattle.pf_select.specs.Problem.{SelectionProblem, product_at, part_at}
use Rattle.pf_select.specs.Certificate.{KeepsRules}
use Rattle.pf_select.specs.Dropping.{KeepsNeed, IsNeedDropped, IsRound, marked}

-- one need
pub dropped_by_part : (product part : ℕ) (charge : ℤ) (parts products : List Bool) → product < length products → has parts part ≡ true →
    has products product ≡ false → IsNeedDropped product part charge parts parts products (set products product true) true
dropped_by_part product part charge parts products low held off = record {
  parts_full = refl;
  products_full = length-set products product true;
  more_parts = λ v h. h;
  more_products = λ v h. has-set products product v h;
  grows = omega (arith, size-set products product low off);
  still_parts = λ e. absurd (false≢true (sym e));
  still_products = λ e. absurd (false≢true (sym e));
  parts_forced = λ other_parts other_products keeps a b. a;
  products_forced = λ other_parts other_products keeps a b v h. elim (has-set_new products product v h) [
    | inl same ↦ rw same (keeps.needing (a part held))
    | inr before ↦ b v before
  ];
  kept = λ e. absurd (false≢true (sym e));
}

pub dropped_by_product : (product part : ℕ) (charge : ℤ) (parts products : List Bool) → part < length parts → pos 0 <ℤ charge →
    has products product ≡ true → has parts part ≡ false → IsNeedDropped product part charge parts (set parts part true) products products true
dropped_by_product product part charge parts products low more held off = record {
  parts_full = length-set parts part true;
  products_full = refl;
  more_parts = λ v h. has-set parts part v h;
  more_products = λ v h. h;
  grows = omega (arith, size-set parts part low off);
  still_parts = λ e. absurd (false≢true (sym e));
  still_products = λ e. absurd (false≢true (sym e));
  parts_forced = λ other_parts other_products keeps a b v h. elim (has-set_new parts part v h) [
    | inl same ↦ rw same (keeps.charging (b product held) more)
    | inr before ↦ a v before
  ];
  products_forced = λ other_parts other_products keeps a b. b;
  kept = λ e. absurd (false≢true (sym e));
}

pub dropped_at : (p : SelectionProblem) (needs : List (ℕ × ℕ)) (k : ℕ) (x y : ℤ) (parts parts' products products' : List Bool) (r : Bool) →
    needs ≡ p.needs → x ≡ y → IsNeedDropped (get_or needs k (0, 0)).0 (get_or needs k (0, 0)).1 x parts parts' products products' r →
    IsNeedDropped (product_at p k) (part_at p k) y parts parts' products products' r
dropped_at p needs k x y parts parts' products products' r e same h =
    let P : List (ℕ × ℕ) → Type 0 = λ l. IsNeedDropped (get_or l k (0, 0)).0 (get_or l k (0, 0)).1 y parts parts' products products' r in
    let Q : ℤ → Type 0 = λ z. IsNeedDropped (get_or needs k (0, 0)).0 (get_or needs k (0, 0)).1 z parts parts' products products' r in
    subst P e (subst Q same h)

-- one need more
grows_step : (a b : Bool) (x y z : ℕ) → x + cond a 1 0 ≤ y → y + cond b 1 0 ≤ z → x + cond (a || b) 1 0 ≤ z
grows_step true true x y z h l = omega arith
grows_step true false x y z h l = omega arith
grows_step false true x y z h l = omega arith
grows_step false false x y z h l = omega arith

neither : (a b : Bool) → (a || b) ≡ false → (a ≡ false) × (b ≡ false)
neither true b e = absurd (false≢true (sym e))
neither false b e = (refl, e)

needs_of_rules : (p : SelectionProblem) (x : Fraction) (charges : List ℤ) (parts products : List Bool) (k : ℕ) → k < length p.needs →
    KeepsRules p x charges parts products → KeepsNeed (product_at p k) (part_at p k) (at_arc charges k) parts products
needs_of_rules p x charges parts products k low keeps = record { needing = keeps.needing k low; charging = keeps.charging k low }

kept_still : (product part : ℕ) (charge : ℤ) (parts parts' products products' : List Bool) → parts' ≡ parts → products' ≡ products →
    KeepsNeed product part charge parts products → KeepsNeed product part charge parts' products'
kept_still product part charge parts parts' products products' e f k = rw (e, f) k

round_step : (p : SelectionProblem) (charges : List ℤ) (parts mid parts' products mid' products' : List Bool) (k : ℕ) (a b : Bool) → k < length p.needs →
    IsRound p charges parts mid products mid' k a → IsNeedDropped (product_at p k) (part_at p k) (at_arc charges k) mid parts' mid' products' b →
    IsRound p charges parts parts' products products' (k + 1) (a || b)
round_step p charges parts mid parts' products mid' products' k a b low r e = record {
  parts_full = e.parts_full ∙ r.parts_full;
  products_full = e.products_full ∙ r.products_full;
  more_parts = λ v h. e.more_parts v (r.more_parts v h);
  more_products = λ v h. e.more_products v (r.more_products v h);
  grows = grows_step a b (marked parts products) (marked mid mid') (marked parts' products') r.grows e.grows;
  still_parts = λ off. e.still_parts (neither a b off).1 ∙ r.still_parts (neither a b off).0;
  still_products = λ off. e.still_products (neither a b off).1 ∙ r.still_products (neither a b off).0;
  forced = λ x f. record {
    parts_forced = λ q r' keeps. e.parts_forced q r' (needs_of_rules p x charges q r' k low keeps)
        ((r.forced x f).parts_forced q r' keeps) ((r.forced x f).products_forced q r' keeps);
    products_forced = λ q r' keeps. e.products_forced q r' (needs_of_rules p x charges q r' k low keeps)
        ((r.forced x f).parts_forced q r' keeps) ((r.forced x f).products_forced q r' keeps);
  };
  kept = λ off j less.
      let both = neither a b off in
      elim (cases_eq j k) [
        | inl same ↦ rw same (e.kept both.1)
        | inr other ↦ kept_still (product_at p j) (part_at p j) (at_arc charges j) mid parts' mid' products' (e.still_parts both.1) (e.still_products both.1)
            (r.kept both.0 j (omega (arith, less, other)))
      ];
}

pub round_more : (p : SelectionProblem) (charges : List ℤ) (parts mid parts' products mid' products' : List Bool) (k : ℕ) (a b c : Bool) → k < length p.needs →
    IsRound p charges parts mid products mid' k a → IsNeedDropped (product_at p k) (part_at p k) (at_arc charges k) mid parts' mid' products' b →
    c ≡ (a || b) → IsRound p charges parts parts' products products' (k + 1) c
round_more p charges parts mid parts' products mid' products' k a b c low r e same =
    rw same (round_step p charges parts mid parts' products mid' products' k a b low r e)

pub either_first : (a b c : Bool) → a ≡ true → c ≡ true → c ≡ (a || b)
either_first a b c e f = rw (e, f) refl

pub either_second : (a b c : Bool) → a ≡ false → c ≡ b → c ≡ (a || b)
either_second a b c e f = rw (e, f) refl

pub round_all : (p : SelectionProblem) (charges : List ℤ) (parts parts' products products' : List Bool) (k : ℕ) (a : Bool) → length p.needs ≤ k →
    IsRound p charges parts parts' products products' k a → IsRound p charges parts parts' products products' (length p.needs) a
round_all p charges parts parts' products products' k a done r = record {
  parts_full = r.parts_full;
  products_full = r.products_full;
  more_parts = r.more_parts;
  more_products = r.more_products;
  grows = r.grows;
  still_parts = r.still_parts;
  still_products = r.still_products;
  forced = r.forced;
  kept = λ off j less. r.kept off j (omega (arith, less, done));
}

smaller_step : (result changed : Bool) (l l' r r' m m' n n' : ℕ) → changed ≡ true → l' ≡ l → r' ≡ r → (m + n) + cond result 1 0 ≤ m' + n' → m' ≤ l' → n' ≤ r' →
    ((l' - m') + (r' - n')) + cond result 1 0 < ((l - m) + (r - n)) + cond changed 1 0
smaller_step true true l l' r r' m m' n n' e same same' grows most most' = omega arith
smaller_step false true l l' r r' m m' n n' e same same' grows most most' = omega arith
smaller_step result false l l' r r' m m' n n' e same same' grows most most' = absurd (false≢true e)

pub round_smaller : (parts parts' products products' : List Bool) (changed result : Bool) → changed ≡ true → length parts' ≡ length parts →
    length products' ≡ length products → marked parts products + cond result 1 0 ≤ marked parts' products' →
    ((length parts' - size parts') + (length products' - size products')) + cond result 1 0
    < ((length parts - size parts) + (length products - size products)) + cond changed 1 0
round_smaller parts parts' products products' changed result e same same' grows =
    smaller_step result changed (length parts) (length parts') (length products) (length products') (size parts) (size parts') (size products) (size products')
    e same same' grows (size-le-length parts') (size-le-length products')
