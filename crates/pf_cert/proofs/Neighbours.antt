-- What holds of each two neighbours of a list, from the first two on.
use Rattle.std.proofs.Common.{◌≡◌, ℕ, ◌+◌, ◌-◌, ◌<◌, ◌≤◌, List, length, get_or, Bool, refl, arith, ap, sym, ◌∙◌, subst, inl, inr}
use Rattle.std.specs.Prelude.{◌<ℤ◌, All}
use Rattle.std.specs.declared.cmp.Ordering.{Ordering}
use Rattle.std.specs.declared.cmp.Ordering.TheVariants.{Less, Equal, Greater}
use Rattle.std.specs.Bool.{Decides}
use Rattle.std.specs.Ordering.{MatchOrdering, is_lt, is_eq}
use Rattle.std.proofs.lemmas.Bool.{cases_lt, false≢true}
use Rattle.std.proofs.lemmas.Int.{ints}
use Rattle.std.proofs.lemmas.List.{get_or_default}
use Rattle.pf_model.specs.Line.{AffineLine}
use Rattle.pf_model.specs.Fraction.{Fraction, IsBelow, IsEqual, IsParameter}
use Rattle.pf_model.specs.Network.{Network, cut_b, line_of}
use Rattle.pf_model.specs.Curve.{IsDivision, SlopesFall, point_at, cut_at}
use Rattle.pf_cert.specs.Parts.{Rise}

pub pairs_more : (P : ℕ → Type 0) (i : ℕ) → 1 ≤ i → ((k : ℕ) → k + 1 < i → P k) → P (i - 1) → (k : ℕ) → k + 1 < i + 1 → P k
pairs_more P i low before here k less = elim (cases_lt k (i - 1)) [
  | inl earlier ↦ before k (omega arith)
  | inr last ↦ (let e : i - 1 ≡ k = omega arith in subst P e here)
]

-- what the answer of `cmp` says of two fractions, as a test
pub less_is : (o : Ordering) (x y : Fraction) → MatchOrdering o (IsBelow x y) (IsEqual x y) (IsBelow y x) → Decides (is_lt o) (IsBelow x y)
less_is Less x y m = (λ e. m, λ h. refl)
less_is Equal x y m = (λ e. absurd (false≢true e), λ h. absurd (omega (arith, ints, m, h)))
less_is Greater x y m = (λ e. absurd (false≢true e), λ h. absurd (omega (arith, ints, m, h)))

pub same_is : (o : Ordering) (x y : Fraction) → MatchOrdering o (IsBelow x y) (IsEqual x y) (IsBelow y x) → Decides (is_eq o) (IsEqual x y)
same_is Less x y m = (λ e. absurd (false≢true e), λ h. absurd (omega (arith, ints, m, h)))
same_is Equal x y m = (λ e. m, λ h. refl)
same_is Greater x y m = (λ e. absurd (false≢true e), λ h. absurd (omega (arith, ints, m, h)))

-- two parameters, the first below the second
pub record IsPair (x y : Fraction) : Type 0 where
  pub first : IsParameter x
  pub second : IsParameter y
  pub below : IsBelow x y

-- of two fractions that stand side by side
abbrev pub RisesAt : List Fraction → ℕ → Type 0
RisesAt points k = (d : Fraction) → IsPair (get_or points k d) (get_or points (k + 1) d)

pub rises_here : (points : List Fraction) (i : ℕ) (x y : Fraction) → 1 ≤ i → i < length points → x ≡ get_or points (i - 1) x → y ≡ get_or points i y →
    IsPair x y → RisesAt points (i - 1)
rises_here points i x y start low is_x is_y h d =
    let e : (i - 1) + 1 ≡ i = omega arith in
    let here : get_or points (i - 1) d ≡ x = get_or_default points (i - 1) d x (omega arith) ∙ sym is_x in
    let next : get_or points i d ≡ y = get_or_default points i d y low ∙ sym is_y in
    let P : Fraction → Type 0 = λ a. IsPair a (get_or points ((i - 1) + 1) d) in
    let Q : Fraction → Type 0 = λ b. IsPair x b in
    subst P (sym here) (subst Q (sym (ap (λ n. get_or points n d) e ∙ next)) h)

-- where each is one of two such, all are parameters
pub all_parameters : (points : List Fraction) → 2 ≤ length points → ((k : ℕ) → k + 1 < length points → RisesAt points k) → All IsParameter points
all_parameters points two h = λ k d low. elim (cases_lt (k + 1) (length points)) [
  | inl more ↦ (h k more d).first
  | inr last ↦ (
      let e : (k - 1) + 1 ≡ k = omega arith in
      let P : ℕ → Type 0 = λ n. IsParameter (get_or points n d) in
      subst P e (h (k - 1) (omega arith) d).second)
]

pub rises_told : (points : List Fraction) (i : ℕ) (x y : Fraction) → 1 ≤ i → i < length points → x ≡ get_or points (i - 1) x → y ≡ get_or points i y →
    Rise points → IsBelow x y
rises_told points i x y start low is_x is_y r =
    let e : (i - 1) + 1 ≡ i = omega arith in
    let h = r.each (i - 1) x (omega arith) in
    let next : get_or points ((i - 1) + 1) x ≡ y = ap (λ n. get_or points n x) e ∙ get_or_default points i x y low ∙ sym is_y in
    let P : Fraction → Type 0 = λ a. IsBelow a (get_or points ((i - 1) + 1) x) in
    let Q : Fraction → Type 0 = λ b. IsBelow x b in
    subst Q next (subst P (sym is_x) h)

-- the slope of a cut is above that of the next
abbrev pub FallsAt : Network → List (List Bool) → ℕ → Type 0
FallsAt net cuts k = cut_b net (cut_at cuts (k + 1)) <ℤ cut_b net (cut_at cuts k)

-- the slopes of the cuts before the cut i fall, and the line of the last of them is at hand
pub record HaveFallen (net : Network) (cuts : List (List Bool)) (before : AffineLine) (i : ℕ) : Type 0 where
  pub pairs : (k : ℕ) → k + 1 < i → FallsAt net cuts k
  pub last : before ≡ line_of net (cut_at cuts (i - 1))

pub fallen_first : (net : Network) (cuts : List (List Bool)) (before : AffineLine) → before ≡ line_of net (cut_at cuts 0) → HaveFallen net cuts before 1
fallen_first net cuts before is = record { pairs = λ k low. absurd (omega (arith, low)); last = is }

pub fallen_more : (net : Network) (cuts : List (List Bool)) (before after : AffineLine) (i : ℕ) → 1 ≤ i → HaveFallen net cuts before i → after ≡ line_of net (cut_at cuts i) →
    after.b <ℤ before.b → HaveFallen net cuts after (i + 1)
fallen_more net cuts before after i start h is less =
    let e : (i - 1) + 1 ≡ i = omega arith in
    let f : (i + 1) - 1 ≡ i = omega arith in
    let P : ℕ → Type 0 = λ n. cut_b net (cut_at cuts n) <ℤ cut_b net (cut_at cuts (i - 1)) in
    let here : cut_b net (cut_at cuts i) <ℤ cut_b net (cut_at cuts (i - 1)) = rw (is, h.last) at less in
    record {
      pairs = pairs_more (FallsAt net cuts) i start h.pairs (subst P (sym e) here);
      last = is ∙ ap (λ n. line_of net (cut_at cuts n)) (sym f);
    }

pub falls_told : (net : Network) (cuts : List (List Bool)) (before after : AffineLine) (i : ℕ) → 1 ≤ i → i < length cuts → HaveFallen net cuts before i →
    after ≡ line_of net (cut_at cuts i) → SlopesFall net cuts → after.b <ℤ before.b
falls_told net cuts before after i start low h is s =
    let e : (i - 1) + 1 ≡ i = omega arith in
    let P : ℕ → Type 0 = λ n. cut_b net (cut_at cuts n) <ℤ cut_b net (cut_at cuts (i - 1)) in
    let here : cut_b net (cut_at cuts i) <ℤ cut_b net (cut_at cuts (i - 1)) = subst P e (s (i - 1) (omega arith)) in
    rw (is, h.last) here

-- the division of the interval, from what the code has compared; the first and the last point are known by equations
pub division_here : (net : Network) (points : List Fraction) (cuts : List (List Bool)) (first last : Fraction) → length points ≡ length cuts + 1 → 0 < length cuts →
    All IsParameter points → first ≡ get_or points 0 first → last ≡ get_or points (length cuts) last → IsEqual first net.low → IsEqual last net.high → Rise points →
    IsDivision net points cuts
division_here net points cuts first last count some parameters is_first is_last low high r =
    let at_first : first ≡ point_at net points 0 = is_first ∙ get_or_default points 0 first net.low (omega arith) in
    let at_last : last ≡ point_at net points (length cuts) = is_last ∙ get_or_default points (length cuts) last net.low (omega arith) in
    let P : Fraction → Type 0 = λ x. IsEqual x net.low in
    let Q : Fraction → Type 0 = λ x. IsEqual x net.high in
    record {
      some = some;
      count = count;
      parameters = λ i here. parameters i net.low here;
      low = subst P at_first low;
      high = subst Q at_last high;
      rise = λ i here. r.each i net.low (omega arith);
    }

pub division_shown : (net : Network) (points shown : List Fraction) (cuts : List (List Bool)) (first last lo hi : Fraction) → shown ≡ points → lo ≡ net.low → hi ≡ net.high →
    length points ≡ length cuts + 1 → 0 < length cuts → All IsParameter shown → first ≡ get_or shown 0 first → last ≡ get_or shown (length shown - 1) last →
    IsEqual first lo → IsEqual last hi → Rise shown → IsDivision net points cuts
division_shown net points shown cuts first last lo hi same is_lo is_hi count some parameters is_first is_last low high r =
    let P : List Fraction → Type 0 = λ l. IsDivision net l cuts in
    let L : Fraction → Type 0 = λ x. IsEqual first x in
    let H : Fraction → Type 0 = λ x. IsEqual last x in
    let shown_count : length shown ≡ length cuts + 1 = ap length same ∙ count in
    let place : length shown - 1 ≡ length cuts = omega arith in
    subst P same
    (division_here net shown cuts first last shown_count some parameters is_first (is_last ∙ ap (λ n. get_or shown n last) place) (subst L is_lo low) (subst H is_hi high) r)

pub rise_of : (net : Network) (points : List Fraction) (cuts : List (List Bool)) → IsDivision net points cuts → Rise points
rise_of net points cuts d = record {
  each = λ i e low.
      let count = d.count in
      let P : Fraction → Type 0 = λ x. IsBelow x (get_or points (i + 1) e) in
      let Q : Fraction → Type 0 = λ y. IsBelow (get_or points i net.low) y in
      subst P (get_or_default points i net.low e (omega arith))
      (subst Q (get_or_default points (i + 1) net.low e low) (d.rise i (omega arith)));
}
