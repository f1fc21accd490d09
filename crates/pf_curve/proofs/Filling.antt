-- A table filled with a greatest flow at each point, row by row.
use Rattle.std.proofs.Common.{◌≡◌, ℕ, ◌+◌, ◌<◌, ◌≤◌, List, [], ◌∷◌, ◌++◌, length, get_or, arith, ap, sym, ◌∙◌, subst, below_more}
use Rattle.std.specs.Prelude.{ℤ, All}
use Rattle.std.proofs.lemmas.List.{length_push, get_or_append_left, get_or_default}
use Rattle.std.proofs.Math.Seq.{get_or-append_seam}
use Rattle.pf_model.specs.Fraction.{Fraction}
use Rattle.pf_model.specs.Network.{Network, IsInInterval}
use Rattle.pf_model.specs.Curve.{point_at, flow_at}
use Rattle.pf_model.specs.Answer.{IsFlowShape}
use Rattle.pf_curve.specs.Flows.{IsRow, AreFilled, AreGreatest}

pub filling_begins : (net : Network) (points : List Fraction) (flows : List (List ℤ)) → flows ≡ [] → AreFilled net points 0 flows
filling_begins net points flows e = record { count = ap length e; each = λ j low. absurd (omega arith) }

pub filling_goes_on : (net : Network) (points : List Fraction) (i : ℕ) (old new : List (List ℤ)) (x : Fraction) (row : List ℤ) → AreFilled net points i old →
    new ≡ old ++ row ∷ [] → point_at net points i ≡ x → IsRow net x row → AreFilled net points (i + 1) new
filling_goes_on net points i old new x row f e is found =
    let P : Fraction → List ℤ → Type 0 = λ y flow. IsRow net y flow in
    let here : flow_at new i ≡ row =
    ap (λ (t : List (List ℤ)). get_or t i []) e ∙ ap (λ (k : ℕ). get_or (old ++ row ∷ []) k []) (sym f.count) ∙ get_or-append_seam old row [] [] in
    record {
      count = ap length e ∙ length_push old row ∙ ap (λ (k : ℕ). k + 1) f.count;
      each = below_more (λ j. IsRow net (point_at net points j) (flow_at new j)) i
          (λ j less.
          let same : flow_at new j ≡ flow_at old j = ap (λ (t : List (List ℤ)). get_or t j []) e ∙ get_or_append_left old (row ∷ []) [] j (omega (arith, less, f.count)) in
          subst (P (point_at net points j)) (sym same) (f.each j less))
          (subst (P (point_at net points i)) (sym here) (subst (λ y. P y row) (sym is) found));
    }

pub filling_ends : (net : Network) (points : List Fraction) (i : ℕ) (flows : List (List ℤ)) → AreFilled net points i flows → i ≤ length points → length points ≤ i →
    AreGreatest net points flows
filling_ends net points i flows f most all = record {
  count = omega (arith, f.count, most, all);
  each = λ j low. (f.each j (omega arith)).greatest;
  shape = λ j d low.
      let P : List ℤ → Type 0 = λ x. IsFlowShape net x in
      subst P (get_or_default flows j [] d low) (f.each j (omega (arith, low, f.count))).shape;
}

-- the row of a point that is in the list
pub row_at_point : (net : Network) (points : List Fraction) (i j : ℕ) (flows : List (List ℤ)) (x : Fraction) (flow : List ℤ) → AreFilled net points i flows → j < i →
    point_at net points j ≡ x → flow ≡ flow_at flows j → IsRow net x flow
row_at_point net points i j flows x flow f low is e =
    let P : Fraction → List ℤ → Type 0 = λ y row. IsRow net y row in
    subst (λ y. P y flow) is (subst (P (point_at net points j)) (sym e) (f.each j low))

-- a point of the list
pub point_in : (net : Network) (points : List Fraction) (i : ℕ) (x : Fraction) → i < length points → x ≡ get_or points i x → point_at net points i ≡ x
point_in net points i x low is = get_or_default points i net.low x low ∙ sym is

pub inside_in : (net : Network) (points : List Fraction) (i : ℕ) (x : Fraction) → All (IsInInterval net) points → i < length points → x ≡ get_or points i x → IsInInterval net x
inside_in net points i x all low is = subst (IsInInterval net) (sym is) (all i x low)
