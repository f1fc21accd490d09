-- One more point after the points so far.
use Rattle.std.proofs.Common.{◌≡◌, ℕ, ◌+◌, ◌<◌, List, [], ◌∷◌, ◌++◌, length, get_or, take, map, ap, sym, ◌∙◌, subst}
use Rattle.std.specs.Prelude.{All}
use Rattle.std.proofs.lemmas.List.{map_more}
use Rattle.std.proofs.lemmas.List.Elements.{All-push}
use Rattle.pf_model.specs.Fraction.{Fraction}
use Rattle.pf_model.specs.Answer.{IsFractionShape}

-- the points so far, and their shape
pub record ArePoints {A : Type 0} (right : A → Fraction) (parts : List A) (lo : Fraction) (i : ℕ) (points : List Fraction) : Type 0 where
  pub points_are : points ≡ lo ∷ map right (take i parts)
  pub shape : All IsFractionShape points

pub pushed : {A : Type 0} (right : A → Fraction) (parts : List A) (i : ℕ) (item : A) (lo : Fraction) (old new : List Fraction) → i < length parts → item ≡ get_or parts i item →
    ArePoints right parts lo i old → new ≡ old ++ right item ∷ [] → IsFractionShape (right item) → ArePoints right parts lo (i + 1) new
pushed right parts i item lo old new low is known added shape = record {
  points_are =
      let more = map_more right parts i item low in
      let here = ap right (sym is) in
      added ∙ ap (λ (xs : List Fraction). xs ++ right item ∷ []) known.points_are
      ∙ ap (λ (x : Fraction). (lo ∷ map right (take i parts)) ++ x ∷ []) (sym here)
      ∙ sym (ap (λ (xs : List Fraction). lo ∷ xs) more);
  shape =
      let P : List Fraction → Type 0 = λ xs. All IsFractionShape xs in
      subst P (sym added) (All-push IsFractionShape old (right item) known.shape shape);
}
