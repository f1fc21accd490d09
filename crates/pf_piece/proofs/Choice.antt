-- Each cut between the two sides stands for one cut of the piece.
use Rattle.std.proofs.Common.{◌≡◌, ℕ, zero, suc, ◌+◌, ◌<◌, ◌≤◌, List, [], ◌∷◌, ◌++◌, length, get_or, refl, Bool, true, false, cond, not, ◌&&◌, arith, ap, sym, ◌∙◌, inl, inr}
use Rattle.std.proofs.lemmas.Bool.{cases_lt, cases_Bool}
use Rattle.std.proofs.lemmas.List.{length-append, get_or_append_left, get_or_push, ext_get_or}
use Rattle.pf_model.specs.Cut.{has}
use Rattle.pf_model.specs.Network.{IsNetworkCut}
use Rattle.pf_piece.specs.Piece.{Between, AreNested, IsLift, is_inner, inner_before, place, piece_of}
use Rattle.pf_piece.specs.Laws.{IsCutBetween, IsLiftOfOne}
use Rattle.pf_piece.proofs.Places.{inner_below, place_in, place_out, place_inner, is_inner_from}

-- what a side says of the inner nodes below v, in their order
abbrev pub chosen : List Bool → List Bool → List Bool → ℕ → List Bool
chosen small large whole zero = []
chosen small large whole (suc v) = chosen small large whole v ++ cond (is_inner small large v) (has whole v ∷ []) []

length_step : (here b : Bool) (xs : List Bool) (n : ℕ) → length xs ≡ n → length (xs ++ cond here (b ∷ []) []) ≡ n + cond here 1 0
length_step true b xs n e = length-append xs (b ∷ []) ∙ ap (λ m. m + 1) e
length_step false b xs n e = length-append xs [] ∙ ap (λ m. m + 0) e

length_chosen : (small large whole : List Bool) (v : ℕ) → length (chosen small large whole v) ≡ inner_before small large v
length_chosen small large whole zero = refl
length_chosen small large whole (suc v) = length_step (is_inner small large v) (has whole v) _ _ (length_chosen small large whole v)

push_step : (here b : Bool) (xs : List Bool) (i : ℕ) → length xs ≡ i → here ≡ true → get_or (xs ++ cond here (b ∷ []) []) i false ≡ b
push_step true b xs i e h = get_or_push xs b false i e
push_step false b xs i e h = absurd cc

chosen_at : (small large whole : List Bool) (n v : ℕ) → v < n → is_inner small large v ≡ true →
    get_or (chosen small large whole n) (inner_before small large v) false ≡ has whole v
chosen_at small large whole zero v low e = absurd (omega arith)
chosen_at small large whole (suc n) v low e = elim (cases_lt v n) [
  | inl less ↦
      let more = inner_below small large v n less e in
      get_or_append_left (chosen small large whole n) (cond (is_inner small large n) (has whole n ∷ []) []) false (inner_before small large v)
      (omega (arith, more, length_chosen small large whole n))
      ∙ chosen_at small large whole n v less e
  | inr last ↦
      let same : v ≡ n = omega arith in
      let here = rw same at e in
      let there = push_step (is_inner small large n) (has whole n) (chosen small large whole n) (inner_before small large n) (length_chosen small large whole n) here in
      rw same there
]

-- an inner node with so many inner ones below it
record HasPlace (small large : List Bool) (n k : ℕ) : Type 0 where
  pub node : ℕ
  pub low : node < n
  pub inner : is_inner small large node ≡ true
  pub place_is : inner_before small large node ≡ k

last_is : (here : Bool) (a k : ℕ) → here ≡ true → a ≤ k → k < a + cond here 1 0 → a ≡ k
last_is true a k e h low = omega arith
last_is false a k e h low = absurd cc

last_not : (here : Bool) (a k : ℕ) → here ≡ false → a ≤ k → k < a + cond here 1 0 → ⊥
last_not true a k e h low = absurd cc
last_not false a k e h low = omega arith

has_place : (small large : List Bool) (n k : ℕ) → k < inner_before small large n → HasPlace small large n k
has_place small large zero k low = absurd (omega arith)
has_place small large (suc n) k low = elim (cases_lt k (inner_before small large n)) [
  | inl less ↦
      let found = has_place small large n k less in
      let here = found.low in
      record { node = found.node; low = omega (arith, here); inner = found.inner; place_is = found.place_is }
  | inr more ↦ elim (cases_Bool (is_inner small large n)) [
    | inl e ↦ record { node = n; low = omega arith; inner = e; place_is = last_is (is_inner small large n) (inner_before small large n) k e more low }
    | inr e ↦ absurd (last_not (is_inner small large n) (inner_before small large n) k e more low)
  ]
]

inner_parts : (s l : Bool) → (not s && l) ≡ true → (s ≡ false) × (l ≡ true)
inner_parts true l e = absurd cc
inner_parts false l e = (refl, e)

-- the cut of the piece
abbrev pub choice : Between → List Bool → List Bool
choice part whole = true ∷ (false ∷ chosen part.small part.large whole part.net.nodes)

choice_later : (part : Between) (whole : List Bool) (k : ℕ) → has (choice part whole) (k + 2) ≡ get_or (chosen part.small part.large whole part.net.nodes) k false
choice_later part whole k =
    let e : k + 2 ≡ suc (suc k) = omega arith in
    ap (has (choice part whole)) e

choice_each : (part : Between) (whole : List Bool) → IsCutBetween part whole → (v : ℕ) → v < part.net.nodes →
    has whole v ≡ has (choice part whole) (place part.small part.large v)
choice_each part whole h v low = elim (cases_Bool (has part.small v)) [
  | inl e ↦ h.above v e ∙ sym (ap (has (choice part whole)) (place_in part.small part.large v e))
  | inr e ↦ elim (cases_Bool (has part.large v)) [
    | inl f ↦
        let inner = is_inner_from (has part.small v) (has part.large v) e f in
        sym (chosen_at part.small part.large whole part.net.nodes v low inner)
        ∙ sym (choice_later part whole (inner_before part.small part.large v))
        ∙ sym (ap (has (choice part whole)) (place_inner part.small part.large v e f))
    | inr f ↦ outside (has whole v) (has part.large v) (h.below v) f ∙ sym (ap (has (choice part whole)) (place_out part.small part.large v e f))
  ]
]
  where
    outside : (w l : Bool) → (w ≡ true → l ≡ true) → l ≡ false → w ≡ false
    outside true l h e = absurd (let f = h refl in cc)
    outside false l h e = refl

choice_cut : (part : Between) (whole : List Bool) → IsNetworkCut (piece_of part) (choice part whole)
choice_cut part whole =
    let count = length_chosen part.small part.large whole part.net.nodes in
    record { full = omega (arith, count); with_source = refl; without_sink = refl }

-- a cut of the piece is told by its lift
same_at : (part : Between) (whole side other : List Bool) → AreNested part.net part.small part.large →
    IsNetworkCut (piece_of part) side → IsNetworkCut (piece_of part) other → IsLift part side whole → IsLift part other whole →
    (k : ℕ) → k < length other → has other k ≡ has side k
same_at part whole side other nested cut cut' lift lift' zero low = cut'.with_source ∙ sym cut.with_source
same_at part whole side other nested cut cut' lift lift' (suc zero) low = cut'.without_sink ∙ sym cut.without_sink
same_at part whole side other nested cut cut' lift lift' (suc (suc k)) low =
    let full = cut'.full in
    let found = has_place part.small part.large part.net.nodes k (omega (arith, full)) in
    let parts = inner_parts (has part.small found.node) (has part.large found.node) found.inner in
    let at : place part.small part.large found.node ≡ suc (suc k) =
    place_inner part.small part.large found.node parts.0 parts.1 ∙ (let e = found.place_is in omega (arith, e)) in
    ap (has other) (sym at) ∙ sym (lift'.each found.node found.low) ∙ lift.each found.node found.low ∙ ap (has side) at

pub between_is_lift : (part : Between) (whole : List Bool) → AreNested part.net part.small part.large → IsCutBetween part whole → IsLiftOfOne part whole
between_is_lift part whole nested h =
    let lift : IsLift part (choice part whole) whole = record { full = h.cut.full; each = choice_each part whole h } in
    record {
      side = choice part whole;
      cut = choice_cut part whole;
      lift = lift;
      only = λ other cut other_lift.
          ext_get_or false other (choice part whole) (cut.full ∙ sym (choice_cut part whole).full)
          (same_at part whole (choice part whole) other nested (choice_cut part whole) cut lift other_lift);
    }
