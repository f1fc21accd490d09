-- Slots as the code keeps them.
use Rattle.std.proofs.Common.{◌≡◌, ℕ, zero, suc, List, [], ◌∷◌, map, Bool, true, false, refl, ap, ◌∙◌, subst}
use Rattle.std.specs.Prelude.{ℤ, pos, replicate, slice_set}
use Rattle.std.proofs.lemmas.List.{map-set}
use Rattle.pf_graph.specs.Text.{SlotNumbers, ones, put_slot}

abbrev pub slot_numbers : List ℤ → List Bool → SlotNumbers
slot_numbers numbers given = record { numbers = numbers; given = given }

map_ones : (n : ℕ) → map pos (replicate n 1) ≡ replicate n (pos 1)
map_ones zero = refl
map_ones (suc n) = ap (λ l. pos 1 ∷ l) (map_ones n)

pub ones_are : (n : ℕ) (numbers : List ℕ) (given : List Bool) → numbers ≡ replicate n 1 → given ≡ replicate n false → slot_numbers (map pos numbers) given ≡ ones n
ones_are n numbers given e f = rw (e, f, map_ones n) refl

pub put_is : (numbers : List ℕ) (given : List Bool) (slots : SlotNumbers) (i x : ℕ) → slot_numbers (map pos numbers) given ≡ slots →
    slot_numbers (map pos (slice_set numbers i x)) (slice_set given i true) ≡ put_slot slots i (pos x)
put_is numbers given slots i x e =
    let P : SlotNumbers → Type 0 = λ s. slot_numbers (map pos (slice_set numbers i x)) (slice_set given i true) ≡ put_slot s i (pos x) in
    subst P e (ap (λ l. slot_numbers l (slice_set given i true)) (map-set pos numbers i x))
