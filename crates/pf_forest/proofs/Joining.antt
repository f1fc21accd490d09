-- Groups that are joined with a tight side which they meet.
use Rattle.std.proofs.Common.{◌≡◌, ◌≢◌, ℕ, zero, suc, ◌<◌, ◌≤◌, List, length, refl, Bool, true, false, cond, eqb, ◌&&◌, ◌||◌, arith, ap, sym, ◌∙◌, inl, inr}
use Rattle.std.specs.Prelude.{ℤ, ◌≤ℤ◌, pos, ◌==◌, ◌⊎◌}
use Rattle.std.proofs.lemmas.Bool.{both_ways, cases_eq, cases_Bool, eq-eqb, eqb-true, ne_eqb}
use Rattle.pf_model.specs.Cut.{has, at_arc, union}
use Rattle.pf_model.specs.Digraph.{Digraph}
use Rattle.pf_model.proofs.Balance.{inside}
use Rattle.pf_model.proofs.Exchange.{has-union, length-union}
use Rattle.pf_graph.specs.Labels.{label, occurs, part, Refines}
use Rattle.pf_graph.proofs.Classes.{has-part, length-part}
use Rattle.pf_graph.proofs.Counting.{label_occurs, occurs_find, same_bool}
use Rattle.pf_forest.specs.Forest.{IsSparse}
use Rattle.pf_forest.specs.Filling.{IsTight, IsJoined, touches}
use Rattle.pf_forest.proofs.Sparse.{same_tight, tight_union}
use Rattle.pf_model.proofs.Facts.{or_left, or_right}

-- the side together with the groups of its vertices below k
abbrev grown : List Bool → List ℕ → ℕ → List Bool
grown side groups zero = side
grown side groups (suc k) = cond (has side k) (union (grown side groups k) (part groups (label groups k))) (grown side groups k)

length_cond : (here : Bool) (xs ys : List Bool) (n : ℕ) → length xs ≡ n → length ys ≡ n → length (cond here xs ys) ≡ n
length_cond true xs ys n a b = a
length_cond false xs ys n a b = b

length-grown : (side : List Bool) (groups : List ℕ) → length side ≡ length groups → (k : ℕ) → length (grown side groups k) ≡ length side
length-grown side groups full zero = refl
length-grown side groups full (suc k) =
    let rest = length-grown side groups full k in
    length_cond (has side k) _ _ (length side)
    (length-union (grown side groups k) (part groups (label groups k)) (rest ∙ full ∙ sym (length-part groups (label groups k))) ∙ rest) rest

or_more : (p q r s : Bool) → p ≡ (q || r) → (p || s) ≡ (q || (s || r))
or_more p true r true e = rw e refl
or_more p true r false e = rw e refl
or_more p false true true e = rw e refl
or_more p false true false e = rw e refl
or_more p false false true e = rw e refl
or_more p false false false e = rw e refl

grown_step : (here : Bool) (bigger same : List Bool) (w : ℕ) (q r s p : Bool) → has bigger w ≡ (p || s) → has same w ≡ p → p ≡ (q || r) →
    has (cond here bigger same) w ≡ (q || ((here && s) || r))
grown_step true bigger same w q r s p a b c = a ∙ or_more p q r s c
grown_step false bigger same w q r s p a b c = b ∙ c

eqb_sym : (x y : ℕ) → eqb x y ≡ eqb y x
eqb_sym x y = same_bool (eqb x y) (eqb y x) (λ e. eq-eqb y x (sym (eqb-true x y e))) (λ e. eq-eqb x y (sym (eqb-true y x e)))

has-grown : (side : List Bool) (groups : List ℕ) → length side ≡ length groups → (w : ℕ) → w < length groups → (k : ℕ) →
    has (grown side groups k) w ≡ (has side w || touches side groups k (label groups w))
has-grown side groups full w low zero = or_none (has side w)
  where
    or_none : (p : Bool) → p ≡ (p || false)
    or_none true = refl
    or_none false = refl
has-grown side groups full w low (suc k) =
    grown_step (has side k) (union (grown side groups k) (part groups (label groups k))) (grown side groups k) w (has side w) (touches side groups k (label groups w))
    (label groups k == label groups w) (has (grown side groups k) w)
    (has-union (grown side groups k) (part groups (label groups k)) w
    ∙ ap (λ b. has (grown side groups k) w || b) (has-part groups (label groups k) w low ∙ eqb_sym (label groups w) (label groups k)))
    refl (has-grown side groups full w low k)

-- each step keeps the side tight
cond_tight : (g : Digraph) (limit : ℤ) (vector : List ℤ) (here : Bool) (bigger same : List Bool) → (here ≡ true → IsTight g limit vector bigger) → IsTight g limit vector same →
    IsTight g limit vector (cond here bigger same)
cond_tight g limit vector true bigger same a b = a refl
cond_tight g limit vector false bigger same a b = b

grown_tight : (g : Digraph) (limit : ℤ) (vector : List ℤ) (groups : List ℕ) (side : List Bool) → IsSparse g limit vector →
    ((i : ℕ) → i < length g.ends → pos 0 ≤ℤ at_arc vector i) → length groups ≡ g.nodes → length side ≡ g.nodes →
    ((a : ℕ) → occurs a groups ≡ true → IsTight g limit vector (part groups a)) → IsTight g limit vector side → (k : ℕ) → k ≤ g.nodes →
    IsTight g limit vector (grown side groups k)
grown_tight g limit vector groups side sparse low full full' tight here zero most = here
grown_tight g limit vector groups side sparse low full full' tight here (suc k) most =
    let same = full' ∙ sym full in
    let there : k < length groups = omega (arith, most, full) in
    let rest = grown_tight g limit vector groups side sparse low full full' tight here k (omega (arith, most)) in
    cond_tight g limit vector (has side k) _ _
    (λ marked.
    let in_part : has (part groups (label groups k)) k ≡ true = has-part groups (label groups k) k there ∙ eq-eqb _ _ refl in
    let in_side : has (grown side groups k) k ≡ true = has-grown side groups same k there k ∙ or_left (has side k) _ marked in
    tight_union g limit vector (grown side groups k) (part groups (label groups k)) k sparse low (length-grown side groups same k ∙ full')
    (length-part groups (label groups k) ∙ full) in_side in_part rest (tight (label groups k) (label_occurs (label groups k) groups k there refl)))
    rest

-- a vertex of the side touches its group
pub touches_own : (side : List Bool) (groups : List ℕ) (w : ℕ) → has side w ≡ true → (k : ℕ) → w < k → touches side groups k (label groups w) ≡ true
touches_own side groups w h zero low = absurd (omega (arith, low))
touches_own side groups w h (suc k) low = elim (cases_eq w k) [
  | inl here ↦ or_left _ (touches side groups k (label groups w)) (rw (← here, h) (eq-eqb _ _ refl))
  | inr other ↦ or_right (has side k && (label groups k == label groups w)) _ (touches_own side groups w h k (omega (arith, low, other)))
]

or_same : (p q : Bool) → (p ≡ true → q ≡ true) → (p || q) ≡ q
or_same true q h = sym (h refl)
or_same false q h = refl

-- the whole: exactly the vertices whose groups the side touches
has-whole : (side : List Bool) (groups : List ℕ) (n w : ℕ) → length side ≡ length groups → length groups ≡ n → w < n →
    has (grown side groups n) w ≡ touches side groups n (label groups w)
has-whole side groups n w full full' low =
    has-grown side groups full w (omega (arith, low, full')) n ∙ or_same (has side w) _ (λ h. touches_own side groups w h n low)

has_past : (side : List Bool) (v : ℕ) → length side ≤ v → has side v ≡ false
has_past side v past = elim (cases_Bool (has side v)) [
  | inl h ↦ absurd (let low = inside side v h in omega (arith, low, past))
  | inr out ↦ out
]

cases_less : (v n : ℕ) → (v < n) ⊎ (n ≤ v)
cases_less v zero = inr (omega arith)
cases_less zero (suc n) = inl (omega arith)
cases_less (suc v) (suc n) = elim (cases_less v n) [ inl less ↦ inl (omega (arith, less)) | inr past ↦ inr (omega (arith, past)) ]

-- after the joining, the part of the common label is the whole, and each other part is as it was
joined_label : (joins : Bool) (to x y : ℕ) → y ≡ cond joins to x → (joins ≡ true → y ≡ to) × (joins ≡ false → y ≡ x)
joined_label true to x y e = (λ _. e, λ f. cc)
joined_label false to x y e = (λ f. cc, λ _. e)

pub join_tight : (g : Digraph) (limit : ℤ) (vector : List ℤ) (groups groups' : List ℕ) (side : List Bool) (u : ℕ) → IsSparse g limit vector →
    ((i : ℕ) → i < length g.ends → pos 0 ≤ℤ at_arc vector i) → length groups ≡ g.nodes → length side ≡ g.nodes →
    ((a : ℕ) → occurs a groups ≡ true → IsTight g limit vector (part groups a)) → IsTight g limit vector side → has side u ≡ true → u < g.nodes →
    IsJoined side groups (label groups u) groups' →
    (a : ℕ) → occurs a groups' ≡ true → IsTight g limit vector (part groups' a)
join_tight g limit vector groups groups' side u sparse low full full' tight here marked low_u j a some =
    let n : ℕ = g.nodes in
    let to : ℕ = label groups u in
    let same : length side ≡ length groups = full' ∙ sym full in
    let new_full : length groups' ≡ n = j.full ∙ full in
    let touched : touches side groups n to ≡ true = touches_own side groups u marked n low_u in
    let new_label : (w : ℕ) → w < n → label groups' w ≡ cond (touches side groups n (label groups w)) to (label groups w) =
    λ w low_w. rw (← full) (j.joined w (omega (arith, low_w, full))) in
    elim (cases_eq a to) [
      | inl common ↦
          rw common (same_tight g limit vector (grown side groups n) (part groups' to)
          (length-grown side groups same n ∙ full' ∙ sym (length-part groups' to ∙ new_full))
          (λ w. elim (cases_less w n) [
            | inr past ↦
                has_past _ w (omega (arith, past, length-grown side groups same n, full')) ∙ sym (has_past _ w (omega (arith, past, length-part groups' to, new_full)))
            | inl low_w ↦
                has-whole side groups n w same full low_w
                ∙ whole_step (touches side groups n (label groups w)) to (label groups w) (label groups' w) (new_label w low_w)
                (λ e. ap (touches side groups n) e ∙ touched)
                ∙ sym (has-part groups' to w (omega (arith, low_w, new_full)))
          ])
          (grown_tight g limit vector groups side sparse low full full' tight here n (omega arith)))
      | inr other ↦
          let f = occurs_find a groups' some in
          let low_f : f.vertex < n = omega (arith, f.in_range, new_full) in
          let l = joined_label (touches side groups n (label groups f.vertex)) to (label groups f.vertex) (label groups' f.vertex) (new_label f.vertex low_f) in
          let free : touches side groups n (label groups f.vertex) ≡ false =
          elim (cases_Bool (touches side groups n (label groups f.vertex))) [ inl yes' ↦ absurd (other (sym f.label_is ∙ l.0 yes')) | inr off ↦ off ] in
          let was : label groups f.vertex ≡ a = sym (l.1 free) ∙ f.label_is in
          let free_a : touches side groups n a ≡ false = ap (touches side groups n) (sym was) ∙ free in
          same_tight g limit vector (part groups a) (part groups' a) (length-part groups a ∙ full ∙ sym (length-part groups' a ∙ new_full))
          (λ w. elim (cases_less w n) [
            | inr past ↦
                has_past _ w (omega (arith, past, length-part groups a, full)) ∙ sym (has_past _ w (omega (arith, past, length-part groups' a, new_full)))
            | inl low_w ↦
                has-part groups a w (omega (arith, low_w, full))
                ∙ other_step (touches side groups n (label groups w)) to (label groups w) (label groups' w) a (new_label w low_w)
                (λ e. ap (touches side groups n) e ∙ free_a) other
                ∙ sym (has-part groups' a w (omega (arith, low_w, new_full)))
          ])
          (tight a (label_occurs a groups f.vertex (omega (arith, low_f, full)) was))
    ]
  where
    whole_step : (joins : Bool) (to x y : ℕ) → y ≡ cond joins to x → (x ≡ to → joins ≡ true) → joins ≡ eqb y to
    whole_step true to x y e h = sym (eq-eqb y to e)
    whole_step false to x y e h = sym (ne_eqb y to (λ same. both_ways _ refl (h (sym e ∙ same))))

    other_step : (joins : Bool) (to x y a : ℕ) → y ≡ cond joins to x → (x ≡ a → joins ≡ false) → a ≢ to → eqb x a ≡ eqb y a
    other_step false to x y a e h off = ap (λ z. eqb z a) (sym e)
    other_step true to x y a e h off =
        ne_eqb x a (λ same. both_ways _ (h same) refl) ∙ sym (ne_eqb y a (λ same. off (sym same ∙ e)))

-- vertices of one group stay so
pub join_refines : (groups groups' : List ℕ) (side : List Bool) (to n : ℕ) → length groups ≡ n → IsJoined side groups to groups' → Refines n groups groups'
join_refines groups groups' side to n full j = record {
  joins = λ u v low_u low_v same.
      j.joined u (omega (arith, low_u, full)) ∙ ap (λ x. cond (touches side groups (length groups) x) to x) same ∙ sym (j.joined v (omega (arith, low_v, full)));
}

-- and those of the side come together
pub join_meets : (groups groups' : List ℕ) (side : List Bool) (to n w : ℕ) → length groups ≡ n → IsJoined side groups to groups' → has side w ≡ true → w < n → label groups' w ≡ to
join_meets groups groups' side to n w full j h low =
    j.joined w (omega (arith, low, full)) ∙ ap (λ b. cond b to (label groups w)) (touches_own side groups w h (length groups) (omega (arith, low, full)))

cond_low : (here : Bool) (x y n : ℕ) → x < n → y < n → cond here x y < n
cond_low true x y n a b = a
cond_low false x y n a b = b

pub join_low : (groups groups' : List ℕ) (side : List Bool) (to n : ℕ) → length groups ≡ n → IsJoined side groups to groups' → to < n →
    ((v : ℕ) → v < n → label groups v < n) → (v : ℕ) → v < n → label groups' v < n
join_low groups groups' side to n full j low h v low_v =
    rw (j.joined v (omega (arith, low_v, full))) (cond_low (touches side groups (length groups) (label groups v)) to (label groups v) n low (h v low_v))
