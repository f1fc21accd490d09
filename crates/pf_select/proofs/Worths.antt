-- What charges prove of a selection's worth: it is at most the gains of all products less all charges, and where it is that, the parts
-- outside the selection and the products that it does not gain keep the rules of the dropped ones.
use Rattle.std.proofs.Common.{◌≡◌, ℕ, zero, suc, ◌<◌, List, [], ◌∷◌, length, get_or, refl, Bool, true, false, cond, not, ◌&&◌, ◌||◌, eqb, arith, ap, sym, ◌∙◌, inl, inr}
use Rattle.std.specs.Prelude.{ℤ, ◌+ℤ◌, ◌-ℤ◌, ◌*ℤ◌, ◌≤ℤ◌, pos, ◌==◌}
use Rattle.std.proofs.lemmas.Int.{ints}
use Rattle.std.proofs.lemmas.Bool.{cases_Bool, both_ways}
use Rattle.std.proofs.lemmas.Bool.Decides.{nat_tests}
use Rattle.pf_model.specs.Fraction.{Fraction}
use Rattle.pf_model.specs.Cut.{sum_where, at_arc, has}
use Rattle.pf_model.proofs.Integers.{mul_add}
use Rattle.pf_model.proofs.Sums.{sum_where_split, sum_where_most, sum_where_tight, sum_where_empty}
use Rattle.pf_model.proofs.Duality.{zeros, at_zeros, sum_zeros, zeros_full}
use Rattle.pf_select.specs.Problem.{SelectionProblem, IsSelectionProblem, product_at, part_at, is_gained, sum_of, gain_of, cost_of, worth}
use Rattle.pf_select.specs.Certificate.{charged_by, charged_on, AreCharges}
use Rattle.pf_select.specs.Reduction.{whole_gain}
use Rattle.pf_select.proofs.Grouping.{sum_below, IsMost, below_most, below_tight, below_same, below_times, sum_is_below, grouped, same_at}
use Rattle.pf_model.proofs.Facts.{not_false, not_true}

-- tests

-- a product that is gained has its parts in the selection
gained_first : (here rest : Bool) → (here && rest) ≡ true → (here ≡ true) × (rest ≡ true)
gained_first true true e = (refl, refl)
gained_first true false e = cc
gained_first false rest e = cc

need_held : (n j : ℕ) (held : Bool) → (not (eqb n j) || held) ≡ true → n ≡ j → held ≡ true
need_held n j held e same = let h : eqb n j ≡ true = grind (arith, nat_tests) in rw h at e

pub gained_holds : (needs : List (ℕ × ℕ)) (set : List Bool) (j : ℕ) → is_gained needs set j ≡ true → (k : ℕ) → k < length needs →
    (get_or needs k (0, 0)).0 ≡ j → has set (get_or needs k (0, 0)).1 ≡ true
gained_holds [] set j e k low same = absurd (omega (arith, low))
gained_holds (need ∷ needs) set j e zero low same =
    need_held need.0 j (has set need.1) (gained_first _ (is_gained needs set j) e).0 same
gained_holds (need ∷ needs) set j e (suc k) low same =
    gained_holds needs set j (gained_first (not (need.0 == j) || has set need.1) (is_gained needs set j) e).1 k (omega (arith, low)) same

-- and one that is not has a need whose part is not in it
pub record IsMissing (needs : List (ℕ × ℕ)) (set : List Bool) (j : ℕ) : Type 0 where
  pub need : ℕ
  pub there : need < length needs
  pub product : (get_or needs need (0, 0)).0 ≡ j
  pub out : has set (get_or needs need (0, 0)).1 ≡ false

missing_here : (n j : ℕ) (held : Bool) → (not (eqb n j) || held) ≡ false → (n ≡ j) × (held ≡ false)
missing_here n j held e = grind (arith, nat_tests)

missing_step : (need : ℕ × ℕ) (needs : List (ℕ × ℕ)) (set : List Bool) (j : ℕ) (here : Bool) → (not (eqb need.0 j) || has set need.1) ≡ here →
    (here && is_gained needs set j) ≡ false → (is_gained needs set j ≡ false → IsMissing needs set j) → IsMissing (need ∷ needs) set j
missing_step need needs set j true is e later =
    let m = later e in
    record { need = suc m.need; there = (let low = m.there in omega (arith, low)); product = m.product; out = m.out }
missing_step need needs set j false is e later =
    let h = missing_here need.0 j (has set need.1) is in
    record { need = 0; there = omega arith; product = h.0; out = h.1 }

pub missing : (needs : List (ℕ × ℕ)) (set : List Bool) (j : ℕ) → is_gained needs set j ≡ false → IsMissing needs set j
missing [] set j e = cc
missing (need ∷ needs) set j e = missing_step need needs set j _ refl e (missing needs set j)

pub gained_all : (needs : List (ℕ × ℕ)) (set : List Bool) (j : ℕ) →
    ((k : ℕ) → k < length needs → (get_or needs k (0, 0)).0 ≡ j → has set (get_or needs k (0, 0)).1 ≡ true) → is_gained needs set j ≡ true
gained_all needs set j h = elim (cases_Bool (is_gained needs set j)) [
  | inl e ↦ e
  | inr e ↦ (let m = missing needs set j e in absurd (both_ways _ m.out (h m.need m.there m.product)))
]

-- sums

abbrev pub lost : SelectionProblem → List Bool → ℕ → Bool
lost p set j = not (is_gained p.needs set j)

-- all charges, those on parts of the selection, those on others, those of products that it does not gain, and of these the ones on
-- parts of the selection
abbrev pub all_charges : SelectionProblem → List ℤ → ℤ
all_charges p charges = sum_where (λ need. true) p.needs charges

abbrev on_held : SelectionProblem → List ℤ → List Bool → ℤ
on_held p charges set = sum_where (λ need. has set need.1) p.needs charges

abbrev on_others : SelectionProblem → List ℤ → List Bool → ℤ
on_others p charges set = sum_where (λ need. not (has set need.1)) p.needs charges

abbrev by_lost : SelectionProblem → List ℤ → List Bool → ℤ
by_lost p charges set = sum_where (λ need. lost p set need.0) p.needs charges

abbrev idle : SelectionProblem → List Bool → ℕ × ℕ → Bool
idle p set need = lost p set need.0 && has set need.1

abbrev by_idle : SelectionProblem → List ℤ → List Bool → ℤ
by_idle p charges set = sum_where (idle p set) p.needs charges

-- the gains of the products that it does not gain
abbrev lost_gain : SelectionProblem → List Bool → ℤ
lost_gain p set = sum_of (lost p set) p.gains

-- what no selection is worth more than
abbrev pub bound_of : SelectionProblem → Fraction → List ℤ → ℤ
bound_of p x charges = (x.q *ℤ whole_gain p) -ℤ all_charges p charges

both_gains : (b : Bool) (x : ℤ) → x ≡ cond b x (pos 0) +ℤ cond (not b) x (pos 0)
both_gains true x = omega (arith, ints)
both_gains false x = omega (arith, ints)

pub gains_split : (test : ℕ → Bool) (xs : List ℤ) → sum_of (λ j. true) xs ≡ sum_of test xs +ℤ sum_of (λ j. not (test j)) xs
gains_split test [] = refl
gains_split test (x ∷ xs) =
    let here = both_gains (test 0) x in
    let rest = gains_split (λ j. test (suc j)) xs in
    omega (arith, ints, here, rest)

charges_split : (p : SelectionProblem) (charges : List ℤ) (set : List Bool) → all_charges p charges ≡ on_held p charges set +ℤ on_others p charges set
charges_split p charges set = sum_where_split (λ need. true) (λ need. has set need.1) p.needs charges

-- a need with its part outside is one of a product that is not gained
out_is_lost : (p : SelectionProblem) (set : List Bool) (k : ℕ) → k < length p.needs →
    (lost p set (product_at p k) && not (has set (part_at p k))) ≡ not (has set (part_at p k))
out_is_lost p set k low = elim (cases_Bool (has set (part_at p k))) [
  | inl held ↦ rw held (never (lost p set (product_at p k)))
  | inr out ↦ elim (cases_Bool (is_gained p.needs set (product_at p k))) [
    | inl gained ↦ absurd (both_ways _ out (gained_holds p.needs set (product_at p k) gained k low refl))
    | inr e ↦ rw (e, out) refl
  ]
]
  where
    never : (b : Bool) → (b && false) ≡ false
    never true = refl
    never false = refl

lost_split : (p : SelectionProblem) (charges : List ℤ) (set : List Bool) → by_lost p charges set ≡ by_idle p charges set +ℤ on_others p charges set
lost_split p charges set =
    let e = sum_where_split (λ need. lost p set need.0) (λ need. has set need.1) p.needs charges in
    let same = same_at (λ need. lost p set need.0 && not (has set need.1)) (λ need. not (has set need.1)) p.needs charges (out_is_lost p set) in
    omega (arith, ints, e, same)

-- the charges on parts of the selection, part by part, and those of products that it does not gain, product by product

abbrev picked : (ℕ → Bool) → (ℕ → ℤ) → ℕ → ℤ
picked test f i = cond (test i) (f i) (pos 0)

held_by_part : (p : SelectionProblem) (charges : List ℤ) (set : List Bool) → IsSelectionProblem p →
    on_held p charges set ≡ sum_below (picked (has set) (charged_on p charges)) (length p.costs)
held_by_part p charges set problem = grouped (λ need. need.1) (has set) p.needs charges (length p.costs) problem.part

lost_by_product : (p : SelectionProblem) (charges : List ℤ) (set : List Bool) → IsSelectionProblem p →
    by_lost p charges set ≡ sum_below (picked (lost p set) (charged_by p charges)) (length p.gains)
lost_by_product p charges set problem = grouped (λ need. need.0) (lost p set) p.needs charges (length p.gains) problem.product

-- the scaled numbers likewise
picked_times : (test : Bool) (k x : ℤ) → cond test (k *ℤ x) (pos 0) ≡ k *ℤ cond test x (pos 0)
picked_times true k x = refl
picked_times false k x = omega (arith, ints)

scaled_sum : (k : ℤ) (test : ℕ → Bool) (xs : List ℤ) → sum_below (picked test (λ i. k *ℤ at_arc xs i)) (length xs) ≡ k *ℤ sum_of test xs
scaled_sum k test xs =
    below_same (picked test (λ i. k *ℤ at_arc xs i)) (λ i. k *ℤ picked test (at_arc xs) i) (length xs) (λ i low. picked_times (test i) k (at_arc xs i))
    ∙ below_times k (picked test (at_arc xs)) (length xs) ∙ ap (λ n. k *ℤ n) (sym (sum_is_below test xs))

picked_most : (test : Bool) (x y : ℤ) → x ≤ℤ y → cond test x (pos 0) ≤ℤ cond test y (pos 0)
picked_most true x y h = h
picked_most false x y h = omega (arith, ints)

picked_tight : (test : Bool) (x y : ℤ) → cond test y (pos 0) ≤ℤ cond test x (pos 0) → test ≡ true → y ≤ℤ x
picked_tight true x y h e = h
picked_tight false x y h e = cc

picked_least : (test : Bool) (x y : ℤ) → (test ≡ true → y ≤ℤ x) → cond test y (pos 0) ≤ℤ cond test x (pos 0)
picked_least true x y h = h refl
picked_least false x y h = omega (arith, ints)

module _ (p : SelectionProblem) (x : Fraction) (charges : List ℤ) (set : List Bool) (problem : IsSelectionProblem p) (c : AreCharges p x charges) where
  parts_most : IsMost (picked (has set) (charged_on p charges)) (picked (has set) (λ i. x.p *ℤ at_arc p.costs i)) (length p.costs)
  parts_most i low = picked_most (has set i) (charged_on p charges i) (x.p *ℤ at_arc p.costs i) (c.part_high i low)

  products_most : IsMost (picked (lost p set) (charged_by p charges)) (picked (lost p set) (λ j. x.q *ℤ at_arc p.gains j)) (length p.gains)
  products_most j low = picked_most (lost p set j) (charged_by p charges j) (x.q *ℤ at_arc p.gains j) (c.product_high j low)

  -- the three gaps
  held_most : on_held p charges set ≤ℤ (x.p *ℤ cost_of p set)
  held_most =
      let most = below_most _ _ (length p.costs) parts_most in
      let e = held_by_part p charges set problem in
      let f = scaled_sum x.p (has set) p.costs in
      omega (arith, ints, most, e, f)

  lost_most : by_lost p charges set ≤ℤ (x.q *ℤ lost_gain p set)
  lost_most =
      let most = below_most _ _ (length p.gains) products_most in
      let e = lost_by_product p charges set problem in
      let f = scaled_sum x.q (lost p set) p.gains in
      omega (arith, ints, most, e, f)

  idle_low : pos 0 ≤ℤ by_idle p charges set
  idle_low =
      let low = sum_where_most (idle p set) p.needs [] charges (λ k h. c.low k h.in_range) in
      omega (arith, ints, low, sum_where_empty (idle p set) p.needs)

  -- the worth falls short of the bound by them
  gap_is : bound_of p x charges -ℤ worth p x set
      ≡ (((x.p *ℤ cost_of p set) -ℤ on_held p charges set) +ℤ by_idle p charges set)
      +ℤ ((x.q *ℤ lost_gain p set) -ℤ by_lost p charges set)
  gap_is =
      let e = charges_split p charges set in
      let f = lost_split p charges set in
      let g = ap (λ n. x.q *ℤ n) (gains_split (is_gained p.needs set) p.gains) ∙ mul_add x.q (gain_of p set) (lost_gain p set) in
      omega (arith, ints, e, f, g)

  pub worth_most : worth p x set ≤ℤ bound_of p x charges
  worth_most = omega (arith, ints, gap_is, held_most, lost_most, idle_low)

-- no gap: each part of the selection is charged its whole price, and each product that it does not gain charges its whole gain, nothing
-- of it on parts of the selection
pub record IsTightSelection (p : SelectionProblem) (x : Fraction) (charges : List ℤ) (set : List Bool) : Type 0 where
  pub parts : (i : ℕ) → i < length p.costs → has set i ≡ true → (x.p *ℤ at_arc p.costs i) ≤ℤ charged_on p charges i
  pub products : (j : ℕ) → j < length p.gains → is_gained p.needs set j ≡ false → (x.q *ℤ at_arc p.gains j) ≤ℤ charged_by p charges j
  pub idle_needs : (k : ℕ) → k < length p.needs → is_gained p.needs set (product_at p k) ≡ false → has set (part_at p k) ≡ true →
      at_arc charges k ≤ℤ pos 0

idle_both : (a b : Bool) → a ≡ false → b ≡ true → (not a && b) ≡ true
idle_both a b e f = rw (e, f) refl

idle_parts : (a b : Bool) → (not a && b) ≡ true → (a ≡ false) × (b ≡ true)
idle_parts true b e = cc
idle_parts false true e = (refl, refl)
idle_parts false false e = cc

pub tight_is_best : (p : SelectionProblem) (x : Fraction) (charges : List ℤ) (set : List Bool) → IsSelectionProblem p → AreCharges p x charges →
    IsTightSelection p x charges set → bound_of p x charges ≤ℤ worth p x set
tight_is_best p x charges set problem c t =
    let parts = below_most (picked (has set) (λ i. x.p *ℤ at_arc p.costs i)) (picked (has set) (charged_on p charges)) (length p.costs)
    (λ i low. picked_least (has set i) (charged_on p charges i) (x.p *ℤ at_arc p.costs i) (t.parts i low)) in
    let products = below_most (picked (lost p set) (λ j. x.q *ℤ at_arc p.gains j)) (picked (lost p set) (charged_by p charges)) (length p.gains)
    (λ j low. picked_least (lost p set j) (charged_by p charges j) (x.q *ℤ at_arc p.gains j)
    (λ e. t.products j low (not_true (is_gained p.needs set j) e))) in
    let none = sum_where_most (idle p set) p.needs charges []
    (λ k h. let e = idle_parts (is_gained p.needs set (product_at p k)) (has set (part_at p k)) h.passes in t.idle_needs k h.in_range e.0 e.1) in
    omega (
      arith,
      ints,
      gap_is p x charges set problem c,
      parts,
      products,
      none,
      held_by_part p charges set problem,
      lost_by_product p charges set problem,
      scaled_sum x.p (has set) p.costs,
      scaled_sum x.q (lost p set) p.gains,
      sum_where_empty (idle p set) p.needs,
    )

pub best_is_tight : (p : SelectionProblem) (x : Fraction) (charges : List ℤ) (set : List Bool) → IsSelectionProblem p → AreCharges p x charges →
    bound_of p x charges ≤ℤ worth p x set → IsTightSelection p x charges set
best_is_tight p x charges set problem c best =
    let gap = gap_is p x charges set problem c in
    let held = held_most p x charges set problem c in
    let gained = lost_most p x charges set problem c in
    let low = idle_low p x charges set problem c in
    let e = held_by_part p charges set problem in
    let f = lost_by_product p charges set problem in
    let g = scaled_sum x.p (has set) p.costs in
    let h = scaled_sum x.q (lost p set) p.gains in
    record {
      parts = λ i less held_i. picked_tight (has set i) (charged_on p charges i) (x.p *ℤ at_arc p.costs i)
          (below_tight _ _ (length p.costs) (parts_most p x charges set problem c) (omega (arith, ints, best, gap, held, gained, low, e, g)) i less) held_i;
      products = λ j less lost_j. picked_tight (lost p set j) (charged_by p charges j) (x.q *ℤ at_arc p.gains j)
          (below_tight _ _ (length p.gains) (products_most p x charges set problem c) (omega (arith, ints, best, gap, held, gained, low, f, h)) j less)
          (not_false (is_gained p.needs set j) lost_j);
      idle_needs = λ k less out held_k.
          let t = sum_where_tight (idle p set) p.needs (zeros p.needs) charges (zeros_full p.needs) c.full
          (λ i w. rw at_zeros (c.low i w.in_range))
          (omega (arith, ints, best, gap, held, gained, low, sum_zeros (idle p set) p.needs)) k
          (record { in_range = less; passes = idle_both (is_gained p.needs set (product_at p k)) (has set (part_at p k)) out held_k }) in
          omega (arith, ints, t, at_zeros p.needs k);
    }
