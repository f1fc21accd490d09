-- The node of a piece that stands for a node of the network.
use Rattle.std.proofs.Common.{◌≡◌, ◌≢◌, ℕ, zero, suc, ◌+◌, ◌<◌, ◌≤◌, List, refl, Bool, true, false, cond, not, ◌&&◌, arith, inl, inr}
use Rattle.std.proofs.lemmas.Bool.{cases_lt, cases_eq}
use Rattle.pf_model.specs.Cut.{has}
use Rattle.pf_piece.specs.Piece.{is_inner, inner_before, place}

more_step : (here : Bool) (a b : ℕ) → a ≤ b → a ≤ b + cond here 1 0
more_step here a b h = omega arith

pub inner_grows : (small large : List Bool) (u v : ℕ) → u ≤ v → inner_before small large u ≤ inner_before small large v
inner_grows small large u zero h = let e : u ≡ 0 = omega arith in rw e (omega arith)
inner_grows small large u (suc v) h = elim (cases_lt u (suc v)) [
  | inl less ↦ more_step (is_inner small large v) _ _ (inner_grows small large u v (omega arith))
  | inr more ↦ (let e : u ≡ suc v = omega arith in rw e (omega arith))
]

next_step : (here : Bool) (a : ℕ) → here ≡ true → a < a + cond here 1 0
next_step true a e = omega arith
next_step false a e = absurd cc

pub inner_below : (small large : List Bool) (v n : ℕ) → v < n → is_inner small large v ≡ true → inner_before small large v < inner_before small large n
inner_below small large v n low e =
    let next = next_step (is_inner small large v) (inner_before small large v) e in
    let rest = inner_grows small large (suc v) n (omega arith) in
    omega (arith, next, rest)

pub is_inner_from : (s l : Bool) → s ≡ false → l ≡ true → (not s && l) ≡ true
is_inner_from s l e f = rw (e, f) refl

below_step : (s l : Bool) (k n : ℕ) → (s ≡ false → l ≡ true → k < n) → cond s 0 (cond l (k + 2) 1) < n + 2
below_step true l k n h = omega arith
below_step false true k n h = let less = h refl refl in omega (arith, less)
below_step false false k n h = omega arith

-- it is one
pub place_below : (small large : List Bool) (v n : ℕ) → v < n → place small large v < inner_before small large n + 2
place_below small large v n low =
    below_step (has small v) (has large v) (inner_before small large v) (inner_before small large n)
    (λ e f. inner_below small large v n low (is_inner_from (has small v) (has large v) e f))

place_step : (s l b c : Bool) (k : ℕ) → s ≡ b → l ≡ c → cond s 0 (cond l (k + 2) 1) ≡ cond b 0 (cond c (k + 2) 1)
place_step s l b c k e f = rw (e, f) refl

pub place_in : (small large : List Bool) (v : ℕ) → has small v ≡ true → place small large v ≡ 0
place_in small large v e = place_step (has small v) (has large v) true (has large v) (inner_before small large v) e refl

pub place_out : (small large : List Bool) (v : ℕ) → has small v ≡ false → has large v ≡ false → place small large v ≡ 1
place_out small large v e f = place_step (has small v) (has large v) false false (inner_before small large v) e f

pub place_inner : (small large : List Bool) (v : ℕ) → has small v ≡ false → has large v ≡ true → place small large v ≡ inner_before small large v + 2
place_inner small large v e f = place_step (has small v) (has large v) false true (inner_before small large v) e f

-- inner nodes have places of their own, and there is one for each number below their count
same_step : (here : Bool) (a v : ℕ) → here ≡ false → a ≤ v → a + cond here 1 0 ≤ v
same_step true a v e h = absurd cc
same_step false a v e h = omega arith

one_step : (here : Bool) (a v : ℕ) → a ≤ v → a + cond here 1 0 ≤ suc v
one_step true a v h = omega arith
one_step false a v h = omega arith

pub few_inner : (small large : List Bool) (v : ℕ) → inner_before small large v ≤ v
few_inner small large zero = omega arith
few_inner small large (suc v) = one_step (is_inner small large v) _ v (few_inner small large v)

one_step_less : (here : Bool) (a v : ℕ) → a < v → a + cond here 1 0 < suc v
one_step_less true a v h = omega arith
one_step_less false a v h = omega arith

fewer_inner : (small large : List Bool) (s v : ℕ) → s < v → is_inner small large s ≡ false → inner_before small large v < v
fewer_inner small large s zero low e = absurd (omega arith)
fewer_inner small large s (suc v) low e = elim (cases_lt s v) [
  | inl less ↦ one_step_less (is_inner small large v) _ v (fewer_inner small large s v less e)
  | inr last ↦
      let same : s ≡ v = omega arith in
      let here : is_inner small large v ≡ false = rw same at e in
      let most = same_step (is_inner small large v) _ v here (few_inner small large v) in
      omega (arith, most)
]

same_step_less : (here : Bool) (a v : ℕ) → here ≡ false → a < v → a + cond here 1 0 < v
same_step_less true a v e h = absurd cc
same_step_less false a v e h = omega arith

one_step_two : (here : Bool) (a v : ℕ) → a + 2 ≤ v → a + cond here 1 0 + 2 ≤ suc v
one_step_two true a v h = omega arith
one_step_two false a v h = omega arith

rising_two : (small large : List Bool) (s t v : ℕ) → s < t → t < v → is_inner small large s ≡ false → is_inner small large t ≡ false →
    inner_before small large v + 2 ≤ v
rising_two small large s t zero order low e f = absurd (omega arith)
rising_two small large s t (suc v) order low e f = elim (cases_lt t v) [
  | inl less ↦ one_step_two (is_inner small large v) _ v (rising_two small large s t v order less e f)
  | inr last ↦
      let same : t ≡ v = omega arith in
      let here : is_inner small large v ≡ false = rw same at f in
      let most = same_step_less (is_inner small large v) _ v here (fewer_inner small large s v (omega (arith, same)) e) in
      omega (arith, most)
]

-- so where two nodes are not inner, the piece has no more nodes than the network
pub two_not_inner : (small large : List Bool) (s t n : ℕ) → s ≢ t → s < n → t < n → is_inner small large s ≡ false → is_inner small large t ≡ false →
    inner_before small large n + 2 ≤ n
two_not_inner small large s t n apart low low' e f = elim (cases_lt s t) [
  | inl less ↦ rising_two small large s t n less low' e f
  | inr more ↦ elim (cases_eq s t) [
    | inl same ↦ absurd (apart same)
    | inr other ↦ rising_two small large t s n (omega arith) low f e
  ]
]
