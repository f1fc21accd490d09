-- Bases by their cuts: an exchange keeps them, and which sides an edge crosses.
use Rattle.std.proofs.Common.{◌≡◌, ◌≢◌, ℕ, zero, suc, ◌+◌, ◌<◌, ◌≤◌, refl, Bool, true, false, not, ◌&&◌, ltb, arith, ap, sym, ◌∙◌, inl, inr}
use Rattle.std.specs.Prelude.{◌==◌}
use Rattle.std.proofs.lemmas.Bool.{cases_eq}
use Rattle.std.proofs.lemmas.Bool.Decides.{nat_tests}
use Rattle.pf_trees.specs.Sides.{differ, separates}
use Rattle.pf_trees.specs.State.{IsBasis}

-- one side added to another, where a test holds
abbrev pub sum : (ℕ → Bool) → (ℕ → Bool) → Bool → ℕ → Bool
sum side other b v = differ (side v) (other v && b)

pub sum_crosses_at : (a b c d e : Bool) → differ (differ a (c && e)) (differ b (d && e)) ≡ differ (differ a b) (differ c d && e)
sum_crosses_at a b c d true = grind arith
sum_crosses_at a b c d false = grind arith

pub sum_crosses : (side other : ℕ → Bool) (b : Bool) (edge : ℕ × ℕ) → separates (sum side other b) edge ≡ differ (separates side edge) (separates other edge && b)
sum_crosses side other b edge = sum_crosses_at (side edge.0) (side edge.1) (other edge.0) (other edge.1) b

-- a side that is the same at both ends is crossed alike
pub crosses_same : (side other : ℕ → Bool) (edge : ℕ × ℕ) → side edge.0 ≡ other edge.0 → side edge.1 ≡ other edge.1 → separates side edge ≡ separates other edge
crosses_same side other edge a b = rw (a, b) refl

pub not_crossed : (side : ℕ → Bool) (edge : ℕ × ℕ) → side edge.0 ≡ side edge.1 → separates side edge ≡ false
not_crossed side edge e = rw e (differ_self (side edge.1))
  where
    differ_self : (b : Bool) → differ b b ≡ false
    differ_self true = refl
    differ_self false = refl

pub crossed_not : (side : ℕ → Bool) (edge : ℕ × ℕ) → separates side edge ≡ false → side edge.0 ≡ side edge.1
crossed_not side edge e = differ_none (side edge.0) (side edge.1) e
  where
    differ_none : (a b : Bool) → differ a b ≡ false → a ≡ b
    differ_none true true e = refl
    differ_none true false e = absurd cc
    differ_none false true e = absurd cc
    differ_none false false e = refl

-- the slots of a tree as an edge takes slot t, whose cut it crosses: the cut of t is added to the others that the edge crosses
pub record IsExchange (n lo w : ℕ) (pair pair' : ℕ → ℕ × ℕ) (cut cut' : ℕ → ℕ → Bool) (t : ℕ) (edge : ℕ × ℕ) : Type 0 where
  pub low : lo ≤ t
  pub high : t < lo + w
  pub first : edge.0 < n
  pub second : edge.1 < n
  pub crossing : separates (cut t) edge ≡ true
  pub here : pair' t ≡ edge
  pub others : (s : ℕ) → s ≢ t → pair' s ≡ pair s
  pub cuts : (s v : ℕ) → lo ≤ s → s < lo + w → v < n → cut' s v ≡ sum (cut s) (cut t) (not (s == t) && separates (cut s) edge) v

-- how the new cuts are crossed
exchange_crosses : (n lo w : ℕ) (pair pair' : ℕ → ℕ × ℕ) (cut cut' : ℕ → ℕ → Bool) (t : ℕ) (edge : ℕ × ℕ) → IsExchange n lo w pair pair' cut cut' t edge →
    (s : ℕ) (other : ℕ × ℕ) → lo ≤ s → s < lo + w → other.0 < n → other.1 < n →
    separates (cut' s) other ≡ differ (separates (cut s) other) (separates (cut t) other && (not (s == t) && separates (cut s) edge))
exchange_crosses n lo w pair pair' cut cut' t edge x s other low high a b =
    crosses_same (cut' s) (sum (cut s) (cut t) (not (s == t) && separates (cut s) edge)) other (x.cuts s other.0 low high a) (x.cuts s other.1 low high b)
    ∙ sum_crosses (cut s) (cut t) (not (s == t) && separates (cut s) edge) other

dual_here : (r t : ℕ) (c : Bool) → (r ≡ t → c ≡ true) → differ c (true && (not (r == t) && c)) ≡ (t == r)
dual_here r t true h = grind (arith, nat_tests)
dual_here r t false h = grind (arith, nat_tests)

dual_other : (s r t : ℕ) (b : Bool) → s ≢ t → differ (s == r) ((s == t) && b) ≡ (s == r)
dual_other s r t true ne = grind (arith, nat_tests)
dual_other s r t false ne = grind (arith, nat_tests)

exchange_dual : (n lo w : ℕ) (pair pair' : ℕ → ℕ × ℕ) (cut cut' : ℕ → ℕ → Bool) (t : ℕ) (edge : ℕ × ℕ) → IsBasis n lo w pair cut → IsExchange n lo w pair pair' cut cut' t edge →
    (s r : ℕ) → lo ≤ s → s < lo + w → lo ≤ r → r < lo + w → separates (cut' r) (pair' s) ≡ (s == r)
exchange_dual n lo w pair pair' cut cut' t edge b x s r ls hs lr hr = elim (cases_eq s t) [
  | inl e ↦
      let p : pair' s ≡ edge = ap pair' e ∙ x.here in
      rw (p, exchange_crosses n lo w pair pair' cut cut' t edge x r edge lr hr x.first x.second, x.crossing, e)
      (dual_here r t (separates (cut r) edge) (λ same. ap (λ k. separates (cut k) edge) same ∙ x.crossing))
  | inr ne ↦
      rw (
        x.others s ne,
        exchange_crosses n lo w pair pair' cut cut' t edge x r (pair s) lr hr (b.first s ls hs) (b.second s ls hs),
        b.dual s r ls hs lr hr,
        b.dual s t ls hs x.low x.high,
      )
      (dual_other s r t (not (r == t) && separates (cut r) edge) ne)
]

spans_step : (s t : ℕ) (c d : Bool) → (s ≢ t → c ≡ false) → (s ≡ t → c ≡ d) → differ c ((s == t) && d) ≡ false
spans_step s t true true a b = grind (arith, nat_tests)
spans_step s t true false a b = grind (arith, nat_tests)
spans_step s t false true a b = grind (arith, nat_tests)
spans_step s t false false a b = grind (arith, nat_tests)

spans_last : (a b : Bool) → a ≡ false → differ a b ≡ false → b ≡ false
spans_last true b e f = absurd cc
spans_last false b e f = f

add_none : (a b c : Bool) → c ≡ false → differ a (b && c) ≡ a
add_none true true c e = rw e refl
add_none true false c e = refl
add_none false true c e = rw e refl
add_none false false c e = refl

exchange_spans : (n lo w : ℕ) (pair pair' : ℕ → ℕ × ℕ) (cut cut' : ℕ → ℕ → Bool) (t : ℕ) (edge : ℕ × ℕ) → IsBasis n lo w pair cut → IsExchange n lo w pair pair' cut cut' t edge →
    (side : ℕ → Bool) → ((s : ℕ) → lo ≤ s → s < lo + w → separates side (pair' s) ≡ false) → (u v : ℕ) → u < n → v < n → side u ≡ side v
exchange_spans n lo w pair pair' cut cut' t edge b x side h u v hu hv =
    let d : Bool = separates side (pair t) in
    let new : ℕ → Bool = sum side (cut t) d in
    let none : (s : ℕ) → lo ≤ s → s < lo + w → separates new (pair s) ≡ false = λ s low high.
    rw (sum_crosses side (cut t) d (pair s), b.dual s t low high x.low x.high)
    (spans_step s t (separates side (pair s)) d (λ ne. ap (separates side) (sym (x.others s ne)) ∙ h s low high) (λ e. ap (λ k. separates side (pair k)) e)) in
    let flat : (u v : ℕ) → u < n → v < n → new u ≡ new v = b.spans new none in
    let not_edge : separates side edge ≡ false = ap (separates side) (sym x.here) ∙ h t x.low x.high in
    let all : differ (separates side edge) (separates (cut t) edge && d) ≡ false =
    sym (sum_crosses side (cut t) d edge) ∙ not_crossed new edge (flat edge.0 edge.1 x.first x.second) in
    let all' : differ (separates side edge) d ≡ false = ap (λ c. differ (separates side edge) (c && d)) (sym x.crossing) ∙ all in
    let zero_d : d ≡ false = spans_last (separates side edge) d not_edge all' in
    sym (add_none (side u) (cut t u) d zero_d) ∙ flat u v hu hv ∙ add_none (side v) (cut t v) d zero_d

-- an exchange keeps a basis
pub exchange_keeps : (n lo w : ℕ) (pair pair' : ℕ → ℕ × ℕ) (cut cut' : ℕ → ℕ → Bool) (t : ℕ) (edge : ℕ × ℕ) → IsBasis n lo w pair cut → IsExchange n lo w pair pair' cut cut' t edge →
    IsBasis n lo w pair' cut'
exchange_keeps n lo w pair pair' cut cut' t edge b x = record {
  first = λ s low high. elim (cases_eq s t) [
    | inl e ↦ rw (ap pair' e ∙ x.here) x.first
    | inr ne ↦ rw (x.others s ne) (b.first s low high)
  ];
  second = λ s low high. elim (cases_eq s t) [
    | inl e ↦ rw (ap pair' e ∙ x.here) x.second
    | inr ne ↦ rw (x.others s ne) (b.second s low high)
  ];
  dual = exchange_dual n lo w pair pair' cut cut' t edge b x;
  spans = exchange_spans n lo w pair pair' cut cut' t edge b x;
}

-- the side less what its own pairs ask for: the cuts of those pairs that cross it are added
abbrev pub reduced : (ℕ → ℕ × ℕ) → (ℕ → ℕ → Bool) → (ℕ → Bool) → ℕ → ℕ → ℕ → Bool
reduced pair cut side lo zero = side
reduced pair cut side lo (suc i) = sum (reduced pair cut side lo i) (cut (lo + i)) (separates side (pair (lo + i)))

add_nothing : (a b c : Bool) → (b && c) ≡ false → differ a (b && c) ≡ a
add_nothing true b c e = rw e refl
add_nothing false b c e = rw e refl

-- an edge crosses it as before where no cut added is crossed
reduced_same : (pair : ℕ → ℕ × ℕ) (cut : ℕ → ℕ → Bool) (side : ℕ → Bool) (lo i : ℕ) (edge : ℕ × ℕ) →
    ((j : ℕ) → j < i → (separates (cut (lo + j)) edge && separates side (pair (lo + j))) ≡ false) →
    separates (reduced pair cut side lo i) edge ≡ separates side edge
reduced_same pair cut side lo zero edge h = refl
reduced_same pair cut side lo (suc i) edge h =
    sum_crosses (reduced pair cut side lo i) (cut (lo + i)) (separates side (pair (lo + i))) edge
    ∙ add_nothing _ (separates (cut (lo + i)) edge) (separates side (pair (lo + i))) (h i (omega arith))
    ∙ reduced_same pair cut side lo i edge (λ j k. h j (omega arith))

reduced_step : (s t r : ℕ) (now was c : Bool) → r ≡ suc t → now ≡ (not (ltb s t) && was) → (s ≡ t → c ≡ was) → differ now ((s == t) && c) ≡ (not (ltb s r) && was)
reduced_step s t r now true c a e h = grind (arith, nat_tests)
reduced_step s t r now false c a e h = grind (arith, nat_tests)

-- a pair of the tree crosses it no more once its own cut was added
reduced_pairs : (n lo w : ℕ) (pair : ℕ → ℕ × ℕ) (cut : ℕ → ℕ → Bool) (side : ℕ → Bool) → IsBasis n lo w pair cut → (i s : ℕ) → i ≤ w → lo ≤ s → s < lo + w →
    separates (reduced pair cut side lo i) (pair s) ≡ (not (ltb s (lo + i)) && separates side (pair s))
reduced_pairs n lo w pair cut side b zero s h low high = reduced_none s lo (separates side (pair s)) low
  where
    reduced_none : (s lo : ℕ) (c : Bool) → lo ≤ s → c ≡ (not (ltb s (lo + 0)) && c)
    reduced_none s lo true low = grind (arith, nat_tests)
    reduced_none s lo false low = grind (arith, nat_tests)
reduced_pairs n lo w pair cut side b (suc i) s h low high =
    sum_crosses (reduced pair cut side lo i) (cut (lo + i)) (separates side (pair (lo + i))) (pair s)
    ∙ ap (λ c. differ (separates (reduced pair cut side lo i) (pair s)) (c && separates side (pair (lo + i)))) (b.dual s (lo + i) low high (omega arith) (omega arith))
    ∙ reduced_step s (lo + i) (lo + suc i) _ (separates side (pair s)) (separates side (pair (lo + i))) (omega arith) (reduced_pairs n lo w pair cut side b i s (omega arith) low high)
    (λ e. ap (λ k. separates side (pair k)) (sym e))

all_below : (s lo w : ℕ) (c : Bool) → s < lo + w → (not (ltb s (lo + w)) && c) ≡ false
all_below s lo w true h = grind (arith, nat_tests)
all_below s lo w false h = grind (arith, nat_tests)

-- an edge crosses no side where each pair of the tree whose cut it crosses does not cross the side
pub not_crossing : (n lo w : ℕ) (pair : ℕ → ℕ × ℕ) (cut : ℕ → ℕ → Bool) (side : ℕ → Bool) (edge : ℕ × ℕ) → IsBasis n lo w pair cut → edge.0 < n → edge.1 < n →
    ((s : ℕ) → lo ≤ s → s < lo + w → (separates (cut s) edge && separates side (pair s)) ≡ false) → separates side edge ≡ false
not_crossing n lo w pair cut side edge b h k none =
    let new : ℕ → Bool = reduced pair cut side lo w in
    let flat : (u v : ℕ) → u < n → v < n → new u ≡ new v = b.spans new (λ s low high.
    reduced_pairs n lo w pair cut side b w s (omega arith) low high ∙ all_below s lo w (separates side (pair s)) high) in
    sym (reduced_same pair cut side lo w edge (λ j l. none (lo + j) (omega arith) (omega arith))) ∙ not_crossed new edge (flat edge.0 edge.1 h k)
