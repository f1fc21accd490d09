-- Labels merged into one, and one part split by another list of labels; and both at once, as an exchange between two lists.
use Rattle.std.proofs.Common.{◌≡◌, ◌≢◌, ℕ, zero, suc, ◌+◌, ◌<◌, List, [], ◌∷◌, length, map, refl, Bool, true, false, cond, eqb, ltb, not, ◌&&◌, ◌||◌, arith, ap, sym, ◌∙◌, inl, inr}
use Rattle.std.specs.Prelude.{◌⊎◌}
use Rattle.std.proofs.lemmas.Bool.{cases_Bool, eq-eqb, eqb-true, ne_eqb, or_left, or_right, and_parts, and_from, and_right, not_from_true, not_from_false}
use Rattle.std.proofs.lemmas.Bool.Decides.{nat_tests}
use Rattle.std.proofs.lemmas.List.{get_or-map, length-map}
use Rattle.pf_graph.specs.Labels.{label, occurs, parts, greatest_label}
use Rattle.pf_graph.proofs.Counting.{count, count_same, count_more, count_split, count_sum, same_bool, parts_count, label_top, occurs_top, occurs_find, label_occurs}

-- each label that passes the test becomes c
abbrev pub merge : (ℕ → Bool) → ℕ → List ℕ → List ℕ
merge test c labels = map (λ x. cond (test x) c x) labels

pub length_merge : (test : ℕ → Bool) (c : ℕ) (labels : List ℕ) → length (merge test c labels) ≡ length labels
length_merge test c labels = length-map labels (λ x. cond (test x) c x)

pub label_merge : (test : ℕ → Bool) (c : ℕ) (labels : List ℕ) (v : ℕ) → v < length labels →
    label (merge test c labels) v ≡ cond (test (label labels v)) c (label labels v)
label_merge test c labels v low = get_or-map (λ x. cond (test x) c x) labels v 0 0 low

top_step : (x t n : ℕ) → x < n → t < n → cond (ltb t x) x t < n
top_step x t n h k = grind (arith, nat_tests)

pub top_most : (labels : List ℕ) (n : ℕ) → 0 < n → ((v : ℕ) → v < length labels → label labels v < n) → greatest_label labels < n
top_most [] n some h = some
top_most (x ∷ labels) n some h = top_step x (greatest_label labels) n (h 0 (omega arith)) (top_most labels n some (λ v low. h (suc v) (omega arith)))

merged_below : (p : Bool) (c x n : ℕ) → c < n → x < n → cond p c x < n
merged_below true c x n h k = h
merged_below false c x n h k = k

-- some label passes, c is one of those, and each that passes occurs
pub record IsMerging (test : ℕ → Bool) (c : ℕ) (labels : List ℕ) : Type 0 where
  pub into : test c ≡ true
  pub occur : (a : ℕ) → test a ≡ true → occurs a labels ≡ true

not_true_is : (p : Bool) → not p ≡ true → p ≡ false
not_true_is true h = cc
not_true_is false h = refl

merged_to : (a x c : ℕ) (p : Bool) → cond p c x ≡ a → (a ≡ c) ⊎ ((x ≡ a) × (p ≡ false))
merged_to a x c true e = inl (sym e)
merged_to a x c false e = inr (e, refl)

merged_occurs : (test : ℕ → Bool) (c : ℕ) (labels : List ℕ) (a : ℕ) → a ≢ c → occurs a (merge test c labels) ≡ true →
    (occurs a labels && not (test a)) ≡ true
merged_occurs test c labels a other h =
    let found = occurs_find a (merge test c labels) h in
    let v = found.vertex in
    let in_merge = found.in_range in
    let low : v < length labels = (let e = length_merge test c labels in omega (arith, in_merge, e)) in
    elim (merged_to a (label labels v) c (test (label labels v)) (sym (label_merge test c labels v low) ∙ found.label_is)) [
      | inl same ↦ absurd (other same)
      | inr kept ↦ and_from _ _ (label_occurs a labels v low kept.0) (not_from_false (test a) (ap test (sym kept.0) ∙ kept.1))
    ]

kept_occurs : (test : ℕ → Bool) (c : ℕ) (labels : List ℕ) (a : ℕ) → (occurs a labels && not (test a)) ≡ true → occurs a (merge test c labels) ≡ true
kept_occurs test c labels a h =
    let both = and_parts (occurs a labels) (not (test a)) h in
    let found = occurs_find a labels both.0 in
    let v = found.vertex in
    let low = found.in_range in
    let stays : test a ≡ false = not_true_is (test a) both.1 in
    let fails : test (label labels v) ≡ false = ap test found.label_is ∙ stays in
    let long : v < length (merge test c labels) = (let e = length_merge test c labels in omega (arith, low, e)) in
    label_occurs a (merge test c labels) v long
    (label_merge test c labels v low ∙ ap (λ p. cond p c (label labels v)) fails ∙ found.label_is)

into_occurs : (test : ℕ → Bool) (c : ℕ) (labels : List ℕ) → IsMerging test c labels → occurs c (merge test c labels) ≡ true
into_occurs test c labels m =
    let found = occurs_find c labels (m.occur c m.into) in
    let v = found.vertex in
    let low = found.in_range in
    let passes : test (label labels v) ≡ true = ap test found.label_is ∙ m.into in
    let long : v < length (merge test c labels) = (let e = length_merge test c labels in omega (arith, low, e)) in
    label_occurs c (merge test c labels) v long (label_merge test c labels v low ∙ ap (λ p. cond p c (label labels v)) passes)

both_is : (p q : Bool) → (q ≡ true → p ≡ true) → (p && q) ≡ q
both_is true q h = refl
both_is false true h = absurd (let e = h refl in cc)
both_is false false h = refl

-- of the labels that pass, one is left
pub parts_merge : (test : ℕ → Bool) (c : ℕ) (labels : List ℕ) (n : ℕ) → IsMerging test c labels → greatest_label labels < n →
    parts (merge test c labels) + count n test ≡ parts labels + 1
parts_merge test c labels n m high =
    let c_low = occurs_top c labels (m.occur c m.into) in
    let high' : greatest_label (merge test c labels) < n =
    top_most (merge test c labels) n (omega (arith, high))
    (λ v low.
    let low' : v < length labels = (let e = length_merge test c labels in omega (arith, low, e)) in
    let most = label_top labels v in
    rw (label_merge test c labels v low')
    (merged_below (test (label labels v)) c (label labels v) n (omega (arith, c_low, high)) (omega (arith, most, high)))) in
    let more = count_more n c (λ a. occurs a labels && not (test a)) (λ a. occurs a (merge test c labels)) (omega (arith, c_low, high))
    (and_right (occurs c labels) (not (test c)) (not_from_true (test c) m.into)) (into_occurs test c labels m)
    (λ a low other. same_bool _ _ (kept_occurs test c labels a) (merged_occurs test c labels a other)) in
    let halves = count_split n (λ a. occurs a labels) test in
    let passing = count_same n (λ a. occurs a labels && test a) test (λ a low. both_is (occurs a labels) (test a) (m.occur a)) in
    let before = parts_count labels n high in
    let after = parts_count (merge test c labels) n high' in
    omega (arith, more, halves, passing, before, after)

-- the label x of the first list is hit where a vertex has it there, and b in the second list
abbrev pub hit : ℕ → List ℕ → List ℕ → ℕ → Bool
hit b [] rs x = false
hit b (d ∷ ds) [] x = false
hit b (d ∷ ds) (r ∷ rs) x = (eqb r b && eqb x d) || hit b ds rs x

pub hit_at : (b : ℕ) (ds rs : List ℕ) (v : ℕ) → length ds ≡ length rs → v < length ds → label rs v ≡ b → hit b ds rs (label ds v) ≡ true
hit_at b [] rs v full low e = absurd (omega arith)
hit_at b (d ∷ ds) [] v full low e = absurd (omega arith)
hit_at b (d ∷ ds) (r ∷ rs) zero full low e = or_left _ _ (and_from (eqb r b) (eqb d d) (eq-eqb r b e) (eq-eqb d d refl))
hit_at b (d ∷ ds) (r ∷ rs) (suc v) full low e = or_right _ _ (hit_at b ds rs v (omega arith) (omega arith) e)

pub record HasHit (b : ℕ) (ds rs : List ℕ) (x : ℕ) : Type 0 where
  pub vertex : ℕ
  pub in_range : vertex < length ds
  pub second : label rs vertex ≡ b
  pub first : label ds vertex ≡ x

pub hit_find : (b : ℕ) (ds rs : List ℕ) (x : ℕ) → hit b ds rs x ≡ true → HasHit b ds rs x
hit_find b [] rs x h = absurd (cc)
hit_find b (d ∷ ds) [] x h = absurd (cc)
hit_find b (d ∷ ds) (r ∷ rs) x h = elim (cases_Bool (eqb r b && eqb x d)) [
  | inl here ↦
      let both = and_parts (eqb r b) (eqb x d) here in
      record { vertex = 0; in_range = omega arith; second = eqb-true r b both.0; first = sym (eqb-true x d both.1) }
  | inr later ↦
      let found = hit_find b ds rs x (rw later at h) in
      record { vertex = suc found.vertex; in_range = omega (arith, found.in_range); second = found.second; first = found.first }
]

-- the part b of the second list is split by the labels of the first, moved up by n
abbrev pub split : ℕ → ℕ → List ℕ → List ℕ → List ℕ
split n b [] rs = []
split n b (d ∷ ds) [] = []
split n b (d ∷ ds) (r ∷ rs) = cond (eqb r b) (n + d) r ∷ split n b ds rs

pub length_split : (n b : ℕ) (ds rs : List ℕ) → length ds ≡ length rs → length (split n b ds rs) ≡ length rs
length_split n b [] rs full = full
length_split n b (d ∷ ds) [] full = absurd (omega arith)
length_split n b (d ∷ ds) (r ∷ rs) full = ap suc (length_split n b ds rs (omega arith))

pub label_split : (n b : ℕ) (ds rs : List ℕ) (v : ℕ) → length ds ≡ length rs → v < length ds →
    label (split n b ds rs) v ≡ cond (eqb (label rs v) b) (n + label ds v) (label rs v)
label_split n b [] rs v full low = absurd (omega arith)
label_split n b (d ∷ ds) [] v full low = absurd (omega arith)
label_split n b (d ∷ ds) (r ∷ rs) zero full low = refl
label_split n b (d ∷ ds) (r ∷ rs) (suc v) full low = label_split n b ds rs v (omega arith) (omega arith)

-- below n the labels are those of the second list but b
split_low : (n b a d r : ℕ) (p : Bool) → eqb r b ≡ p → a < n → cond p (n + d) r ≡ a → (r ≡ a) × (a ≢ b)
split_low n b a d r true e low h = absurd (omega (arith, low, h))
split_low n b a d r false e low h = (h, λ same. absurd (let f = eq-eqb r b (h ∙ same) in cc))

split_high : (n b a d r : ℕ) (p : Bool) → eqb r b ≡ p → r < n → cond p (n + d) r ≡ n + a → (r ≡ b) × (d ≡ a)
split_high n b a d r true e low h = (eqb-true r b e, omega (arith, h))
split_high n b a d r false e low h = absurd (omega (arith, low, h))

record AreLists (n b : ℕ) (ds rs : List ℕ) : Type 0 where
  full : length ds ≡ length rs
  high : greatest_label rs < n
  occurs_b : occurs b rs ≡ true

low_to : (n b : ℕ) (ds rs : List ℕ) (a : ℕ) → AreLists n b ds rs → a < n → occurs a (split n b ds rs) ≡ true → (occurs a rs && not (eqb a b)) ≡ true
low_to n b ds rs a k low h =
    let found = occurs_find a (split n b ds rs) h in
    let v = found.vertex in
    let inside = found.in_range in
    let full = k.full in
    let long = length_split n b ds rs full in
    let here : v < length ds = omega (arith, inside, long, full) in
    let e = split_low n b a (label ds v) (label rs v) (eqb (label rs v) b) refl low (sym (label_split n b ds rs v full here) ∙ found.label_is) in
    and_from _ _ (label_occurs a rs v (omega (arith, here, full)) e.0) (not_from_false (eqb a b) (ne_eqb a b e.1))

low_back : (n b : ℕ) (ds rs : List ℕ) (a : ℕ) → AreLists n b ds rs → (occurs a rs && not (eqb a b)) ≡ true → occurs a (split n b ds rs) ≡ true
low_back n b ds rs a k h =
    let both = and_parts (occurs a rs) (not (eqb a b)) h in
    let found = occurs_find a rs both.0 in
    let v = found.vertex in
    let inside = found.in_range in
    let full = k.full in
    let long = length_split n b ds rs full in
    let here : v < length ds = omega (arith, inside, full) in
    let apart : eqb (label rs v) b ≡ false = ap (λ x. eqb x b) found.label_is ∙ not_true_is (eqb a b) both.1 in
    label_occurs a (split n b ds rs) v (omega (arith, inside, long))
    (label_split n b ds rs v full here ∙ ap (λ p. cond p (n + label ds v) (label rs v)) apart ∙ found.label_is)

high_to : (n b : ℕ) (ds rs : List ℕ) (a : ℕ) → AreLists n b ds rs → occurs (n + a) (split n b ds rs) ≡ true → hit b ds rs a ≡ true
high_to n b ds rs a k h =
    let found = occurs_find (n + a) (split n b ds rs) h in
    let v = found.vertex in
    let inside = found.in_range in
    let full = k.full in
    let long = length_split n b ds rs full in
    let here : v < length ds = omega (arith, inside, long, full) in
    let most = label_top rs v in
    let high = k.high in
    let e = split_high n b a (label ds v) (label rs v) (eqb (label rs v) b) refl (omega (arith, most, high)) (sym (label_split n b ds rs v full here) ∙ found.label_is) in
    ap (hit b ds rs) (sym e.1) ∙ hit_at b ds rs v full here e.0

high_back : (n b : ℕ) (ds rs : List ℕ) (a : ℕ) → AreLists n b ds rs → hit b ds rs a ≡ true → occurs (n + a) (split n b ds rs) ≡ true
high_back n b ds rs a k h =
    let found = hit_find b ds rs a h in
    let v = found.vertex in
    let here = found.in_range in
    let full = k.full in
    let long = length_split n b ds rs full in
    let same : eqb (label rs v) b ≡ true = eq-eqb (label rs v) b found.second in
    label_occurs (n + a) (split n b ds rs) v (omega (arith, here, long, full))
    (label_split n b ds rs v full here ∙ ap (λ p. cond p (n + label ds v) (label rs v)) same ∙ ap (λ x. n + x) found.first)

split_below : (n m d r : ℕ) (p : Bool) → r < n → d < m → cond p (n + d) r < n + m
split_below n m d r true h k = omega arith
split_below n m d r false h k = omega arith

kept : (p q : Bool) → q ≡ false → (p && not q) ≡ p
kept true true h = cc
kept true false h = refl
kept false q h = refl

-- the part b becomes as many parts as labels are hit
pub parts_split : (n m b : ℕ) (ds rs : List ℕ) → length ds ≡ length rs → greatest_label rs < n → greatest_label ds < m → occurs b rs ≡ true →
    parts (split n b ds rs) + 1 ≡ parts rs + count m (hit b ds rs)
parts_split n m b ds rs full high high_d in_rs =
    let k : AreLists n b ds rs = record { full = full; high = high; occurs_b = in_rs } in
    let b_low = occurs_top b rs in_rs in
    let long = length_split n b ds rs full in
    let bound : greatest_label (split n b ds rs) < n + m =
    top_most (split n b ds rs) (n + m) (omega arith)
    (λ v low.
    let here : v < length ds = omega (arith, low, long, full) in
    let most = label_top rs v in
    let most_d = label_top ds v in
    rw (label_split n b ds rs v full here)
    (split_below n m (label ds v) (label rs v) (eqb (label rs v) b) (omega (arith, most, high)) (omega (arith, most_d, high_d)))) in
    let whole = parts_count (split n b ds rs) (n + m) bound in
    let halves = count_sum n m (λ a. occurs a (split n b ds rs)) in
    let below = count_same n (λ a. occurs a (split n b ds rs)) (λ a. occurs a rs && not (eqb a b))
    (λ a low. same_bool _ _ (low_to n b ds rs a k low) (low_back n b ds rs a k)) in
    let above = count_same m (λ a. occurs (n + a) (split n b ds rs)) (hit b ds rs)
    (λ a low. same_bool _ _ (high_to n b ds rs a k) (high_back n b ds rs a k)) in
    let more = count_more n b (λ a. occurs a rs && not (eqb a b)) (λ a. occurs a rs) (omega (arith, b_low, high))
    (and_right (occurs b rs) _ (not_from_true (eqb b b) (eq-eqb b b refl))) in_rs
    (λ a low other. kept (occurs a rs) (eqb a b) (ne_eqb a b other)) in
    let before = parts_count rs n high in
    omega (arith, whole, halves, below, above, more, before)
