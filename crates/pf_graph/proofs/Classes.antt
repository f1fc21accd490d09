-- Sums over edges and vertices, taken part by part.
use Rattle.std.proofs.Common.{◌≡◌, ℕ, zero, suc, ◌+◌, ◌<◌, List, [], ◌∷◌, length, get_or, map, refl, Bool, true, false, cond, eqb, ltb, not, ◌&&◌, ◌||◌, arith, ap, sym, ◌∙◌}
use Rattle.std.specs.Prelude.{ℤ, ◌+ℤ◌, ◌-ℤ◌, ◌*ℤ◌, ◌≤ℤ◌, pos}
use Rattle.std.proofs.lemmas.Int.{ints}
use Rattle.std.proofs.lemmas.Bool.{or_parts, lt-ltb, le-ltb, and_right}
use Rattle.std.proofs.lemmas.Bool.Decides.{nat_tests}
use Rattle.std.proofs.lemmas.List.{get_or-map, length-map}
use Rattle.pf_model.specs.Cut.{sum_where, has, size}
use Rattle.pf_model.specs.Digraph.{Digraph, IsDigraph}
use Rattle.pf_model.proofs.Sums.{sum_where_none}
use Rattle.pf_model.proofs.Integers.{mul_add}
use Rattle.pf_graph.specs.WeightedGraph.{lies_in, inside, total}
use Rattle.pf_graph.specs.Labels.{label, occurs, parts, part, crosses, crossing, greatest_label}
use Rattle.pf_graph.specs.Laws.{PartsMost, PartsTight}
use Rattle.pf_graph.proofs.Counting.{count, parts_count, label_top}

-- a test that is one of two tests which exclude each other
pub record Adds (a b c : Bool) : Type 0 where
  pub either : a ≡ (b || c)
  pub apart : (b && c) ≡ false

add_step : (a b c : Bool) (x s t u : ℤ) → Adds a b c → s ≡ t +ℤ u →
    cond a x (pos 0) +ℤ s ≡ (cond b x (pos 0) +ℤ t) +ℤ (cond c x (pos 0) +ℤ u)
add_step true true true x s t u h e = absurd (let k = h.apart in cc)
add_step true true false x s t u h e = omega (arith, ints, e)
add_step true false true x s t u h e = omega (arith, ints, e)
add_step true false false x s t u h e = absurd (let k = h.either in cc)
add_step false true true x s t u h e = absurd (let k = h.either in cc)
add_step false true false x s t u h e = absurd (let k = h.either in cc)
add_step false false true x s t u h e = absurd (let k = h.either in cc)
add_step false false false x s t u h e = omega (arith, ints, e)

-- so the sums add up, where this holds of each edge
pub sum_add : (p q r : ℕ × ℕ → Bool) (ends : List (ℕ × ℕ)) (numbers : List ℤ) →
    ((i : ℕ) → i < length ends → Adds (p (get_or ends i (0, 0))) (q (get_or ends i (0, 0))) (r (get_or ends i (0, 0)))) →
    sum_where p ends numbers ≡ sum_where q ends numbers +ℤ sum_where r ends numbers
sum_add p q r [] numbers h = refl
sum_add p q r (edge ∷ ends) [] h = refl
sum_add p q r (edge ∷ ends) (x ∷ numbers) h =
    add_step (p edge) (q edge) (r edge) x _ _ _ (h 0 (omega arith)) (sum_add p q r ends numbers (λ i low. h (suc i) (omega arith)))

-- the vertices of a part
pub has-part : (labels : List ℕ) (a v : ℕ) → v < length labels → has (part labels a) v ≡ eqb (label labels v) a
has-part labels a v low = get_or-map (λ x. eqb x a) labels v 0 false low

pub length-part : (labels : List ℕ) (a : ℕ) → length (part labels a) ≡ length labels
length-part labels a = length-map labels (λ x. eqb x a)

turn : (x a : ℕ) → eqb a x ≡ false → eqb x a ≡ false
turn x a h = grind (arith, nat_tests)

-- a label that does not occur has no vertices
no_vertex : (labels : List ℕ) (a : ℕ) → occurs a labels ≡ false → (v : ℕ) → has (part labels a) v ≡ false
no_vertex [] a h v = refl
no_vertex (x ∷ labels) a h zero = turn x a (or_parts (eqb a x) (occurs a labels) h).0
no_vertex (x ∷ labels) a h (suc v) = no_vertex labels a (or_parts (eqb a x) (occurs a labels) h).1 v

size_none : (labels : List ℕ) (a : ℕ) → occurs a labels ≡ false → size (part labels a) ≡ 0
size_none [] a h = refl
size_none (x ∷ labels) a h =
    let both = or_parts (eqb a x) (occurs a labels) h in
    let here = turn x a both.0 in
    let rest = size_none labels a both.1 in
    rw (here) (omega (arith, rest))

inside_none : (ends : List (ℕ × ℕ)) (numbers : List ℤ) (labels : List ℕ) (a : ℕ) → occurs a labels ≡ false → inside ends numbers (part labels a) ≡ pos 0
inside_none ends numbers labels a h = sum_where_none (lies_in (part labels a)) ends numbers (λ edge. let e = no_vertex labels a h edge.0 in rw (e) refl)

-- both ends have one label, and it is below k
abbrev joined : List ℕ → ℕ → ℕ × ℕ → Bool
joined labels k edge = eqb (label labels edge.0) (label labels edge.1) && ltb (label labels edge.0) k

-- the vertices with a label below k
abbrev below : List ℕ → ℕ → ℕ
below labels k = size (map (λ x. ltb x k) labels)

joined_adds : (x y k : ℕ) → Adds (eqb x y && ltb x (suc k)) (eqb x y && ltb x k) (eqb x k && eqb y k)
joined_adds x y k = record {
  either = grind (arith, nat_tests);
  apart = grind (arith, nat_tests);
}

sum_step : (g : Digraph) (numbers : List ℤ) (labels : List ℕ) (k : ℕ) → IsDigraph g → length labels ≡ g.nodes →
    sum_where (joined labels (suc k)) g.ends numbers ≡ sum_where (joined labels k) g.ends numbers +ℤ inside g.ends numbers (part labels k)
sum_step g numbers labels k graph full =
    sum_add (joined labels (suc k)) (joined labels k) (lies_in (part labels k)) g.ends numbers
    (λ i low.
    let edge = get_or g.ends i (0, 0) in
    let first = graph.tails i low in
    let second = graph.heads i low in
    let e = has-part labels k edge.0 (omega (arith, first, full)) in
    let f = has-part labels k edge.1 (omega (arith, second, full)) in
    rw (e, f) (joined_adds (label labels edge.0) (label labels edge.1) k))

below_one : (x k a b c : ℕ) → a ≡ b + c → cond (ltb x (suc k)) 1 0 + a ≡ (cond (ltb x k) 1 0 + b) + (cond (eqb x k) 1 0 + c)
below_one x k a b c e = grind (arith, nat_tests)

below_step : (labels : List ℕ) (k : ℕ) → below labels (suc k) ≡ below labels k + size (part labels k)
below_step [] k = refl
below_step (x ∷ labels) k = below_one x k _ _ _ (below_step labels k)

below_zero : (labels : List ℕ) → below labels 0 ≡ 0
below_zero [] = refl
below_zero (x ∷ labels) =
    let here : ltb x 0 ≡ false = le-ltb x 0 (omega arith) in
    let rest = below_zero labels in
    rw (here) (omega (arith, rest))

below_all : (labels : List ℕ) (k : ℕ) → ((v : ℕ) → v < length labels → label labels v < k) → below labels k ≡ length labels
below_all [] k h = refl
below_all (x ∷ labels) k h =
    let here : ltb x k ≡ true = lt-ltb x k (h 0 (omega arith)) in
    let rest = below_all labels k (λ v low. h (suc v) (omega arith)) in
    rw (here) (omega (arith, rest))

sum_zero : (ends : List (ℕ × ℕ)) (numbers : List ℤ) (labels : List ℕ) → sum_where (joined labels 0) ends numbers ≡ pos 0
sum_zero ends numbers labels =
    sum_where_none (joined labels 0) ends numbers
    (λ edge. and_right (eqb (label labels edge.0) (label labels edge.1)) _ (le-ltb (label labels edge.0) 0 (omega arith)))

whole_adds : (x y k : ℕ) → x < k → Adds true (not (eqb x y)) (eqb x y && ltb x k)
whole_adds x y k h = record {
  either = grind (arith, nat_tests);
  apart = grind (arith, nat_tests);
}

sum_whole : (ends : List (ℕ × ℕ)) (numbers : List ℤ) (labels : List ℕ) (k : ℕ) → greatest_label labels < k →
    total ends numbers ≡ crossing ends numbers labels +ℤ sum_where (joined labels k) ends numbers
sum_whole ends numbers labels k h =
    sum_add (λ edge. true) (crosses labels) (joined labels k) ends numbers
    (λ i low.
    let edge = get_or ends i (0, 0) in
    let most = label_top labels edge.0 in
    whole_adds (label labels edge.0) (label labels edge.1) k (omega (arith, most, h)))

-- one part more
gain : (p s c v : ℤ) → (p *ℤ (v +ℤ s)) -ℤ (p *ℤ (c +ℤ pos 1)) ≡ ((p *ℤ v) -ℤ (p *ℤ c)) +ℤ (p *ℤ (s -ℤ pos 1))
gain p s c v =
    let e = mul_add p v s in
    let f = mul_add p c (pos 1) in
    let s_is : s ≡ (s -ℤ pos 1) +ℤ pos 1 = omega (arith, ints) in
    let g : p *ℤ s ≡ (p *ℤ (s -ℤ pos 1)) +ℤ (p *ℤ pos 1) = ap (λ n. p *ℤ n) s_is ∙ mul_add p (s -ℤ pos 1) (pos 1) in
    omega (arith, ints, e, f, g)

gain_at : (p : ℤ) (s c v : ℕ) → (p *ℤ pos (v + s)) -ℤ (p *ℤ pos (1 + c)) ≡ ((p *ℤ pos v) -ℤ (p *ℤ pos c)) +ℤ (p *ℤ (pos s -ℤ pos 1))
gain_at p s c v =
    let a : pos (v + s) ≡ pos v +ℤ pos s = omega (arith, ints) in
    let b : pos (1 + c) ≡ pos c +ℤ pos 1 = omega (arith, ints) in
    rw (a, b) (gain p (pos s) (pos c) (pos v))

none_at : (p : ℤ) (s c v : ℕ) → s ≡ 0 → (p *ℤ pos (v + s)) -ℤ (p *ℤ pos (0 + c)) ≡ (p *ℤ pos v) -ℤ (p *ℤ pos c)
none_at p s c v e =
    let a : v + s ≡ v = omega (arith, e) in
    let b : 0 + c ≡ c = omega arith in
    rw (a, b) refl

most_step : (p e i : ℤ) (here : Bool) (s c v : ℕ) → e ≤ℤ ((p *ℤ pos v) -ℤ (p *ℤ pos c)) →
    (here ≡ true → i ≤ℤ (p *ℤ (pos s -ℤ pos 1))) → (here ≡ false → (i ≡ pos 0) × (s ≡ 0)) →
    (e +ℤ i) ≤ℤ ((p *ℤ pos (v + s)) -ℤ (p *ℤ pos (cond here 1 0 + c)))
most_step p e i true s c v h k l = let m = k refl in omega (arith, ints, h, m, gain_at p s c v)
most_step p e i false s c v h k l = let m = l refl in omega (arith, ints, h, m.0, none_at p s c v m.1)

tight_step : (p e i : ℤ) (here : Bool) (s c v : ℕ) → e ≡ (p *ℤ pos v) -ℤ (p *ℤ pos c) →
    (here ≡ true → i ≡ p *ℤ (pos s -ℤ pos 1)) → (here ≡ false → (i ≡ pos 0) × (s ≡ 0)) →
    e +ℤ i ≡ (p *ℤ pos (v + s)) -ℤ (p *ℤ pos (cond here 1 0 + c))
tight_step p e i true s c v h k l = let m = k refl in omega (arith, ints, h, m, gain_at p s c v)
tight_step p e i false s c v h k l = let m = l refl in omega (arith, ints, h, m.0, none_at p s c v m.1)

begins : (p : ℤ) → pos 0 ≡ (p *ℤ pos 0) -ℤ (p *ℤ pos 0)
begins p = omega (arith, ints)

most_below : (g : Digraph) (numbers : List ℤ) (p : ℤ) (labels : List ℕ) → IsDigraph g → length labels ≡ g.nodes → PartsMost g.ends numbers p labels →
    (k : ℕ) → sum_where (joined labels k) g.ends numbers ≤ℤ ((p *ℤ pos (below labels k)) -ℤ (p *ℤ pos (count k (λ a. occurs a labels))))
most_below g numbers p labels graph full h zero =
    let e = sum_zero g.ends numbers labels in
    let f = below_zero labels in
    rw (e, f) (omega (arith, ints, begins p))
most_below g numbers p labels graph full h (suc k) =
    let e = sum_step g numbers labels k graph full in
    let f = below_step labels k in
    rw (e, f) (
    most_step p _ _ (occurs k labels) (size (part labels k)) (count k (λ a. occurs a labels)) (below labels k)
    (most_below g numbers p labels graph full h k) (h.most k) (λ none. (inside_none g.ends numbers labels k none, size_none labels k none)))

tight_below : (g : Digraph) (numbers : List ℤ) (p : ℤ) (labels : List ℕ) → IsDigraph g → length labels ≡ g.nodes → PartsTight g.ends numbers p labels →
    (k : ℕ) → sum_where (joined labels k) g.ends numbers ≡ (p *ℤ pos (below labels k)) -ℤ (p *ℤ pos (count k (λ a. occurs a labels)))
tight_below g numbers p labels graph full h zero =
    let e = sum_zero g.ends numbers labels in
    let f = below_zero labels in
    rw (e, f) (begins p)
tight_below g numbers p labels graph full h (suc k) =
    let e = sum_step g numbers labels k graph full in
    let f = below_step labels k in
    rw (e, f) (
    tight_step p _ _ (occurs k labels) (size (part labels k)) (count k (λ a. occurs a labels)) (below labels k)
    (tight_below g numbers p labels graph full h k) (h.tight k) (λ none. (inside_none g.ends numbers labels k none, size_none labels k none)))

product_less : (p a b : ℤ) → p *ℤ (a -ℤ b) ≡ (p *ℤ a) -ℤ (p *ℤ b)
product_less p a b =
    let e : a ≡ (a -ℤ b) +ℤ b = omega (arith, ints) in
    let f : p *ℤ a ≡ (p *ℤ (a -ℤ b)) +ℤ (p *ℤ b) = ap (λ n. p *ℤ n) e ∙ mul_add p (a -ℤ b) b in
    omega (arith, ints, f)

at_end : (p : ℤ) (labels : List ℕ) (nodes : ℕ) → length labels ≡ nodes →
    (p *ℤ pos (below labels (suc (greatest_label labels)))) -ℤ (p *ℤ pos (count (suc (greatest_label labels)) (λ a. occurs a labels))) ≡ p *ℤ (pos nodes -ℤ pos (parts labels))
at_end p labels nodes full =
    let e : below labels (suc (greatest_label labels)) ≡ nodes =
    below_all labels (suc (greatest_label labels)) (λ v low. let most = label_top labels v in omega (arith, most)) ∙ full in
    let f = parts_count labels (suc (greatest_label labels)) (omega arith) in
    ap (λ n. (p *ℤ pos n) -ℤ (p *ℤ pos (count (suc (greatest_label labels)) (λ a. occurs a labels)))) e
    ∙ ap (λ n. (p *ℤ pos nodes) -ℤ (p *ℤ pos n)) (sym f)
    ∙ sym (product_less p (pos nodes) (pos (parts labels)))

-- where the sum inside each part is at most P (size - 1), all numbers together are at most those that cross, and P (nodes - parts)
pub parts_most_sum : (g : Digraph) (numbers : List ℤ) (p : ℤ) (labels : List ℕ) → IsDigraph g → length labels ≡ g.nodes → PartsMost g.ends numbers p labels →
    total g.ends numbers ≤ℤ (crossing g.ends numbers labels +ℤ (p *ℤ (pos g.nodes -ℤ pos (parts labels))))
parts_most_sum g numbers p labels graph full h =
    let e = sum_whole g.ends numbers labels (suc (greatest_label labels)) (omega arith) in
    let f = most_below g numbers p labels graph full h (suc (greatest_label labels)) in
    let same = at_end p labels g.nodes full in
    omega (arith, ints, e, f, same)

pub parts_tight_sum : (g : Digraph) (numbers : List ℤ) (p : ℤ) (labels : List ℕ) → IsDigraph g → length labels ≡ g.nodes → PartsTight g.ends numbers p labels →
    total g.ends numbers ≡ crossing g.ends numbers labels +ℤ (p *ℤ (pos g.nodes -ℤ pos (parts labels)))
parts_tight_sum g numbers p labels graph full h =
    let e = sum_whole g.ends numbers labels (suc (greatest_label labels)) (omega arith) in
    let f = tight_below g numbers p labels graph full h (suc (greatest_label labels)) in
    let same = at_end p labels g.nodes full in
    omega (arith, ints, e, f, same)
