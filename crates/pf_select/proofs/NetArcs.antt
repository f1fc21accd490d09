-- The arcs of the network: how many there are, where each stands, and sums over them.
use Rattle.std.proofs.Common.{◌≡◌, ℕ, zero, suc, ◌+◌, ◌-◌, ◌<◌, List, [], ◌∷◌, ◌++◌, length, get_or, take, drop, map, refl, Bool, cond, arith, ap, sym, ◌∙◌, inl, inr, zero-add}
use Rattle.std.specs.Prelude.{ℤ, ◌+ℤ◌, pos}
use Rattle.std.proofs.lemmas.Int.{ints}
use Rattle.std.proofs.lemmas.Bool.{cases_lt}
use Rattle.std.proofs.lemmas.List.{length-map, length-append, length-take-le, length-drop, get_or-map, get_or_append_left, get_or-append-add, get_or-take, get_or-drop}
use Rattle.pf_model.specs.declared.AffineArc.{AffineArc}
use Rattle.pf_model.specs.Fraction.{Fraction}
use Rattle.pf_model.specs.Cut.{at_arc, sum_where}
use Rattle.pf_model.specs.Network.{ends_of, capacity_at}
use Rattle.pf_model.proofs.Affine.{no_arc}
use Rattle.pf_select.specs.Problem.{SelectionProblem, sum_of}
use Rattle.pf_select.specs.Reduction.{part_arc, need_arc, product_arc, part_arcs, product_arcs, product_node, sink_node, select_net, charges_of}
use Rattle.pf_select.proofs.Grouping.{sum_same}
use Rattle.pf_model.proofs.Facts.{add_before, none_before}
use Rattle.pf_model.proofs.Sums.{sum_where_empty}

-- how many

pub parts_full : (i : ℕ) (costs : List ℤ) → length (part_arcs i costs) ≡ length costs
parts_full i [] = refl
parts_full i (cost ∷ costs) = ap suc (parts_full (suc i) costs)

pub products_full : (sink parts j : ℕ) (gains : List ℤ) → length (product_arcs sink parts j gains) ≡ length gains
products_full sink parts j [] = refl
products_full sink parts j (gain ∷ gains) = ap suc (products_full sink parts (suc j) gains)

pub arcs_full : (p : SelectionProblem) → length (select_net p).arcs ≡ length p.costs + (length p.needs + length p.gains)
arcs_full p =
    let n = length p.costs in
    let a = length-append (part_arcs 0 p.costs) (map (need_arc n) p.needs ++ product_arcs (sink_node p) n 0 p.gains) in
    let b = length-append (map (need_arc n) p.needs) (product_arcs (sink_node p) n 0 p.gains) in
    let c = length-map p.needs (need_arc n) in
    omega (arith, a, b, c, parts_full 0 p.costs, products_full (sink_node p) n 0 p.gains)

-- which arc stands where

get_part : (i k : ℕ) (costs : List ℤ) (d : AffineArc) → i < length costs → get_or (part_arcs k costs) i d ≡ part_arc (k + i) (at_arc costs i)
get_part i k [] d low = absurd (omega (arith, low))
get_part zero k (cost ∷ costs) d low = let e : k ≡ k + 0 = omega arith in ap (λ n. part_arc n cost) e
get_part (suc i) k (cost ∷ costs) d low =
    let e : suc k + i ≡ k + suc i = omega arith in
    get_part i (suc k) costs d (omega (arith, low)) ∙ ap (λ n. part_arc n (at_arc costs i)) e

get_product : (sink parts j k : ℕ) (gains : List ℤ) (d : AffineArc) → j < length gains →
    get_or (product_arcs sink parts k gains) j d ≡ product_arc sink parts (k + j) (at_arc gains j)
get_product sink parts j k [] d low = absurd (omega (arith, low))
get_product sink parts zero k (gain ∷ gains) d low = let e : k ≡ k + 0 = omega arith in ap (λ n. product_arc sink parts n gain) e
get_product sink parts (suc j) k (gain ∷ gains) d low =
    let e : suc k + j ≡ k + suc j = omega arith in
    get_product sink parts j (suc k) gains d (omega (arith, low)) ∙ ap (λ n. product_arc sink parts n (at_arc gains j)) e

abbrev pub arc_of : SelectionProblem → ℕ → AffineArc
arc_of p i = get_or (select_net p).arcs i no_arc

pub arc_part : (p : SelectionProblem) (i : ℕ) → i < length p.costs → arc_of p i ≡ part_arc i (at_arc p.costs i)
arc_part p i low =
    let full = parts_full 0 p.costs in
    get_or_append_left (part_arcs 0 p.costs) _ no_arc i (omega (arith, full, low)) ∙ get_part i 0 p.costs no_arc low
    ∙ ap (λ n. part_arc n (at_arc p.costs i)) (zero-add i)

behind_parts : (p : SelectionProblem) (k : ℕ) → arc_of p (length p.costs + k)
    ≡ get_or (map (need_arc (length p.costs)) p.needs ++ product_arcs (sink_node p) (length p.costs) 0 p.gains) k no_arc
behind_parts p k =
    sym (ap (λ n. arc_of p (n + k)) (parts_full 0 p.costs)) ∙ get_or-append-add (part_arcs 0 p.costs) _ k no_arc

pub arc_need : (p : SelectionProblem) (k : ℕ) → k < length p.needs → arc_of p (length p.costs + k) ≡ need_arc (length p.costs) (get_or p.needs k (0, 0))
arc_need p k low =
    let full = length-map p.needs (need_arc (length p.costs)) in
    behind_parts p k ∙ get_or_append_left (map (need_arc (length p.costs)) p.needs) _ no_arc k (omega (arith, full, low))
    ∙ get_or-map (need_arc (length p.costs)) p.needs k (0, 0) no_arc low

pub arc_product : (p : SelectionProblem) (j : ℕ) → j < length p.gains →
    arc_of p (length p.costs + (length p.needs + j)) ≡ product_arc (sink_node p) (length p.costs) j (at_arc p.gains j)
arc_product p j low =
    let n = length p.costs in
    let rest : ℕ → AffineArc = λ m. get_or (map (need_arc n) p.needs ++ product_arcs (sink_node p) n 0 p.gains) (m + j) no_arc in
    behind_parts p (length p.needs + j) ∙ sym (ap rest (length-map p.needs (need_arc n)))
    ∙ get_or-append-add (map (need_arc n) p.needs) (product_arcs (sink_node p) n 0 p.gains) j no_arc
    ∙ get_product (sink_node p) n j 0 p.gains no_arc low ∙ ap (λ m. product_arc (sink_node p) n m (at_arc p.gains j)) (zero-add j)

pub end_is : (p : SelectionProblem) (i : ℕ) → i < length (select_net p).arcs → get_or (map ends_of (select_net p).arcs) i (0, 0) ≡ ends_of (arc_of p i)
end_is p i low = get_or-map ends_of (select_net p).arcs i no_arc (0, 0) low

pub capacity_is : (p : SelectionProblem) (x : Fraction) (i : ℕ) → i < length (select_net p).arcs →
    at_arc (map (capacity_at x) (select_net p).arcs) i ≡ capacity_at x (arc_of p i)
capacity_is p x i low = get_or-map (capacity_at x) (select_net p).arcs i no_arc (pos 0) low

-- each arc is one of a part, of a need or of a product
pub each_arc : (p : SelectionProblem) (P : ℕ → Type 0) → ((i : ℕ) → i < length p.costs → P i) → ((k : ℕ) → k < length p.needs → P (length p.costs + k)) →
    ((j : ℕ) → j < length p.gains → P (length p.costs + (length p.needs + j))) → (i : ℕ) → i < length (select_net p).arcs → P i
each_arc p P parts needs products i low =
    let full = arcs_full p in
    elim (cases_lt i (length p.costs)) [
      | inl less ↦ parts i less
      | inr most ↦ elim (cases_lt (i - length p.costs) (length p.needs)) [
        | inl less ↦ (let e : length p.costs + (i - length p.costs) ≡ i = omega (arith, most) in rw e at (needs (i - length p.costs) less))
        | inr more ↦
            let j = i - length p.costs - length p.needs in
            let e : length p.costs + (length p.needs + j) ≡ i = omega (arith, most, more) in
            rw e at (products j (omega (arith, low, full, most, more)))
      ]
    ]

-- sums

sum_append : (test : ℕ × ℕ → Bool) (xs ys : List AffineArc) (flow : List ℤ) →
    sum_where test (map ends_of (xs ++ ys)) flow
    ≡ sum_where test (map ends_of xs) (take (length xs) flow) +ℤ sum_where test (map ends_of ys) (drop (length xs) flow)
sum_append test [] ys flow = none_before _
sum_append test (x ∷ xs) ys [] = let e = sum_where_empty test (map ends_of ys) in omega (arith, ints, e)
sum_append test (x ∷ xs) ys (f ∷ flow) = add_before (cond (test (ends_of x)) f (pos 0)) _ _ _ (sum_append test xs ys flow)

sum_parts : (test : ℕ × ℕ → Bool) (k : ℕ) (costs xs : List ℤ) → length xs ≡ length costs →
    sum_where test (map ends_of (part_arcs k costs)) xs ≡ sum_of (λ i. test (0, suc (k + i))) xs
sum_parts test k [] [] full = refl
sum_parts test k [] (x ∷ xs) full = absurd (omega (arith, full))
sum_parts test k (cost ∷ costs) [] full = absurd (omega (arith, full))
sum_parts test k (cost ∷ costs) (x ∷ xs) full =
    let zero_more : k ≡ k + 0 = omega arith in
    let one_more : (i : ℕ) → suc k + i ≡ k + suc i = λ i. omega arith in
    let here = ap (λ n. cond (test (0, suc n)) x (pos 0)) zero_more in
    let rest = sum_parts test (suc k) costs xs (omega (arith, full))
    ∙ sum_same (λ i. test (0, suc (suc k + i))) (λ i. test (0, suc (k + suc i))) xs (λ i low. ap (λ n. test (0, suc n)) (one_more i)) in
    omega (arith, ints, here, rest)

sum_products : (test : ℕ × ℕ → Bool) (sink parts k : ℕ) (gains xs : List ℤ) → length xs ≡ length gains →
    sum_where test (map ends_of (product_arcs sink parts k gains)) xs ≡ sum_of (λ j. test (suc (parts + (k + j)), sink)) xs
sum_products test sink parts k [] [] full = refl
sum_products test sink parts k [] (x ∷ xs) full = absurd (omega (arith, full))
sum_products test sink parts k (gain ∷ gains) [] full = absurd (omega (arith, full))
sum_products test sink parts k (gain ∷ gains) (x ∷ xs) full =
    let zero_more : k ≡ k + 0 = omega arith in
    let one_more : (j : ℕ) → suc k + j ≡ k + suc j = λ j. omega arith in
    let here = ap (λ n. cond (test (suc (parts + n), sink)) x (pos 0)) zero_more in
    let rest = sum_products test sink parts (suc k) gains xs (omega (arith, full))
    ∙ sum_same (λ j. test (suc (parts + (suc k + j)), sink)) (λ j. test (suc (parts + (k + suc j)), sink)) xs
    (λ j low. ap (λ n. test (suc (parts + n), sink)) (one_more j)) in
    omega (arith, ints, here, rest)

sum_needs : (test : ℕ × ℕ → Bool) (parts : ℕ) (needs : List (ℕ × ℕ)) (xs : List ℤ) →
    sum_where test (map ends_of (map (need_arc parts) needs)) xs ≡ sum_where (λ need. test (suc need.1, suc (parts + need.0))) needs xs
sum_needs test parts [] xs = refl
sum_needs test parts (need ∷ needs) [] = refl
sum_needs test parts (need ∷ needs) (x ∷ xs) =
    ap (λ n. cond (test (suc need.1, suc (parts + need.0))) x (pos 0) +ℤ n) (sum_needs test parts needs xs)

-- the numbers on the arcs of parts and of products
abbrev pub on_parts : SelectionProblem → List ℤ → List ℤ
on_parts p flow = take (length p.costs) flow

abbrev pub on_products : SelectionProblem → List ℤ → List ℤ
on_products p flow = drop (length p.needs) (drop (length p.costs) flow)

pub sum_over : (p : SelectionProblem) (test : ℕ × ℕ → Bool) (flow : List ℤ) → length flow ≡ length p.costs + (length p.needs + length p.gains) →
    sum_where test (map ends_of (select_net p).arcs) flow
    ≡ (sum_of (λ i. test (0, suc i)) (on_parts p flow)
    +ℤ sum_where (λ need. test (suc need.1, suc (length p.costs + need.0))) p.needs (charges_of p flow))
    +ℤ sum_of (λ j. test (product_node p j, sink_node p)) (on_products p flow)
sum_over p test flow full =
    let n = length p.costs in
    let needs = map (need_arc n) p.needs in
    let products = product_arcs (sink_node p) n 0 p.gains in
    let split = sum_append test (part_arcs 0 p.costs) (needs ++ products) flow in
    let at_n = ap (λ k. sum_where test (map ends_of (part_arcs 0 p.costs)) (take k flow) +ℤ sum_where test (map ends_of (needs ++ products)) (drop k flow))
    (parts_full 0 p.costs) in
    let again = sum_append test needs products (drop n flow) in
    let at_m = ap (λ k. sum_where test (map ends_of needs) (take k (drop n flow)) +ℤ sum_where test (map ends_of products) (drop k (drop n flow)))
    (length-map p.needs (need_arc n)) in
    let drops = length-drop n flow in
    let deep = length-drop (length p.needs) (drop n flow) in
    let first = sum_parts test 0 p.costs (on_parts p flow) (length-take-le n flow (omega (arith, full)))
    ∙ sum_same (λ i. test (0, suc (0 + i))) (λ i. test (0, suc i)) (on_parts p flow) (λ i low. ap (λ k. test (0, suc k)) (zero-add i)) in
    let second = sum_needs test n p.needs (charges_of p flow) in
    let third = sum_products test (sink_node p) n 0 p.gains (on_products p flow) (omega (arith, full, drops, deep))
    ∙ sum_same (λ j. test (suc (n + (0 + j)), sink_node p)) (λ j. test (product_node p j, sink_node p)) (on_products p flow)
    (λ j low. ap (λ k. test (suc (n + k), sink_node p)) (zero-add j)) in
    omega (arith, ints, split, at_n, again, at_m, first, second, third)

-- the numbers there
pub at_parts : (p : SelectionProblem) (flow : List ℤ) (i : ℕ) → i < length p.costs → at_arc (on_parts p flow) i ≡ at_arc flow i
at_parts p flow i low = get_or-take (length p.costs) flow i (pos 0) low

pub at_charges : (p : SelectionProblem) (flow : List ℤ) (k : ℕ) → k < length p.needs → at_arc (charges_of p flow) k ≡ at_arc flow (length p.costs + k)
at_charges p flow k low = get_or-take (length p.needs) (drop (length p.costs) flow) k (pos 0) low ∙ get_or-drop (length p.costs) flow k (pos 0)

pub at_products : (p : SelectionProblem) (flow : List ℤ) (j : ℕ) → at_arc (on_products p flow) j ≡ at_arc flow (length p.costs + (length p.needs + j))
at_products p flow j =
    get_or-drop (length p.needs) (drop (length p.costs) flow) j (pos 0) ∙ get_or-drop (length p.costs) flow (length p.needs + j) (pos 0)

pub length_parts : (p : SelectionProblem) (flow : List ℤ) → length flow ≡ length p.costs + (length p.needs + length p.gains) → length (on_parts p flow) ≡ length p.costs
length_parts p flow full = length-take-le (length p.costs) flow (omega (arith, full))

pub length_charges : (p : SelectionProblem) (flow : List ℤ) → length flow ≡ length p.costs + (length p.needs + length p.gains) → length (charges_of p flow) ≡ length p.needs
length_charges p flow full =
    let e = length-drop (length p.costs) flow in
    length-take-le (length p.needs) (drop (length p.costs) flow) (omega (arith, full, e))

pub length_products : (p : SelectionProblem) (flow : List ℤ) → length flow ≡ length p.costs + (length p.needs + length p.gains) →
    length (on_products p flow) ≡ length p.gains
length_products p flow full =
    let e = length-drop (length p.costs) flow in
    let f = length-drop (length p.needs) (drop (length p.costs) flow) in
    omega (arith, full, e, f)
