-- The sum over the arcs of a list, by their numbers.
use Rattle.std.proofs.Common.{◌≡◌, ℕ, zero, suc, ◌+◌, ◌<◌, ◌≤◌, List, [], ◌∷◌, length, get_or, take, Bool, true, false, cond, refl, sym, ap, ◌∙◌, arith}
use Rattle.std.specs.Prelude.{ℤ, ◌+ℤ◌, pos, ◌==◌}
use Rattle.std.proofs.lemmas.Int.{ints}
use Rattle.pf_model.specs.Cut.{sum_where, at_arc}
use Rattle.pf_model.specs.Digraph.{Digraph, numbers_from, arcs_out, arcs_in}
use Rattle.pf_model.specs.Flow.{sum_out, sum_in}
use Rattle.pf_model.proofs.Sums.{take_whole}

-- the sum of the numbers in these places
abbrev pub total : List ℤ → List ℕ → ℤ
total numbers [] = pos 0
total numbers (i ∷ places) = at_arc numbers i +ℤ total numbers places

pub total_next : (numbers : List ℤ) (places : List ℕ) (k : ℕ) → k < length places →
    total numbers (take (suc k) places) ≡ total numbers (take k places) +ℤ at_arc numbers (get_or places k 0)
total_next numbers [] k low = absurd (omega arith)
total_next numbers (i ∷ places) zero low = omega (arith, ints)
total_next numbers (i ∷ places) (suc k) low =
    let rest = total_next numbers places k (omega arith) in
    omega (arith, ints, rest)

few_step : (here : Bool) (j : ℕ) (rest : List ℕ) (n : ℕ) → length rest ≤ n → length (cond here (j ∷ rest) rest) ≤ suc n
few_step true j rest n low = omega (arith, low)
few_step false j rest n low = omega (arith, low)

-- no more arcs pass a test than there are
pub numbers_few : (test : ℕ × ℕ → Bool) (j : ℕ) (arcs : List (ℕ × ℕ)) → length (numbers_from test j arcs) ≤ length arcs
numbers_few test j [] = omega arith
numbers_few test j (arc ∷ arcs) = few_step (test arc) j (numbers_from test (suc j) arcs) (length arcs) (numbers_few test (suc j) arcs)

total_step : (here : Bool) (numbers : List ℤ) (j : ℕ) (rest : List ℕ) (x s : ℤ) → at_arc numbers j ≡ x → total numbers rest ≡ s →
    total numbers (cond here (j ∷ rest) rest) ≡ cond here x (pos 0) +ℤ s
total_step true numbers j rest x s e h = omega (arith, ints, e, h)
total_step false numbers j rest x s e h = omega (arith, ints, e, h)

-- where the numbers of the arcs from j on are these, the sum in the places of those that pass is the sum over those that pass
total_from : (test : ℕ × ℕ → Bool) (numbers : List ℤ) (j : ℕ) (arcs : List (ℕ × ℕ)) (xs : List ℤ) → length xs ≡ length arcs →
    ((i : ℕ) → at_arc numbers (j + i) ≡ at_arc xs i) → total numbers (numbers_from test j arcs) ≡ sum_where test arcs xs
total_from test numbers j [] xs full same = refl
total_from test numbers j (arc ∷ arcs) [] full same = absurd (omega (arith, full))
total_from test numbers j (arc ∷ arcs) (x ∷ xs) full same =
    total_step (test arc) numbers j (numbers_from test (suc j) arcs) x (sum_where test arcs xs)
    (let e : j + 0 ≡ j = omega arith in ap (at_arc numbers) (sym e) ∙ same 0)
    (total_from test numbers (suc j) arcs xs (omega (arith, full)) (λ i. let e : suc j + i ≡ j + suc i = omega arith in ap (at_arc numbers) e ∙ same (suc i)))

pub total_is : (test : ℕ × ℕ → Bool) (arcs : List (ℕ × ℕ)) (numbers : List ℤ) → length numbers ≡ length arcs →
    total numbers (numbers_from test 0 arcs) ≡ sum_where test arcs numbers
total_is test arcs numbers full = total_from test numbers 0 arcs numbers full (λ i. let e : 0 + i ≡ i = omega arith in ap (at_arc numbers) e)

-- ---- the arcs at one node

pub out_few : (g : Digraph) (v : ℕ) (items : List ℕ) → items ≡ arcs_out g v → length items ≤ length g.ends
out_few g v items e =
    let few : length (arcs_out g v) ≤ length g.ends = numbers_few (λ arc. arc.0 == v) 0 g.ends in
    let same : length items ≡ length (arcs_out g v) = ap (λ (xs : List ℕ). length xs) e in
    omega (arith, few, same)

pub in_few : (g : Digraph) (v : ℕ) (items : List ℕ) → items ≡ arcs_in g v → length items ≤ length g.ends
in_few g v items e =
    let few : length (arcs_in g v) ≤ length g.ends = numbers_few (λ arc. arc.1 == v) 0 g.ends in
    let same : length items ≡ length (arcs_in g v) = ap (λ (xs : List ℕ). length xs) e in
    omega (arith, few, same)

pub total_more : (numbers : List ℤ) (places : List ℕ) (k : ℕ) → k < length places →
    total numbers (take (k + 1) places) ≡ total numbers (take k places) +ℤ at_arc numbers (get_or places k 0)
total_more numbers places k low =
    let one : k + 1 ≡ suc k = omega arith in
    ap (λ (n : ℕ). total numbers (take n places)) one ∙ total_next numbers places k low

pub out_total : (g : Digraph) (v : ℕ) (numbers : List ℤ) (items : List ℕ) (k : ℕ) → length numbers ≡ length g.ends → items ≡ arcs_out g v → length items ≤ k →
    total numbers (take k items) ≡ sum_out g.ends numbers v
out_total g v numbers items k full e all =
    ap (total numbers) (take_whole items k all) ∙ ap (total numbers) e ∙ total_is (λ arc. arc.0 == v) g.ends numbers full

pub in_total : (g : Digraph) (v : ℕ) (numbers : List ℤ) (items : List ℕ) (k : ℕ) → length numbers ≡ length g.ends → items ≡ arcs_in g v → length items ≤ k →
    total numbers (take k items) ≡ sum_in g.ends numbers v
in_total g v numbers items k full e all =
    ap (total numbers) (take_whole items k all) ∙ ap (total numbers) e ∙ total_is (λ arc. arc.1 == v) g.ends numbers full
