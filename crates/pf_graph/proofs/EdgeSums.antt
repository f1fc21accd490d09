-- Sums over edges and over vertices, taken one by one.
use Rattle.std.proofs.Common.{◌≡◌, ℕ, zero, suc, ◌+◌, ◌*◌, ◌^◌, ◌<◌, ◌≤◌, List, [], ◌∷◌, length, get_or, take, map, Bool, true, false, cond, arith, ap, sym, ◌∙◌, add-one}
use Rattle.std.specs.Prelude.{ℤ, ◌+ℤ◌, ◌≤ℤ◌, pos}
use Rattle.std.proofs.lemmas.Int.{ints}
use Rattle.std.proofs.lemmas.List.{length-map}
use Rattle.pf_model.specs.Cut.{sum_where, has}
use Rattle.pf_model.proofs.Sums.{sum_next, none_after, take_whole}
use Rattle.pf_graph.specs.WeightedGraph.{cost_of}
use Rattle.pf_graph.specs.Labels.{crosses, crossing_edges}
use Rattle.pf_model.proofs.Facts.{number_at}

pub edge_test : (f : ℕ → ℕ → Bool) (edge : ℕ × ℕ) (u v : ℕ) (b : Bool) → u ≡ edge.0 → v ≡ edge.1 → b ≡ f u v → f edge.0 edge.1 ≡ b
edge_test f edge u v b e h k = ap (λ n. f n edge.1) (sym e) ∙ ap (f u) (sym h) ∙ sym k

-- the sum over the first i edges that pass
pub record IsSum (test : ℕ × ℕ → Bool) (ends : List (ℕ × ℕ)) (numbers : List ℕ) (i : ℕ) (sum : ℤ) : Type 0 where
  pub sum_is : sum ≡ sum_where test (take i ends) (take i (map pos numbers))
  pub low : pos 0 ≤ℤ sum
  pub high : sum ≤ℤ pos (i * 2 ^ 32)

high_step : (here : Bool) (x z : ℤ) (y i m : ℕ) → x ≤ℤ pos (i * m) → y ≤ m → z ≡ x +ℤ cond here (pos y) (pos 0) → z ≤ℤ pos ((i + 1) * m)
high_step true x z y i m h k e = let more : (i + 1) * m ≡ i * m + m = grind arith in omega (arith, ints, h, k, e, more)
high_step false x z y i m h k e = let more : (i + 1) * m ≡ i * m + m = grind arith in omega (arith, ints, h, e, more)

low_step : (here : Bool) (x z : ℤ) (y : ℕ) → pos 0 ≤ℤ x → z ≡ x +ℤ cond here (pos y) (pos 0) → pos 0 ≤ℤ z
low_step true x z y h e = omega (arith, ints, h, e)
low_step false x z y h e = omega (arith, ints, h, e)

pub next_sum : (test : ℕ × ℕ → Bool) (ends : List (ℕ × ℕ)) (numbers : List ℕ) (i : ℕ) (x z : ℤ) (here : Bool) → length numbers ≡ length ends → i < length ends →
    IsSum test ends numbers i x → test (get_or ends i (0, 0)) ≡ here → get_or numbers i 0 ≤ 2 ^ 32 → z ≡ x +ℤ cond here (pos (get_or numbers i 0)) (pos 0) →
    IsSum test ends numbers (i + 1) z
next_sum test ends numbers i x z here full low sum is small step =
    let long = length-map numbers pos in
    let at = number_at numbers i (omega (arith, low, full)) in
    record {
      sum_is = sum_next test ends (map pos numbers) i x z here (omega (arith, full, long)) low sum.sum_is is (step ∙ ap (λ n. x +ℤ cond here n (pos 0)) (sym at));
      low = low_step here x z (get_or numbers i 0) sum.low step;
      high = high_step here x z (get_or numbers i 0) i (2 ^ 32) sum.high small step;
    }

-- the same of the costs of the vertices of a side
pub record IsCost (costs : List ℕ) (side : List Bool) (v : ℕ) (sum : ℤ) : Type 0 where
  pub sum_is : sum ≡ cost_of (map pos (take v costs)) (take v side)
  pub low : pos 0 ≤ℤ sum
  pub high : sum ≤ℤ pos (v * 2 ^ 32)

pub cost_step : (a b c d : ℤ) → b ≡ c +ℤ d → a +ℤ b ≡ (a +ℤ c) +ℤ d
cost_step a b c d e = omega (arith, ints, e)

cost_more : (costs : List ℕ) (side : List Bool) (v : ℕ) → length side ≡ length costs → v < length costs →
    cost_of (map pos (take (suc v) costs)) (take (suc v) side)
    ≡ cost_of (map pos (take v costs)) (take v side) +ℤ cond (has side v) (pos (get_or costs v 0)) (pos 0)
cost_more [] side v full low = absurd (omega arith)
cost_more (x ∷ costs) [] v full low = absurd (omega arith)
cost_more (x ∷ costs) (b ∷ side) zero full low = none_after (cond b (pos x) (pos 0))
cost_more (x ∷ costs) (b ∷ side) (suc v) full low = cost_step (cond b (pos x) (pos 0)) _ _ _ (cost_more costs side v (omega arith) (omega arith))

pub next_cost : (costs : List ℕ) (side : List Bool) (v : ℕ) (x z : ℤ) (here : Bool) → length side ≡ length costs → v < length costs →
    IsCost costs side v x → has side v ≡ here → get_or costs v 0 ≤ 2 ^ 32 → z ≡ x +ℤ cond here (pos (get_or costs v 0)) (pos 0) →
    IsCost costs side (v + 1) z
next_cost costs side v x z here full low sum is small step =
    let more = cost_more costs side v full low in
    let same = ap (λ b. cond b (pos (get_or costs v 0)) (pos 0)) is in
    let before = sum.sum_is in
    record {
      sum_is = rw add-one (step ∙ ap (λ n. n +ℤ cond here (pos (get_or costs v 0)) (pos 0)) before
          ∙ ap (λ n. cost_of (map pos (take v costs)) (take v side) +ℤ n) (sym same) ∙ sym more);
      low = low_step here x z (get_or costs v 0) sum.low step;
      high = high_step here x z (get_or costs v 0) v (2 ^ 32) sum.high small step;
    }

pub whole_cost : (costs : List ℕ) (side : List Bool) (v : ℕ) (x : ℤ) → length side ≡ length costs → length costs ≤ v →
    IsCost costs side v x → x ≡ cost_of (map pos costs) side
whole_cost costs side v x full all sum =
    sum.sum_is ∙ ap (λ xs. cost_of (map pos xs) (take v side)) (take_whole costs v all)
    ∙ ap (cost_of (map pos costs)) (take_whole side v (omega (arith, full, all)))

-- and of the number of edges that cross
pub record IsCount (labels : List ℕ) (ends : List (ℕ × ℕ)) (i count : ℕ) : Type 0 where
  pub count_is : count ≡ crossing_edges (take i ends) labels
  pub few : count ≤ i

count_last : (a : ℕ) → a + 0 ≡ 0 + a
count_last a = omega arith

count_step : (a b c d : ℕ) → b ≡ c + d → a + b ≡ (a + c) + d
count_step a b c d e = omega (arith, e)

count_more : (labels : List ℕ) (ends : List (ℕ × ℕ)) (i : ℕ) → i < length ends →
    crossing_edges (take (suc i) ends) labels ≡ crossing_edges (take i ends) labels + cond (crosses labels (get_or ends i (0, 0))) 1 0
count_more labels [] i low = absurd (omega arith)
count_more labels (edge ∷ ends) zero low = count_last (cond (crosses labels edge) 1 0)
count_more labels (edge ∷ ends) (suc i) low = count_step (cond (crosses labels edge) 1 0) _ _ _ (count_more labels ends i (omega arith))

few_step : (here : Bool) (count i z : ℕ) → count ≤ i → z ≡ count + cond here 1 0 → z ≤ i + 1
few_step true count i z h e = omega (arith, h, e)
few_step false count i z h e = omega (arith, h, e)

pub next_count : (labels : List ℕ) (ends : List (ℕ × ℕ)) (i count z : ℕ) (here : Bool) → i < length ends → IsCount labels ends i count →
    crosses labels (get_or ends i (0, 0)) ≡ here → z ≡ count + cond here 1 0 → IsCount labels ends (i + 1) z
next_count labels ends i count z here low sum is step =
    let more = count_more labels ends i low in
    let same = ap {B = ℕ} (λ b. cond b 1 0) is in
    let before = sum.count_is in
    record {
      count_is = rw add-one (omega (arith, more, same, before, step));
      few = few_step here count i z sum.few step;
    }
