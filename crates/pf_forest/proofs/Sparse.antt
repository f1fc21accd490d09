-- Sparse vectors and tight sets.
use Rattle.std.proofs.Common.{◌≡◌, ℕ, zero, suc, ◌<◌, List, [], ◌∷◌, length, get_or, set, refl, Bool, true, false, cond, arith, ap, sym, ◌∙◌}
use Rattle.std.specs.Prelude.{ℤ, ◌+ℤ◌, ◌-ℤ◌, ◌*ℤ◌, ◌≤ℤ◌, pos}
use Rattle.std.proofs.lemmas.Int.{ints}
use Rattle.std.proofs.lemmas.Bool.{both_ways}
use Rattle.pf_model.specs.Cut.{has, size, at_arc, union, intersection}
use Rattle.pf_model.specs.Digraph.{Digraph}
use Rattle.pf_model.proofs.Augment.{sum_where_set}
use Rattle.pf_model.proofs.Exchange.{has-union, has-intersection, length-union, length-intersection}
use Rattle.pf_model.proofs.Integers.{mul_add}
use Rattle.pf_model.proofs.Sums.{sum_where_same}
use Rattle.pf_graph.specs.WeightedGraph as edges
use Rattle.pf_graph.specs.WeightedGraph.{lies_in}
use Rattle.pf_graph.proofs.Counting.{count, count_same}
use Rattle.pf_graph.proofs.Supermodular.{inside_supermodular, size_modular}
use Rattle.pf_forest.specs.Forest.{IsSparse}
use Rattle.pf_forest.specs.Filling.{IsTight}
use Rattle.pf_forest.proofs.Sets.{count_size, times_less}

-- a side with a vertex has a size
pub some_size : (side : List Bool) (v : ℕ) → has side v ≡ true → 0 < size side
some_size [] v h = absurd (both_ways _ refl h)
some_size (true ∷ side) v h = omega arith
some_size (false ∷ side) zero h = absurd (both_ways _ refl h)
some_size (false ∷ side) (suc v) h = let rest = some_size side v h in omega (arith, rest)

-- sides with the same vertices
pub same_inside : (ends : List (ℕ × ℕ)) (numbers : List ℤ) (first second : List Bool) → ((v : ℕ) → has first v ≡ has second v) →
    edges.inside ends numbers first ≡ edges.inside ends numbers second
same_inside ends numbers first second same =
    sum_where_same (lies_in first) (lies_in second) ends numbers (λ arc. rw (same arc.0, same arc.1) refl)

pub same_size : (first second : List Bool) → length first ≡ length second → ((v : ℕ) → has first v ≡ has second v) → size first ≡ size second
same_size first second full same =
    sym (count_size first) ∙ ap (λ n. count n (has first)) full ∙ count_same (length second) (has first) (has second) (λ v low. same v) ∙ count_size second

pub same_tight : (g : Digraph) (limit : ℤ) (vector : List ℤ) (first second : List Bool) → length first ≡ length second → ((v : ℕ) → has first v ≡ has second v) →
    IsTight g limit vector first → IsTight g limit vector second
same_tight g limit vector first second full same t = record {
  tight = sym (same_inside g.ends vector first second same) ∙ t.tight ∙ ap (λ n. limit *ℤ (pos n -ℤ pos 1)) (same_size first second full same);
}

-- tight sets that meet have a tight union
pub tight_union : (g : Digraph) (limit : ℤ) (vector : List ℤ) (first second : List Bool) (r : ℕ) → IsSparse g limit vector →
    ((i : ℕ) → i < length g.ends → pos 0 ≤ℤ at_arc vector i) → length first ≡ g.nodes → length second ≡ g.nodes →
    has first r ≡ true → has second r ≡ true → IsTight g limit vector first → IsTight g limit vector second → IsTight g limit vector (union first second)
tight_union g limit vector first second r s low full full' h h' t t' =
    let both : has (intersection first second) r ≡ true = has-intersection first second r ∙ rw (h, h') refl in
    let any : has (union first second) r ≡ true = has-union first second r ∙ rw h refl in
    let more = inside_supermodular g.ends vector first second low in
    let sizes = size_modular first second in
    let meet = s.sparse (intersection first second) (length-intersection first second (full ∙ sym full') ∙ full) (some_size (intersection first second) r both) in
    let join = s.sparse (union first second) (length-union first second (full ∙ sym full') ∙ full) (some_size (union first second) r any) in
    let a = times_less limit (size first) in
    let b = times_less limit (size second) in
    let c = times_less limit (size (union first second)) in
    let d = times_less limit (size (intersection first second)) in
    let e = mul_add limit (pos (size (union first second))) (pos (size (intersection first second))) in
    let f = mul_add limit (pos (size first)) (pos (size second)) in
    let same : pos (size (union first second)) +ℤ pos (size (intersection first second)) ≡ pos (size first) +ℤ pos (size second) = omega (arith, ints, sizes) in
    let product = ap (λ x. limit *ℤ x) same in
    let tight = t.tight in
    let tight' = t'.tight in
    record { tight = omega (arith, ints, more, meet, join, a, b, c, d, e, f, product, tight, tight') }

-- raising an edge that does not lie in the side leaves the sum inside
pub zero_cond : (here : Bool) (x : ℤ) → here ≡ false → cond here x (pos 0) ≡ pos 0
zero_cond true x e = cc
zero_cond false x e = refl

pub inside_set : (ends : List (ℕ × ℕ)) (vector : List ℤ) (side : List Bool) (i : ℕ) (y : ℤ) → length vector ≡ length ends → i < length ends →
    lies_in side (get_or ends i (0, 0)) ≡ false → edges.inside ends (set vector i y) side ≡ edges.inside ends vector side
inside_set ends vector side i y full low off =
    let e = sum_where_set (lies_in side) ends vector i y full low in
    let f = zero_cond (lies_in side (get_or ends i (0, 0))) (y -ℤ at_arc vector i) off in
    omega (arith, ints, e, f)
