-- All edges raised, row by row.
use Rattle.std.proofs.Common.{◌≡◌, ◌≢◌, ℕ, zero, suc, ◌+◌, ◌<◌, ◌≤◌, ◌^◌, List, [], ◌∷◌, length, get_or, set, replicate, refl, Bool, true, false, cond, eqb, ◌&&◌, arith, ap, sym, ◌∙◌, inl, inr, subst, below_more, zero-add}
use Rattle.std.specs.Prelude.{ℤ, ◌+ℤ◌, ◌-ℤ◌, ◌*ℤ◌, ◌≤ℤ◌, ◌<ℤ◌, pos, ◌==◌}
use Rattle.std.proofs.lemmas.Int.{ints}
use Rattle.std.proofs.lemmas.Bool.{cases_eq, eq-eqb, ne_eqb}
use Rattle.std.proofs.lemmas.List.{length-set, length-replicate, get_or-set_other}
use Rattle.pf_model.specs.Cut.{sum_where, has, at_arc, size}
use Rattle.pf_model.specs.Digraph.{Digraph, IsDigraph, arcs_out}
use Rattle.pf_model.proofs.Augment.{sum_where_set}
use Rattle.pf_model.proofs.Integers.{mul_nonneg}
use Rattle.pf_model.proofs.Numbers.{numbers_find}
use Rattle.pf_model.proofs.Search.{has-set, has-set_here, has_none, size-set}
use Rattle.pf_graph.specs.WeightedGraph as edges
use Rattle.pf_graph.specs.WeightedGraph.{lies_in}
use Rattle.pf_graph.specs.Labels.{label, part}
use Rattle.pf_graph.proofs.Classes.{has-part, length-part}
use Rattle.pf_graph.proofs.Counting.{count, count_more, count_none, occurs_find}
use Rattle.pf_forest.specs.Held.{tail_of, head_of}
use Rattle.pf_forest.specs.Forest.{IsSparse}
use Rattle.pf_forest.specs.Filling.{IsForest, IsDone, IsRaised, IsGoals, CrossingAreFull, HasApartEnds}
use Rattle.pf_forest.proofs.Lent.{number_read}
use Rattle.pf_forest.proofs.Holding.{sum_low, each_set}
use Rattle.pf_forest.proofs.Sets.{count_size}

-- sums of zeros
zero_step : (here : Bool) (a : ℤ) → a ≡ pos 0 → cond here (pos 0) (pos 0) +ℤ a ≡ pos 0
zero_step true a h = omega (arith, ints, h)
zero_step false a h = omega (arith, ints, h)

sum_zeros : (test : ℕ × ℕ → Bool) (ends : List (ℕ × ℕ)) (n : ℕ) → sum_where test ends (replicate n (pos 0)) ≡ pos 0
sum_zeros test [] n = refl
sum_zeros test (edge ∷ ends) zero = refl
sum_zeros test (edge ∷ ends) (suc n) = zero_step (test edge) _ (sum_zeros test ends n)

at_same : (x : ℤ) (n i : ℕ) → i < n → at_arc (replicate n x) i ≡ x
at_same x zero i low = absurd (omega (arith, low))
at_same x (suc n) zero low = refl
at_same x (suc n) (suc i) low = at_same x n i (omega (arith, low))

-- a vertex by itself is one vertex
single_size : (groups : List ℕ) (a : ℕ) → ((v : ℕ) → v < length groups → label groups v ≡ v) → a < length groups → size (part groups a) ≡ 1
single_size groups a own low =
    let full = length-part groups a in
    let n : ℕ = length groups in
    let here : has (part groups a) a ≡ true = has-part groups a a low ∙ eq-eqb _ _ (own a low) in
    let more = count_more n a (λ v. false) (has (part groups a)) low refl here
    (λ v low_v other. sym (has-part groups a v low_v ∙ ne_eqb _ _ (λ e. other (sym (own v low_v) ∙ e)))) in
    let none = count_none n (λ v. false) (λ v low_v. refl) in
    let counted = ap (λ k. count k (has (part groups a))) (sym full) ∙ count_size (part groups a) in
    omega (arith, more, none, counted)

-- nothing is raised yet, and each vertex is a group by itself
pub forest_starts : (g : Digraph) (limit : ℤ) (vector heads rooms : List ℤ) (groups : List ℕ) → pos 0 ≤ℤ limit → limit ≤ℤ pos (2 ^ 80) →
    vector ≡ replicate (length g.ends) (pos 0) → heads ≡ replicate (length g.ends) (pos 0) → rooms ≡ replicate g.nodes limit → length groups ≡ g.nodes →
    ((v : ℕ) → v < g.nodes → label groups v ≡ v) → IsForest g limit vector heads rooms groups
forest_starts g limit vector heads rooms groups low small a b c full own =
    let m : ℕ = length g.ends in
    let at_v : (i : ℕ) → i < m → at_arc vector i ≡ pos 0 = λ i h. ap (λ l. at_arc l i) a ∙ at_same (pos 0) m i h in
    let at_h : (i : ℕ) → i < m → at_arc heads i ≡ pos 0 = λ i h. ap (λ l. at_arc l i) b ∙ at_same (pos 0) m i h in
    let at_r : (v : ℕ) → v < g.nodes → at_arc rooms v ≡ limit = λ v h. ap (λ l. at_arc l v) c ∙ at_same limit g.nodes v h in
    let none : (side : List Bool) → edges.inside g.ends vector side ≡ pos 0 = λ side. ap (sum_where (lies_in side) g.ends) a ∙ sum_zeros (lies_in side) g.ends m in
    record {
      held = record {
        vector_full = ap length a ∙ length-replicate m (pos 0);
        heads_full = ap length b ∙ length-replicate m (pos 0);
        rooms_full = ap length c ∙ length-replicate g.nodes limit;
        low = λ i h. let e = at_h i h in omega (arith, ints, e);
        high = λ i h. let e = at_h i h in let f = at_v i h in omega (arith, ints, e, f);
        rooms_low = λ v h. let e = at_r v h in omega (arith, ints, e, low);
        sums = λ v h.
            let e = at_r v h in
            let x = ap (sum_where (λ arc. arc.0 == v) g.ends) a ∙ sum_zeros (λ arc. arc.0 == v) g.ends m in
            let y = ap (sum_where (λ arc. arc.0 == v) g.ends) b ∙ sum_zeros (λ arc. arc.0 == v) g.ends m in
            let z = ap (sum_where (λ arc. arc.1 == v) g.ends) b ∙ sum_zeros (λ arc. arc.1 == v) g.ends m in
            omega (arith, ints, e, x, y, z);
        small = small;
      };
      sparse = record {
        sparse = λ side length_is some.
            let e = none side in
            let f = mul_nonneg limit (pos (size side) -ℤ pos 1) low (omega (arith, ints, some)) in
            omega (arith, ints, e, f);
      };
      full = full;
      low = λ v h. rw (own v h) h;
      tight = λ x some.
          let f = occurs_find x groups some in
          let is : f.vertex ≡ x = sym (own f.vertex (omega (arith, f.in_range, full))) ∙ f.label_is in
          let one = single_size groups x (λ v h. own v (omega (arith, h, full))) (omega (arith, is, f.in_range)) in
          let e = none (part groups x) in
          let zero_is : pos (size (part groups x)) -ℤ pos 1 ≡ pos 0 = omega (arith, ints, one) in
          let product = ap (λ z. limit *ℤ z) zero_is in
          let nothing : limit *ℤ pos 0 ≡ pos 0 = omega (arith, ints) in
          e ∙ sym (product ∙ nothing);
    }

-- the edges of the rows below u are done
pub record IsFilling (g : Digraph) (goals vector : List ℤ) (groups : List ℕ) (u : ℕ) : Type 0 where
  pub within : (i : ℕ) → i < length g.ends → at_arc vector i ≤ℤ at_arc goals i
  pub done : (i : ℕ) → i < length g.ends → tail_of g.ends i < u → IsDone g goals vector groups i

pub filling_starts : (g : Digraph) (goals vector : List ℤ) (groups : List ℕ) → IsGoals g goals → vector ≡ replicate (length g.ends) (pos 0) → IsFilling g goals vector groups 0
filling_starts g goals vector groups k a = record {
  within = λ i h. let e = ap (λ l. at_arc l i) a ∙ at_same (pos 0) (length g.ends) i h in let f = k.goals_low i h in omega (arith, ints, e, f);
  done = λ i h none. absurd (omega (arith, none));
}

done_stays : (g : Digraph) (goals old new : List ℤ) (groups joined : List ℕ) (e : ℕ) (goal : ℤ) → IsDigraph g → IsRaised g old groups new joined e goal → goal ≡ at_arc goals e →
    (i : ℕ) → i < length g.ends → IsDone g goals old groups i → IsDone g goals new joined i
done_stays g goals old new groups joined e goal graph r same i low d = elim (cases_eq i e) [
  | inl here ↦ rw here (elim r.done [ inl full ↦ inl (full ∙ same) | inr joins ↦ inr joins ])
  | inr other ↦ elim d [
    | inl full ↦ inl (r.others i other ∙ full)
    | inr joins ↦ inr (r.refines.joins _ _ (graph.tails i low) (graph.heads i low) joins)
  ]
]

pub done_here : (g : Digraph) (goals old new : List ℤ) (groups joined : List ℕ) (e : ℕ) (goal : ℤ) → IsRaised g old groups new joined e goal → goal ≡ at_arc goals e →
    IsDone g goals new joined e
done_here g goals old new groups joined e goal r same = elim r.done [ inl full ↦ inl (full ∙ same) | inr joins ↦ inr joins ]

pub filling_goes_on : (g : Digraph) (goals old new : List ℤ) (groups joined : List ℕ) (e : ℕ) (goal : ℤ) (u : ℕ) → IsDigraph g → IsRaised g old groups new joined e goal →
    goal ≡ at_arc goals e → IsFilling g goals old groups u → IsFilling g goals new joined u
filling_goes_on g goals old new groups joined e goal u graph r same f = record {
  within = λ i low. elim (cases_eq i e) [
    | inl here ↦ let most = r.most in rw here (omega (arith, ints, most, same))
    | inr other ↦ let x = r.others i other in let y = f.within i low in omega (arith, ints, x, y)
  ];
  done = λ i low less. done_stays g goals old new groups joined e goal graph r same i low (f.done i low less);
}

-- the edges of one row, as far as the index
abbrev pub IsRowDone : Digraph → List ℤ → List ℤ → List ℕ → List ℕ → ℕ → Type 0
IsRowDone g goals vector groups items n = (k : ℕ) → k < n → IsDone g goals vector groups (get_or items k 0)

pub row_goes_on : (g : Digraph) (goals old new : List ℤ) (groups joined items : List ℕ) (n : ℕ) (goal : ℤ) → IsDigraph g →
    ((k : ℕ) → k < length items → get_or items k 0 < length g.ends) → n < length items →
    IsRaised g old groups new joined (get_or items n 0) goal → goal ≡ at_arc goals (get_or items n 0) → IsRowDone g goals old groups items n →
    IsRowDone g goals new joined items (n + 1)
row_goes_on g goals old new groups joined items n goal graph in_range low r same row =
    below_more (λ k. IsDone g goals new joined (get_or items k 0)) n
    (λ k less. done_stays g goals old new groups joined (get_or items n 0) goal graph r same (get_or items k 0) (in_range k (omega (arith, less, low))) (row k less))
    (done_here g goals old new groups joined (get_or items n 0) goal r same)

pub row_ends : (g : Digraph) (goals vector : List ℤ) (groups items : List ℕ) (n u : ℕ) → IsFilling g goals vector groups u → items ≡ arcs_out g u → length items ≤ n →
    IsRowDone g goals vector groups items n → IsFilling g goals vector groups (u + 1)
row_ends g goals vector groups items n u f is past row = record {
  within = f.within;
  done = λ i low less. elim (cases_eq (tail_of g.ends i) u) [
    | inl here ↦
        let at = numbers_find (λ arc. eqb arc.0 u) 0 g.ends i low (eq-eqb _ u here) in
        let e : get_or (arcs_out g u) at.place 0 ≡ i = at.is ∙ zero-add i in
        let P : List ℕ → Type 0 = λ l. (length l ≤ n) → IsRowDone g goals vector groups l n → IsDone g goals vector groups (get_or l at.place 0) in
        let there = at.in_range in
        let Q : ℕ → Type 0 = λ j. IsDone g goals vector groups j in
        let long : length (arcs_out g u) ≤ n = subst (λ l. length l ≤ n) is past in
        let whole : IsRowDone g goals vector groups (arcs_out g u) n = subst (λ l. IsRowDone g goals vector groups l n) is row in
        subst Q e (whole at.place (omega (arith, there, long)))
    | inr other ↦ f.done i low (omega (arith, less, other))
  ];
}

pub filling_ends : (g : Digraph) (goals vector : List ℤ) (groups : List ℕ) (u : ℕ) → IsDigraph g → g.nodes ≤ u → IsFilling g goals vector groups u → CrossingAreFull g goals vector groups
filling_ends g goals vector groups u graph past f = record {
  done = λ i low. let h = graph.tails i low in f.done i low (omega (arith, h, past));
}

-- one number is at most the sum
number_most : (test : ℕ × ℕ → Bool) (ends : List (ℕ × ℕ)) (xs : List ℤ) (i : ℕ) → length xs ≡ length ends → i < length ends → test (get_or ends i (0, 0)) ≡ true →
    ((k : ℕ) → k < length ends → pos 0 ≤ℤ at_arc xs k) → at_arc xs i ≤ℤ sum_where test ends xs
number_most test ends xs i full low passes nonneg =
    let there : i < length xs = omega (arith, low, full) in
    let e = sum_where_set test ends xs i (pos 0) full low in
    let f = one_cond (test (get_or ends i (0, 0))) (pos 0 -ℤ at_arc xs i) passes in
    let least = sum_low test ends (set xs i (pos 0)) (each_low xs i there (length ends) nonneg) in
    omega (arith, ints, e, f, least)
  where
    one_cond : (here : Bool) (x : ℤ) → here ≡ true → cond here x (pos 0) ≡ x
    one_cond true x e = refl
    one_cond false x e = cc

    each_low : (xs : List ℤ) (i : ℕ) → i < length xs → (n : ℕ) → ((k : ℕ) → k < n → pos 0 ≤ℤ at_arc xs k) → (k : ℕ) → k < n → pos 0 ≤ℤ at_arc (set xs i (pos 0)) k
    each_low xs i there n h = each_set (λ k x. pos 0 ≤ℤ x) xs i (pos 0) n there h (omega (arith, ints))

-- a single edge has at most the limit
pub edge_most : (g : Digraph) (limit : ℤ) (vector : List ℤ) (i : ℕ) → IsDigraph g → IsSparse g limit vector → length vector ≡ length g.ends →
    ((k : ℕ) → k < length g.ends → pos 0 ≤ℤ at_arc vector k) → i < length g.ends → tail_of g.ends i ≢ head_of g.ends i → at_arc vector i ≤ℤ limit
edge_most g limit vector i graph s full nonneg low apart =
    let u : ℕ = tail_of g.ends i in
    let v : ℕ = head_of g.ends i in
    let n : ℕ = g.nodes in
    let empty : List Bool = replicate n false in
    let first : List Bool = set empty u true in
    let both : List Bool = set first v true in
    let full_0 = length-replicate n false in
    let full_1 : length first ≡ n = length-set empty u true ∙ full_0 in
    let full_2 : length both ≡ n = length-set first v true ∙ full_1 in
    let low_u : u < n = graph.tails i low in
    let low_v : v < n = graph.heads i low in
    let there_u : u < length empty = omega (arith, low_u, full_0) in
    let there_v : v < length first = omega (arith, low_v, full_1) in
    let has_v : has first v ≡ false = at_other empty u v (λ e. apart (sym e)) ∙ has_none n v in
    let size_1 = size-set empty u there_u (has_none n u) in
    let size_2 = size-set first v there_v has_v in
    let size_0 = size_empty n in
    let in_u : has both u ≡ true = has-set first v u (has-set_here empty u there_u) in
    let in_v : has both v ≡ true = has-set_here first v there_v in
    let part_most = number_most (lies_in both) g.ends vector i full low (both_true _ _ in_u in_v) nonneg in
    let two : size both ≡ 2 = omega (arith, size_0, size_1, size_2) in
    let most = s.sparse both full_2 (omega (arith, two)) in
    let one : pos (size both) -ℤ pos 1 ≡ pos 1 = omega (arith, ints, two) in
    let product = ap (λ z. limit *ℤ z) one in
    let same : limit *ℤ pos 1 ≡ limit = omega (arith, ints) in
    omega (arith, ints, part_most, most, product, same)
  where
    at_other : (side : List Bool) (u v : ℕ) → v ≢ u → has (set side u true) v ≡ has side v
    at_other side u v ne = rw get_or-set_other refl

    size_empty : (n : ℕ) → size (replicate n false) ≡ 0
    size_empty zero = refl
    size_empty (suc n) = let rest = size_empty n in omega (arith, rest)

    both_true : (p q : Bool) → p ≡ true → q ≡ true → (p && q) ≡ true
    both_true true true a b = refl
    both_true true false a b = cc
    both_true false q a b = cc

-- a number that was read is that of edge i, and at most the limit
pub record IsEdgeAtMost (limit : ℤ) (vector : List ℤ) (i : ℕ) (read : ℤ) : Type 0 where
  pub is : read ≡ at_arc vector i
  pub low : pos 0 ≤ℤ at_arc vector i
  pub most : at_arc vector i ≤ℤ limit
  pub small : limit ≤ℤ pos (2 ^ 80)

pub edge_at_most : (g : Digraph) (limit : ℤ) (vector heads rooms : List ℤ) (groups : List ℕ) (i : ℕ) (read : ℤ) → IsDigraph g → IsForest g limit vector heads rooms groups →
    HasApartEnds g.ends → i < length g.ends → read ≡ get_or vector i read → IsEdgeAtMost limit vector i read
edge_at_most g limit vector heads rooms groups i read graph f ends low e =
    let nonneg : (k : ℕ) → k < length g.ends → pos 0 ≤ℤ at_arc vector k = λ k in_range.
    let x = f.held.low k in_range in let y = f.held.high k in_range in omega (arith, ints, x, y) in
    record {
      is = number_read vector i read e (omega (arith, low, f.held.vector_full));
      low = nonneg i low;
      most = edge_most g limit vector i graph f.sparse f.held.vector_full nonneg low (ends.apart i low);
      small = f.held.small;
    }

-- so an edge whose goal is past what it can have comes into one group
pub raise_joins : (g : Digraph) (limit : ℤ) (old vector heads rooms : List ℤ) (groups joined : List ℕ) (i : ℕ) (goal : ℤ) → IsDigraph g → IsForest g limit vector heads rooms joined →
    HasApartEnds g.ends → i < length g.ends → IsRaised g old groups vector joined i goal → limit <ℤ goal →
    label joined (tail_of g.ends i) ≡ label joined (head_of g.ends i)
raise_joins g limit old vector heads rooms groups joined i goal graph f ends low r past = elim r.done [
  | inr joins ↦ joins
  | inl full ↦
      let nonneg : (k : ℕ) → k < length g.ends → pos 0 ≤ℤ at_arc vector k = λ k in_range.
      let x = f.held.low k in_range in let y = f.held.high k in_range in omega (arith, ints, x, y) in
      let most = edge_most g limit vector i graph f.sparse f.held.vector_full nonneg low (ends.apart i low) in
      absurd (omega (arith, ints, full, most, past))
]
