-- Steps of the search for the dropped vertices.
use Rattle.std.proofs.Common.{◌≡◌, ◌≢◌, ℕ, ◌+◌, ◌<◌, List, [], ◌∷◌, zero, suc, length, get_or, set, map, refl, Bool, true, false, not, ◌||◌, arith, ap, sym, ◌∙◌, inl, inr}
use Rattle.std.specs.Prelude.{ℤ, pos, int_lt}
use Rattle.std.proofs.lemmas.Int.{ints}
use Rattle.std.proofs.lemmas.Bool.{cases_eq, cases_Bool}
use Rattle.std.proofs.lemmas.List.{get_or-set_same, get_or-set_other}
use Rattle.pf_model.specs.Cut.{has, at_arc, IsContained}
use Rattle.pf_model.specs.Fraction.{Fraction, IsParameter}
use Rattle.pf_ratio.specs.declared.link.Link.{Link}
use Rattle.pf_ratio.specs.Marking.{IsMarkedBy}
use Rattle.pf_ratio.proofs.MarkingLemmas.{less_told, less_true, same_marks}
use Rattle.pf_graph.specs.WeightedGraph.{WeightedGraph}
use Rattle.pf_dense.specs.Densest.{IsNonempty}
use Rattle.pf_dense.specs.Certificate.{first_end, second_end, second_charge, allowance, AreCharges, AreWithin, KeepsRules, CertifiesDense}
use Rattle.pf_dense.specs.Dropping.{HasCharged, IsStart, edge_link, edges_at, IsDroppedBy}
use Rattle.pf_model.proofs.Facts.{or_left, or_right}

-- an edge as a link
abbrev link_at : ℕ → ℕ → ℤ → ℤ → Link
link_at u v x y = record { first = u; second = v; to_first = int_lt (pos 0) x; to_second = int_lt (pos 0) y }

pub link_made : (g : WeightedGraph) (x : Fraction) (charges : List ℤ) (i u v : ℕ) (c d : ℤ) → u ≡ first_end g i → v ≡ second_end g i → c ≡ at_arc charges i →
    d ≡ second_charge g x charges i → link_at u v c d ≡ edge_link g x charges i
link_made g x charges i u v c d e f h k = rw (e, f, h, k) refl

-- one vertex more that may be charged too little
pub start_more : (g : WeightedGraph) (x : Fraction) (sums : List ℤ) (v : ℕ) (marks : List Bool) (a b : ℤ) → IsStart g x sums v marks → v < length marks →
    a ≡ at_arc sums v → b ≡ allowance g x v → IsStart g x sums (v + 1) (set marks v (int_lt a b))
start_more g x sums v marks a b s low e f =
    let here : has (set marks v (int_lt a b)) v ≡ int_lt a b = rw get_or-set_same refl in
    let there : (u : ℕ) → u ≢ v → has (set marks v (int_lt a b)) u ≡ has marks u = λ u ne. rw get_or-set_other refl in
    let test : int_lt a b ≡ int_lt (at_arc sums v) (allowance g x v) = rw (e, f) refl in
    record {
      strict = λ u less more. elim (cases_eq u v) [
        | inl same ↦ rw same (here ∙ test ∙ less_true _ _ (rw same at more))
        | inr other ↦ there u other ∙ s.strict u (omega (arith, less, other)) more
      ];
      only = λ u h. elim (cases_eq u v) [
        | inl same ↦ omega (arith, same)
        | inr other ↦ (let before = s.only u (sym (there u other) ∙ h) in omega (arith, before))
      ];
      below = λ u h. elim (cases_eq u v) [
        | inl same ↦ rw same (less_told _ _ (sym test ∙ sym here ∙ rw same at h))
        | inr other ↦ s.below u (sym (there u other) ∙ h)
      ];
    }

-- the marked vertices with their edges are the dropped ones
edge_at : (marks : List Bool) (ends : List (ℕ × ℕ)) (i : ℕ) → i < length ends →
    has (map (λ edge. has marks edge.0 || has marks edge.1) ends) i ≡ (has marks (get_or ends i (0, 0)).0 || has marks (get_or ends i (0, 0)).1)
edge_at marks [] i low = absurd (omega arith)
edge_at marks (edge ∷ ends) zero low = refl
edge_at marks (edge ∷ ends) (suc i) low = edge_at marks ends i (omega arith)

edge_low : (marks : List Bool) (ends : List (ℕ × ℕ)) (i : ℕ) → has (map (λ edge. has marks edge.0 || has marks edge.1) ends) i ≡ true → i < length ends
edge_low marks [] i h = cc
edge_low marks (edge ∷ ends) zero h = omega arith
edge_low marks (edge ∷ ends) (suc i) h = let rest = edge_low marks ends i h in omega (arith, rest)

second_if : (p q : Bool) → (p || q) ≡ true → p ≡ false → q ≡ true
second_if true q e h = cc
second_if false q e h = e

-- the vertices that are charged less than they may be, and what they drop
forced : (g : WeightedGraph) (x : Fraction) (charges sums : List ℤ) (start marks : List Bool) → HasCharged g x charges sums → IsStart g x sums g.nodes start →
    IsMarkedBy (edge_link g x charges) (length g.ends) start marks → (vertices edges : List Bool) → KeepsRules g x charges vertices edges → IsContained marks vertices
forced g x charges sums start marks s b m vertices edges rules =
    m.least vertices
    (record {
      each = λ i low. record {
        first_is = λ held asked. rules.first_by_edge i low (rules.edge_by_second i low held) (less_told (pos 0) (at_arc charges i) asked);
        second_is = λ held asked. rules.second_by_edge i low (rules.edge_by_first i low held) (less_told (pos 0) (second_charge g x charges i) asked);
      };
    })
    (λ v h.
    let low = b.only v h in
    let less = b.below v h in
    let e = s.each v low in
    rules.strict v low (omega (arith, ints, less, e)))

pub dropped_by : (g : WeightedGraph) (x : Fraction) (charges sums : List ℤ) (start marks : List Bool) → HasCharged g x charges sums → IsStart g x sums g.nodes start →
    IsMarkedBy (edge_link g x charges) (length g.ends) start marks → IsDroppedBy g x charges marks
dropped_by g x charges sums start marks s b m = record {
  rules = record {
    strict = λ v low less. let e = s.each v low in m.more v (b.strict v low (omega (arith, ints, less, e)));
    edge_by_first = λ i low h. edge_at marks g.ends i low ∙ or_left _ _ h;
    edge_by_second = λ i low h. edge_at marks g.ends i low ∙ or_right _ _ h;
    first_by_edge = λ i low h more. elim (cases_Bool (has marks (first_end g i))) [
      | inl held ↦ held
      | inr off ↦ (m.kept.each i low).first_is (second_if _ _ (sym (edge_at marks g.ends i low) ∙ h) off) (less_true (pos 0) (at_arc charges i) more)
    ];
    second_by_edge = λ i low h more. elim (cases_Bool (has marks (first_end g i))) [
      | inl held ↦ (m.kept.each i low).second_is held (less_true (pos 0) (second_charge g x charges i) more)
      | inr off ↦ second_if _ _ (sym (edge_at marks g.ends i low) ∙ h) off
    ];
  };
  least_vertices = forced g x charges sums start marks s b m;
  least_edges = λ vertices edges rules i h.
      let low = edge_low marks g.ends i h in
      elim (cases_Bool (has marks (first_end g i))) [
        | inl held ↦ rules.edge_by_first i low (forced g x charges sums start marks s b m vertices edges rules (first_end g i) held)
        | inr off ↦ rules.edge_by_second i low
            (forced g x charges sums start marks s b m vertices edges rules (second_end g i) (second_if _ _ (sym (edge_at marks g.ends i low) ∙ h) off))
      ];
}

pub rest_of : (g : WeightedGraph) (x : Fraction) (set marks : List Bool) (charges : List ℤ) → IsDroppedBy g x charges marks → CertifiesDense g x set charges →
    (v : ℕ) → v < length set → has set v ≡ not (has marks v)
rest_of g x set marks charges d c v low =
    let full = c.full in
    let e = same_marks (has c.vertices v) (has marks v) (c.dropped.least_vertices marks (edges_at g marks) d.rules v) (d.least_vertices c.vertices c.edges c.dropped.rules v) in
    c.rest v (omega (arith, low, full)) ∙ ap not e

-- the parts of a certificate
pub certified : (g : WeightedGraph) (x : Fraction) (set marks : List Bool) (charges : List ℤ) → IsParameter x → length set ≡ g.nodes → AreCharges g x charges →
    AreWithin g x charges → IsDroppedBy g x charges marks → ((v : ℕ) → v < length set → has set v ≡ not (has marks v)) → IsNonempty set → CertifiesDense g x set charges
certified g x set marks charges unit full a w d rest some = record {
  parameter = unit;
  charges_are = a;
  within = w;
  vertices = marks;
  edges = edges_at g marks;
  dropped = d;
  full = full;
  rest = λ v low. rest v (omega (arith, low, full));
  some = some;
}

pub carried : (g : WeightedGraph) (x x' : Fraction) (set set' : List Bool) (charges charges' : List ℤ) → x' ≡ x → set' ≡ set → charges' ≡ charges →
    CertifiesDense g x set charges → CertifiesDense g x' set' charges'
carried g x x' set set' charges charges' a b c k = rw (a, b, c) k
