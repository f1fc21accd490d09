-- The partition as it joins the ends of one marked edge after another.
use Rattle.std.proofs.Common.{◌≡◌, ◌≢◌, ℕ, ◌+◌, ◌<◌, List, length, refl, Bool, true, false, cond, arith, ap, sym, ◌∙◌, inl, inr}
use Rattle.std.specs.Prelude.{◌==◌}
use Rattle.std.proofs.lemmas.Bool.{cases_eq, eq-eqb, ne_eqb, both_ways, cond-true, cond-false}
use Rattle.pf_model.specs.Cut.{has}
use Rattle.pf_model.specs.Digraph.{IsDigraph}
use Rattle.pf_graph.specs.Labels.{label}
use Rattle.pf_trees.specs.Trees.{with_ends}
use Rattle.pf_trees.specs.Slots.{edge_at}
use Rattle.pf_trees.specs.State.{IsJoined}

pub joined_starts : (n : ℕ) (ends : List (ℕ × ℕ)) (mark : List Bool) (labels : List ℕ) → length labels ≡ n → ((v : ℕ) → v < n → label labels v ≡ v) → IsJoined n ends mark 0 labels
joined_starts n ends mark labels full is = record {
  full = full;
  inner = λ x h m. absurd (omega arith);
  finest = λ other f h u v hu hv e. ap (label other) (sym (is u hu) ∙ e ∙ is v hv);
}

pub joined_skip : (n : ℕ) (ends : List (ℕ × ℕ)) (mark : List Bool) (x : ℕ) (labels : List ℕ) → IsJoined n ends mark x labels → has mark x ≡ false → IsJoined n ends mark (x + 1) labels
joined_skip n ends mark x labels j none = record {
  full = j.full;
  inner = λ y h m. elim (cases_eq y x) [
    | inl e ↦ absurd (both_ways (has mark x) none (ap (has mark) (sym e) ∙ m))
    | inr ne ↦ j.inner y (omega arith) m
  ];
  finest = λ other f h u v hu hv e. j.finest other f (λ y l m. h y (omega arith) m) u v hu hv e;
}

renamed_p : (p q l : ℕ) → l ≡ p → cond (l == p) q l ≡ q
renamed_p p q l e = cond-true (l == p) q l (eq-eqb l p e)

renamed_not : (p q l : ℕ) → l ≢ p → cond (l == p) q l ≡ l
renamed_not p q l ne = cond-false (l == p) q l (ne_eqb l p ne)

renamed_q : (p q : ℕ) → cond (q == p) q q ≡ q
renamed_q p q = elim (cases_eq q p) [
  | inl e ↦ renamed_p p q q e
  | inr ne ↦ renamed_not p q q ne
]

-- two vertices that a merge put together were together in each partition that joins the ends of the edge
merged_same : (n : ℕ) (other labels : List ℕ) (edge : ℕ × ℕ) → edge.0 < n → edge.1 < n → label other edge.0 ≡ label other edge.1 →
    ((u v : ℕ) → u < n → v < n → label labels u ≡ label labels v → label other u ≡ label other v) → (u v : ℕ) → u < n → v < n →
    cond (label labels u == label labels edge.0) (label labels edge.1) (label labels u) ≡ cond (label labels v == label labels edge.0) (label labels edge.1) (label labels v) →
    label other u ≡ label other v
merged_same n other labels edge a b joined old u v hu hv now = elim (cases_eq (label labels u) (label labels edge.0)) [
  | inl up ↦ elim (cases_eq (label labels v) (label labels edge.0)) [
    | inl vp ↦ old u v hu hv (up ∙ sym vp)
    | inr vn ↦
        let e = sym (renamed_p (label labels edge.0) (label labels edge.1) (label labels u) up) ∙ now ∙ renamed_not (label labels edge.0) (label labels edge.1) (label labels v) vn in
        old u edge.0 hu a up ∙ joined ∙ old edge.1 v b hv e
  ]
  | inr un ↦ elim (cases_eq (label labels v) (label labels edge.0)) [
    | inl vp ↦
        let e = sym (renamed_not (label labels edge.0) (label labels edge.1) (label labels u) un) ∙ now ∙ renamed_p (label labels edge.0) (label labels edge.1) (label labels v) vp in
        old u edge.1 hu b e ∙ sym joined ∙ old edge.0 v a hv (sym vp)
    | inr vn ↦ old u v hu hv (sym (renamed_not (label labels edge.0) (label labels edge.1) (label labels u) un) ∙ now ∙ renamed_not (label labels edge.0) (label labels edge.1) (label labels v) vn)
  ]
]

pub joined_more : (n : ℕ) (ends : List (ℕ × ℕ)) (mark : List Bool) (x : ℕ) (labels labels' : List ℕ) → IsDigraph (with_ends n ends) → IsJoined n ends mark x labels → x < length ends → has mark x ≡ true →
    length labels' ≡ n →
    ((v : ℕ) → v < n → label labels' v ≡ cond (label labels v == label labels (edge_at ends x).0) (label labels (edge_at ends x).1) (label labels v)) →
    IsJoined n ends mark (x + 1) labels'
joined_more n ends mark x labels labels' g j hx mx full is =
    let p : ℕ = label labels (edge_at ends x).0 in
    let q : ℕ = label labels (edge_at ends x).1 in
    let a = g.tails x hx in
    let b = g.heads x hx in
    record {
      full = full;
      inner = λ y h m. elim (cases_eq y x) [
        | inl e ↦ rw e (is (edge_at ends x).0 a ∙ renamed_p p q p refl ∙ sym (renamed_q p q) ∙ sym (is (edge_at ends x).1 b))
        | inr ne ↦
            let before = j.inner y (omega arith) m in
            is (edge_at ends y).0 (g.tails y (omega arith)) ∙ ap (λ l. cond (l == p) q l) before ∙ sym (is (edge_at ends y).1 (g.heads y (omega arith)))
      ];
      finest = λ other f h u v hu hv e.
          merged_same n other labels (edge_at ends x) a b (h x (omega arith) mx) (j.finest other f (λ y l m. h y (omega arith) m)) u v hu hv
          (sym (is u hu) ∙ e ∙ is v hv);
    }
