-- The tree of edges that a search leaves, and the first vertex with room.
use Rattle.std.proofs.Common.{◌≡◌, ◌≢◌, ℕ, ◌+◌, ◌<◌, ◌≤◌, List, length, get_or, set, refl, Bool, true, false, cond, arith, ap, sym, ◌∙◌, inl, inr}
use Rattle.std.specs.Prelude.{ℤ, pos, ◌⊎◌, ◌≤ℤ◌, ◌<ℤ◌, int_lt}
use Rattle.std.proofs.lemmas.Int.{ints}
use Rattle.std.proofs.lemmas.Bool.{both_ways, cases_eq, cases_Bool}
use Rattle.std.proofs.lemmas.List.{length-set, get_or-set_same}
use Rattle.pf_model.specs.Cut.{has, at_arc}
use Rattle.pf_model.specs.Digraph.{Digraph, network_of}
use Rattle.pf_model.specs.Residual.{IsResidual}
use Rattle.pf_model.proofs.Search.{IsSearch, has-set, has-set_new, set_same, has-set_here}
use Rattle.pf_forest.specs.Held.{IsTree, IsHit, IsUnhit, IsShut, HasParent, HoldsAtTail, HoldsAtHead}
use Rattle.pf_model.proofs.Facts.{kept_number}

-- the other end of the edge holds a part of its charge
abbrev pub Holds : Digraph → List ℤ → List ℤ → ℕ → ℕ → ℕ → Type 0
Holds g vector heads a b i = HoldsAtTail g.ends vector heads a b i ⊎ HoldsAtHead g.ends heads a b i

holds_same : (g : Digraph) (vector heads : List ℤ) (a b i i' : ℕ) → i' ≡ i → Holds g vector heads a b i → Holds g vector heads a b i'
holds_same g vector heads a b i i' e h = rw e h

old_parent : (g : Digraph) (vector heads : List ℤ) (side : List Bool) (via rank : List ℕ) (w i put x : ℕ) →
    has side w ≡ false → has side x ≡ true → HasParent g vector heads side via rank x →
    HasParent g vector heads (set side w true) (set via w i) (set rank w put) x
old_parent g vector heads side via rank w i put x out h p =
    let e = kept_number side via w x i out h in
    let l = kept_number side rank w x put out h in
    let l' = kept_number side rank w p.before put out p.marked in
    let d = p.nearer in
    let r = p.in_range in
    record {
      before = p.before;
      marked = has-set side w p.before p.marked;
      nearer = omega (arith, l, l', d);
      in_range = omega (arith, e, r);
      by = holds_same g vector heads p.before x (get_or via x 0) _ e p.by;
    }

new_parent : (g : Digraph) (vector heads : List ℤ) (side : List Bool) (via rank : List ℕ) (now w i put : ℕ) →
    w < length via → w < length rank → has side w ≡ false → has side now ≡ true → get_or rank now 0 < put → i < length g.ends → Holds g vector heads now w i →
    HasParent g vector heads (set side w true) (set via w i) (set rank w put) w
new_parent g vector heads side via rank now w i put low_via low_rank out h less in_range by =
    let e : get_or (set via w i) w 0 ≡ i = rw get_or-set_same refl in
    let l : get_or (set rank w put) w 0 ≡ put = rw get_or-set_same refl in
    let l' = kept_number side rank w now put out h in
    record {
      before = now;
      marked = has-set side w now h;
      nearer = omega (arith, l, l', less);
      in_range = omega (arith, e, in_range);
      by = holds_same g vector heads now w i _ e by;
    }

tree_grows : (g : Digraph) (vector heads : List ℤ) (root : ℕ) (side : List Bool) (via rank : List ℕ) (now w i put : ℕ) →
    IsTree g vector heads root side via rank put → w < length via → w < length rank → has side w ≡ false → has side now ≡ true → i < length g.ends →
    Holds g vector heads now w i →
    IsTree g vector heads root (set side w true) (set via w i) (set rank w put) (put + 1)
tree_grows g vector heads root side via rank now w i put tree low_via low_rank out h in_range by = record {
  parents = λ x marked apart. elim (has-set_new side w x marked) [
    | inl new ↦ rw new (new_parent g vector heads side via rank now w i put low_via low_rank out h (tree.ranks now h) in_range by)
    | inr old ↦ old_parent g vector heads side via rank w i put x out old (tree.parents x old apart)
  ];
  ranks = λ x marked. elim (has-set_new side w x marked) [
    | inl new ↦ let e : get_or (set rank w put) x 0 ≡ put = rw (new, get_or-set_same) refl in omega (arith, e)
    | inr old ↦ let e = kept_number side rank w x put out old in let k = tree.ranks x old in omega (arith, e, k)
  ];
}

visit_tree_cases : (g : Digraph) (vector heads : List ℤ) (root : ℕ) (side : List Bool) (via rank : List ℕ) (now w i put : ℕ) →
    IsTree g vector heads root side via rank put → w < length via → w < length rank → has side now ≡ true → i < length g.ends →
    Holds g vector heads now w i → (marked : Bool) → has side w ≡ marked →
    IsTree g vector heads root (set side w true) (cond marked via (set via w i)) (cond marked rank (set rank w put)) (cond marked put (put + 1))
visit_tree_cases g vector heads root side via rank now w i put tree low_via low_rank h in_range by true e = rw (set_same side w e) tree
visit_tree_cases g vector heads root side via rank now w i put tree low_via low_rank h in_range by false e =
    tree_grows g vector heads root side via rank now w i put tree low_via low_rank e h in_range by

-- the first vertex with room so far, or none
pub record HasHit (rooms : List ℤ) (root skip none : ℕ) (side : List Bool) (hit : ℕ) : Type 0 where
  pub found : hit ≢ none → (has side hit ≡ true) × IsHit rooms root skip hit
  pub nothing : hit ≡ none → (w : ℕ) → has side w ≡ true → IsUnhit rooms root skip w

hit_step : (rooms : List ℤ) (root skip none : ℕ) (side : List Bool) (hit w hit' : ℕ) → HasHit rooms root skip none side hit → has (set side w true) w ≡ true →
    (hit ≢ none → hit' ≡ hit) → (hit ≡ none → hit' ≢ none → IsHit rooms root skip w × (hit' ≡ w)) → (hit ≡ none → hit' ≡ none → IsUnhit rooms root skip w) →
    HasHit rooms root skip none (set side w true) hit'
hit_step rooms root skip none side hit w hit' h there kept taken passed = elim (cases_eq hit none) [
  | inr some ↦
      let e : hit' ≡ hit = kept some in
      record {
        found = λ _. let f = h.found some in rw e (has-set side w hit f.0, f.1);
        nothing = λ e'. absurd (some (sym e ∙ e'));
      }
  | inl first ↦
      record {
        found = λ some. let t = taken first some in rw t.1 (there, t.0);
        nothing = λ still x marked. elim (has-set_new side w x marked) [
          | inl new ↦ rw new (passed first still)
          | inr old ↦ h.nothing first x old
        ];
      }
]

-- the places of a search, and what it keeps of them
pub record IsSweep (g : Digraph) (vector heads rooms : List ℤ) (root skip none : ℕ) (side : List Bool) (via rank : List ℕ) (put hit : ℕ) : Type 0 where
  pub tree : IsTree g vector heads root side via rank put
  pub hits : HasHit rooms root skip none side hit
  pub vias : length via ≡ g.nodes
  pub ranks : length rank ≡ g.nodes

pub same_length : (marked : Bool) (xs ys : List ℕ) (w x n : ℕ) → length xs ≡ n → ys ≡ cond marked xs (set xs w x) → length ys ≡ n
same_length true xs ys w x n full e = ap length e ∙ full
same_length false xs ys w x n full e = ap length e ∙ length-set xs w x ∙ full

pub visit_sweep : (g : Digraph) (vector heads rooms : List ℤ) (root skip none : ℕ) (side : List Bool) (via rank : List ℕ) (put hit now w i : ℕ)
    (side' : List Bool) (via' rank' : List ℕ) (put' hit' : ℕ) →
    IsSweep g vector heads rooms root skip none side via rank put hit → length side ≡ g.nodes → w < g.nodes → has side now ≡ true → i < length g.ends →
    Holds g vector heads now w i →
    side' ≡ set side w true → via' ≡ cond (has side w) via (set via w i) → rank' ≡ cond (has side w) rank (set rank w put) → put' ≡ cond (has side w) put (put + 1) →
    (hit ≢ none → hit' ≡ hit) → (hit ≡ none → hit' ≢ none → IsHit rooms root skip w × (hit' ≡ w)) → (hit ≡ none → hit' ≡ none → IsUnhit rooms root skip w) →
    IsSweep g vector heads rooms root skip none side' via' rank' put' hit'
visit_sweep g vector heads rooms root skip none side via rank put hit now w i side' via' rank' put' hit' s full low h in_range by e1 e2 e3 e4 kept taken passed =
    record {
      tree = rw (e1, e2, e3, e4) (visit_tree_cases g vector heads root side via rank now w i put s.tree (omega (arith, low, s.vias)) (omega (arith, low, s.ranks))
          h in_range by (has side w) refl);
      hits = rw e1 (hit_step rooms root skip none side hit w hit' s.hits (has-set_here side w (omega (arith, low, full))) kept taken passed);
      vias = same_length (has side w) via via' w i g.nodes s.vias e2;
      ranks = same_length (has side w) rank rank' w put g.nodes s.ranks e3;
    }

-- only the root is marked
pub sweep_starts : (g : Digraph) (vector heads rooms : List ℤ) (root skip none : ℕ) (side : List Bool) (via rank : List ℕ) →
    ((x : ℕ) → has side x ≡ true → x ≡ root) → get_or rank root 0 ≡ 0 → length via ≡ g.nodes → length rank ≡ g.nodes →
    IsSweep g vector heads rooms root skip none side via rank 1 none
sweep_starts g vector heads rooms root skip none side via rank only near vias ranks = record {
  tree = record {
    parents = λ x h apart. absurd (apart (only x h));
    ranks = λ x h. let e = ap (λ n. get_or rank n 0) (only x h) in omega (arith, e, near);
  };
  hits = record {
    found = λ some. absurd (some refl);
    nothing = λ _ w h. record { full = λ apart _. absurd (apart (only w h)) };
  };
  vias = vias;
  ranks = ranks;
}

pub tree_put : (g : Digraph) (vector heads : List ℤ) (root : ℕ) (side : List Bool) (via rank : List ℕ) (put n : ℕ) →
    IsTree g vector heads root side via rank put → put ≤ n → IsTree g vector heads root side via rank n
tree_put g vector heads root side via rank put n tree order = record {
  parents = tree.parents;
  ranks = λ w h. let e = tree.ranks w h in omega (arith, e);
}

pub int_cases : (a b : ℤ) → (a ≤ℤ b) ⊎ (b <ℤ a)
int_cases a b = elim (cases_Bool (int_lt b a)) [
  | inl less ↦ inr (omega (arith, ints, less))
  | inr most ↦ inl (omega (arith, ints, most))
]

-- when the queue is empty, no part of a charge can be moved out
pub search_shut : (g : Digraph) (vector heads : List ℤ) (s t : ℕ) (side : List Bool) (queue : List ℕ) (taken put : ℕ) →
    IsSearch (network_of g vector s t) heads side queue taken put → put ≤ taken → IsShut g.ends vector heads side
search_shut g vector heads s t side queue taken put search done =
    let closed : (u w : ℕ) → has side u ≡ true → IsResidual (network_of g vector s t) heads u w → has side w ≡ true = λ u w h r.
    elim (search.waits u h) [
      | inl q ↦ absurd (let a = q.from in let b = q.upto in omega (arith, a, b, done))
      | inr c ↦ c.closed w r
    ] in
    record {
      out = λ i low inside outside. elim (int_cases (at_arc vector i) (at_arc heads i)) [
        | inl most ↦ most
        | inr less ↦ absurd (both_ways _ outside (closed _ _ inside (record { arc = i; in_range = low; by = inl (record { from = refl; to = refl; room = less }) })))
      ];
      into = λ i low inside outside. elim (int_cases (at_arc heads i) (pos 0)) [
        | inl most ↦ most
        | inr less ↦ absurd (both_ways _ outside (closed _ _ inside (record { arc = i; in_range = low; by = inr (record { from = refl; to = refl; room = less }) })))
      ];
    }
