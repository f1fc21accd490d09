-- An edge takes a free slot: what stays true of slots, trees and the rest of the chain.
use Rattle.std.proofs.Common.{◌≡◌, ◌≢◌, ℕ, zero, suc, ◌+◌, ◌-◌, ◌*◌, ◌/◌, ◌<◌, ◌≤◌, List, [], ◌∷◌, length, set, refl, Bool, true, false, cond, not, ◌&&◌, ltb, arith, ap, sym, ◌∙◌, inl, inr}
use Rattle.std.specs.Prelude.{◌==◌, ◌⊎◌}
use Rattle.std.proofs.lemmas.Bool.{cases_eq, cases_lt, eq-eqb, ne_eqb, both_ways, lt-ltb, le-ltb, cond-true, cond-false}
use Rattle.std.proofs.lemmas.Bool.Decides.{nat_tests}
use Rattle.std.proofs.lemmas.List.{length-set}
use Rattle.std.proofs.lemmas.Nat.{div-add-mod', mul-le}
use Rattle.pf_model.specs.Digraph.{IsDigraph}
use Rattle.pf_trees.specs.Trees.{with_ends}
use Rattle.pf_trees.specs.Sides.{differ, separates, cut_at, exchanged}
use Rattle.pf_trees.specs.Slots.{at, edge_at, IsPlaced, unplaced}
use Rattle.pf_trees.specs.State.{IsBasis, IsState}
use Rattle.pf_trees.specs.Search.{IsChain, KeepsOthers, IsLast}
use Rattle.pf_trees.proofs.Bases.{exchange_keeps, crosses_same, sum, sum_crosses}
use Rattle.pf_trees.proofs.Filled.{block_high, block_of}
use Rattle.pf_trees.proofs.Marking.{put_other, put_same}

-- a slot after the edge x took t and left old
pub record IsTaken (m t x old : ℕ) (slot slot' : List ℕ) : Type 0 where
  pub full : length slot' ≡ length slot
  pub here : at slot' t ≡ x
  pub left : old < length slot → at slot' old ≡ m
  pub others : (s : ℕ) → s ≢ t → s ≢ old → at slot' s ≡ at slot s

pub taken_slots : (m t x old : ℕ) (slot : List ℕ) → t < length slot → t ≢ old → IsTaken m t x old slot (set (set slot t x) old m)
taken_slots m t x old slot h ne =
    let full : length (set (set slot t x) old m) ≡ length slot = length-set (set slot t x) old m ∙ length-set slot t x in
    record {
      full = full;
      here = put_other (set slot t x) old t m ne ∙ put_same slot t x h;
      left = λ l. put_same (set slot t x) old m (omega (arith, l, length-set slot t x));
      others = λ s a b. put_other (set slot t x) old s m b ∙ put_other slot t s x a;
    }

pub other_slot : (m total t x : ℕ) (slot place : List ℕ) → IsPlaced m total slot place → t < total → at slot t ≡ m → x < m → t ≢ at place x
other_slot m total t x slot place p ht free hx e =
    let a : at place x < total = omega arith in
    let b = p.forth x hx a in
    let c = ap (at slot) e in
    omega (arith, a, b, c)

pub placed_step : (m total t x : ℕ) (slot slot' place : List ℕ) → IsPlaced m total slot place → t < total → at slot t ≡ m → x < m →
    IsTaken m t x (at place x) slot slot' → IsPlaced m total slot' (set place x t)
placed_step m total t x slot slot' place p ht free hx k =
    let sf = p.slots_full in
    let pf = p.places_full in
    let new : at (set place x t) x ≡ t = put_same place x t (omega arith) in
    let here = k.here in
    record {
      slots_full = k.full ∙ p.slots_full;
      places_full = length-set place x t ∙ p.places_full;
      slots_most = λ s h. elim (cases_eq s t) [
        | inl e ↦ rw e (omega arith)
        | inr ne ↦ elim (cases_eq s (at place x)) [
          | inl f ↦ let l = k.left (omega arith) in rw f (omega (arith, l))
          | inr nf ↦ rw (k.others s ne nf) (p.slots_most s h)
        ]
      ];
      places_most = λ y h. elim (cases_eq y x) [
        | inl e ↦ rw (e, new) (omega arith)
        | inr ne ↦ rw (put_other place x y t ne) (p.places_most y h)
      ];
      back = λ s h l. elim (cases_eq s t) [
        | inl e ↦ rw (e, here) new
        | inr ne ↦ elim (cases_eq s (at place x)) [
          | inl f ↦ absurd (let g = k.left (omega arith) in let q = ap (at slot') f in omega (arith, g, q))
          | inr nf ↦
              let e = k.others s ne nf in
              let b = p.back s h (omega (arith, e)) in
              let apart : at slot s ≢ x = λ same. nf (sym b ∙ ap (at place) same) in
              rw (e, put_other place x (at slot s) t apart) b
        ]
      ];
      forth = λ y h l. elim (cases_eq y x) [
        | inl e ↦ rw (e, new) here
        | inr ne ↦
            let e = put_other place x y t ne in
            let low : at place y < total = omega (arith, e) in
            let f = p.forth y h low in
            let not_t : at place y ≢ t = λ same. (let g = ap (at slot) same in absurd (omega (arith, f, g))) in
            let not_old : at place y ≢ at place x = λ same. (let low' : at place x < total = omega (arith, low, same) in let g = p.forth x hx low' in ne (sym f ∙ ap (at slot) same ∙ g)) in
            rw (e, k.others (at place y) not_t not_old) f
      ];
    }

-- a basis is the same for cuts that are the same on vertices
pub basis_same : (n lo w : ℕ) (pair pair' : ℕ → ℕ × ℕ) (cut cut' : ℕ → ℕ → Bool) → IsBasis n lo w pair cut →
    ((s : ℕ) → lo ≤ s → s < lo + w → pair' s ≡ pair s) → ((s v : ℕ) → lo ≤ s → s < lo + w → v < n → cut' s v ≡ cut s v) → IsBasis n lo w pair' cut'
basis_same n lo w pair pair' cut cut' b p h = record {
  first = λ s low high. rw (p s low high) (b.first s low high);
  second = λ s low high. rw (p s low high) (b.second s low high);
  dual = λ s t ls hs lt ht. rw (p s ls hs)
      (crosses_same (cut' t) (cut t) (pair s) (h t (pair s).0 lt ht (b.first s ls hs)) (h t (pair s).1 lt ht (b.second s ls hs)) ∙ b.dual s t ls hs lt ht);
  spans = λ side none. b.spans side (λ s low high. ap (separates side) (sym (p s low high)) ∙ none s low high);
}

in_block : (lo hi s : ℕ) (x : Bool) → lo ≤ s → s < hi → ((not (ltb s lo) && ltb s hi) && x) ≡ x
in_block lo hi s true low high = grind (arith, nat_tests)
in_block lo hi s false low high = and_no (not (ltb s lo) && ltb s hi)
  where
    and_no : (b : Bool) → (b && false) ≡ false
    and_no true = refl
    and_no false = refl

outside : (lo hi s : ℕ) (a b x : Bool) → (s < lo) ⊎ (hi ≤ s) → differ a (b && ((not (ltb s lo) && ltb s hi) && x)) ≡ a
outside lo hi s a b x h = outside_step a b x (not (ltb s lo) && ltb s hi) (outside_test lo hi s h)
  where
    outside_test : (lo hi s : ℕ) → (s < lo) ⊎ (hi ≤ s) → (not (ltb s lo) && ltb s hi) ≡ false
    outside_test lo hi s h = grind (arith, nat_tests)

    outside_step : (a b x t : Bool) → t ≡ false → differ a (b && (t && x)) ≡ a
    outside_step a b x true e = absurd cc
    outside_step true true x false e = refl
    outside_step true false x false e = refl
    outside_step false true x false e = refl
    outside_step false false x false e = refl

-- what an exchange in the table of cuts did
pub record IsWritten (n lo w t : ℕ) (edge : ℕ × ℕ) (old new : List Bool) : Type 0 where
  pub is : (r v : ℕ) → v < n → cut_at new n r v ≡ exchanged old n lo (lo + w) t edge r v

-- two blocks of slots lie apart
blocks_apart : (w c d s : ℕ) → c ≢ d → c * w ≤ s → s < c * w + w → (s < d * w) ⊎ (d * w + w ≤ s)
blocks_apart w c d s ne low high = elim (cases_lt c d) [
  | inl less ↦ inl (let e = block_high w d c less in omega arith)
  | inr more ↦ inr (let e = block_high w c d (omega arith) in omega arith)
]

abbrev new_pair : (ℕ → ℕ × ℕ) → ℕ → ℕ × ℕ → ℕ → ℕ × ℕ
new_pair pair t edge s = cond (s == t) edge (pair s)

new_pair_here : (pair : ℕ → ℕ × ℕ) (t : ℕ) (edge : ℕ × ℕ) → new_pair pair t edge t ≡ edge
new_pair_here pair t edge = cond-true (t == t) edge (pair t) (eq-eqb t t refl)

new_pair_other : (pair : ℕ → ℕ × ℕ) (t : ℕ) (edge : ℕ × ℕ) (s : ℕ) → s ≢ t → new_pair pair t edge s ≡ pair s
new_pair_other pair t edge s ne = cond-false (s == t) edge (pair s) (ne_eqb s t ne)

pub block_below : (w k t : ℕ) → t < k * w → t / w < k
block_below w k t h = elim (cases_lt (t / w) k) [
  | inl low ↦ low
  | inr high ↦ absurd (let a = mul-le k w (t / w) w high (omega arith) in let d = div-add-mod' t w in omega arith)
]

-- an edge takes a free slot
pub take_state : (n w k : ℕ) (ends : List (ℕ × ℕ)) (cuts cuts' : List Bool) (slot slot' place : List ℕ) (t x : ℕ) → IsState n w k ends (cut_at cuts n) slot place →
    0 < w → IsDigraph (with_ends n ends) → t < k * w → at slot t ≡ length ends → x < length ends → separates (cut_at cuts n t) (edge_at ends x) ≡ true →
    IsTaken (length ends) t x (at place x) slot slot' → IsWritten n (t / w * w) w t (edge_at ends x) cuts cuts' →
    IsState n w k ends (cut_at cuts' n) slot' (set place x t)
take_state n w k ends cuts cuts' slot slot' place t x st hw g ht free hx cr taken written = record {
  pair = new_pair st.pair t (edge_at ends x);
  placed = placed_step (length ends) (k * w) t x slot slot' place st.placed ht free hx taken;
  bases = λ c hc. elim (cases_eq c (t / w)) [
    | inl e ↦
        let b = block_of w t (t / w) hw refl in
        rw e (exchange_keeps n (t / w * w) w st.pair (new_pair st.pair t (edge_at ends x)) (cut_at cuts n) (cut_at cuts' n) t (edge_at ends x)
        (st.bases (t / w) (omega arith)) (record {
          low = b.0;
          high = b.1;
          first = g.tails x hx;
          second = g.heads x hx;
          crossing = cr;
          here = new_pair_here st.pair t (edge_at ends x);
          others = new_pair_other st.pair t (edge_at ends x);
          cuts = λ s v low high hv. written.is s v hv ∙ ap (λ a. differ (cut_at cuts n s v) (cut_at cuts n t v && a))
              (in_block (t / w * w) (t / w * w + w) s (not (s == t) && separates (cut_at cuts n s) (edge_at ends x)) low high);
        }))
    | inr ne ↦
        let b = block_of w t (t / w) hw refl in
        basis_same n (c * w) w st.pair (new_pair st.pair t (edge_at ends x)) (cut_at cuts n) (cut_at cuts' n) (st.bases c hc)
        (λ s low high. new_pair_other st.pair t (edge_at ends x) s (λ same. elim (blocks_apart w c (t / w) s ne low high) [
          | inl less ↦ omega (arith, b.0)
          | inr more ↦ omega (arith, b.1)
        ]))
        (λ s v low high hv. written.is s v hv
        ∙ outside (t / w * w) (t / w * w + w) s (cut_at cuts n s v) (cut_at cuts n t v) (not (s == t) && separates (cut_at cuts n s) (edge_at ends x)) (blocks_apart w c (t / w) s ne low high))
  ];
  pairs = λ s hs l. elim (cases_eq s t) [
    | inl e ↦ rw (e, taken.here) (new_pair_here st.pair t (edge_at ends x))
    | inr ne ↦ elim (cases_eq s (at place x)) [
      | inl f ↦ absurd (let sf = st.placed.slots_full in let a = taken.left (omega arith) in let q = ap (at slot') f in omega (arith, a, q))
      | inr nf ↦
          let e = taken.others s ne nf in
          rw e (new_pair_other st.pair t (edge_at ends x) s ne ∙ st.pairs s hs (omega (arith, e)))
    ]
  ];
}

-- an edge that does not cross the cut of the slot taken crosses the others as before
pub written_keeps : (n lo w t : ℕ) (edge : ℕ × ℕ) (old new : List Bool) → IsWritten n lo w t edge old new → KeepsOthers n (cut_at old n) (cut_at new n) t
written_keeps n lo w t edge old new x = record {
  kept = λ r other h k none.
      let b : Bool = (not (ltb r lo) && ltb r (lo + w)) && (not (r == t) && separates (cut_at old n r) edge) in
      crosses_same (cut_at new n r) (sum (cut_at old n r) (cut_at old n t) b) other (x.is r other.0 h) (x.is r other.1 k)
      ∙ sum_crosses (cut_at old n r) (cut_at old n t) b other
      ∙ kept_none (separates (cut_at old n r) other) (separates (cut_at old n t) other) b none;
}
  where
    kept_none : (a c b : Bool) → c ≡ false → differ a (c && b) ≡ a
    kept_none a true b e = absurd cc
    kept_none true false b e = refl
    kept_none false false b e = refl

-- the rest of the chain stays a chain
pub chain_step : (n : ℕ) (ends : List (ℕ × ℕ)) (cut cut' : ℕ → ℕ → Bool) (place : List ℕ) (total : ℕ) (chain : List ℕ) (k len i t : ℕ) → IsDigraph (with_ends n ends) →
    IsChain ends cut place total chain k len → IsLast ends cut chain t k len i → KeepsOthers n cut cut' t → at place (at chain i) < total →
    IsChain ends cut' (set place (at chain i) t) total chain (i + 1) len
chain_step n ends cut cut' place total chain k len i t g ch la ke held =
    let low = la.low in
    let high = la.high in
    let other : (j : ℕ) → i < j → j < len → at chain j ≢ at chain i = λ j a b e.
    both_ways (separates (cut t) (edge_at ends (at chain j))) (la.later j a b) (ap (λ y. separates (cut t) (edge_at ends y)) e ∙ la.crossing) in
    record {
      some = elim (cases_eq (i + 1) len) [
        | inl e ↦ absurd (let l = ch.last i e in omega (arith, l, held))
        | inr ne ↦ omega arith
      ];
      room = ch.room;
      edges = λ j a b. ch.edges j (omega arith) b;
      held = λ j a b. rw (put_other place (at chain i) (at chain j) t (other j (omega arith) (omega arith))) (ch.held j (omega arith) b);
      crossing = λ j a b. rw (put_other place (at chain i) (at chain j) t (other j (omega arith) (omega arith)))
          (ke.kept (at place (at chain j)) (edge_at ends (at chain (j + 1))) (g.tails (at chain (j + 1)) (ch.edges (j + 1) (omega arith) b))
          (g.heads (at chain (j + 1)) (ch.edges (j + 1) (omega arith) b)) (la.later (j + 1) (omega arith) b)
          ∙ ch.crossing j (omega arith) b);
      last = λ j e. elim (cases_eq j i) [
        | inl same ↦ absurd (let l = ch.last j e in let q = ap (λ y. at place (at chain y)) same in omega (arith, l, q, held))
        | inr ne ↦ rw (put_other place (at chain i) (at chain j) t (other j (omega arith) (omega arith))) (ch.last j e)
      ];
    }

-- the next edge of the chain crosses the cut of the slot that was left
pub chain_next : (n : ℕ) (ends : List (ℕ × ℕ)) (cut cut' : ℕ → ℕ → Bool) (place : List ℕ) (total : ℕ) (chain : List ℕ) (k len i t : ℕ) → IsDigraph (with_ends n ends) →
    IsChain ends cut place total chain k len → IsLast ends cut chain t k len i → KeepsOthers n cut cut' t → at place (at chain i) < total →
    separates (cut' (at place (at chain i))) (edge_at ends (at chain (i + 1))) ≡ true
chain_next n ends cut cut' place total chain k len i t g ch la ke held =
    let low = la.low in
    let rest = chain_step n ends cut cut' place total chain k len i t g ch la ke held in
    let more = rest.some in
    ke.kept (at place (at chain i)) (edge_at ends (at chain (i + 1))) (g.tails (at chain (i + 1)) (ch.edges (i + 1) (omega arith) more))
    (g.heads (at chain (i + 1)) (ch.edges (i + 1) (omega arith) more)) (la.later (i + 1) (omega arith) more)
    ∙ ch.crossing i low more

-- how many edges are in no slot
pub unplaced_step : (total t : ℕ) (place : List ℕ) (x : ℕ) → x < length place → t < total →
    unplaced total (set place x t) + cond (ltb (at place x) total) 0 1 ≡ unplaced total place
unplaced_step total t [] x h l = absurd (omega arith)
unplaced_step total t (p ∷ place) zero h l = let e = lt-ltb t total l in rw e (omega arith)
unplaced_step total t (p ∷ place) (suc x) h l = let e = unplaced_step total t place x (omega arith) l in omega (arith, e)

pub unplaced_same : (total t : ℕ) (place : List ℕ) (x : ℕ) → x < length place → t < total → at place x < total → unplaced total (set place x t) ≡ unplaced total place
unplaced_same total t place x h l held =
    let e = unplaced_step total t place x h l in
    let f : cond {A = ℕ} (ltb (at place x) total) 0 1 ≡ 0 = cond-true (ltb (at place x) total) 0 1 (lt-ltb (at place x) total held) in
    omega (arith, e, f)

pub unplaced_less : (total t : ℕ) (place : List ℕ) (x : ℕ) → x < length place → t < total → total ≤ at place x → unplaced total (set place x t) < unplaced total place
unplaced_less total t place x h l out =
    let e = unplaced_step total t place x h l in
    let f : cond {A = ℕ} (ltb (at place x) total) 0 1 ≡ 1 = cond-false (ltb (at place x) total) 0 1 (le-ltb (at place x) total out) in
    omega (arith, e, f)
