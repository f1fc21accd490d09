-- Charge that is moved along the tree, from a vertex with room back to the root.
use Rattle.std.proofs.Common.{◌≡◌, ◌≢◌, ℕ, ◌<◌, ◌≤◌, ◌^◌, List, length, get_or, set, refl, Bool, true, cond, eqb, arith, ap, sym, ◌∙◌, inl, inr, subst}
use Rattle.std.specs.Prelude.{ℤ, ◌+ℤ◌, ◌-ℤ◌, pos, ◌⊎◌, ◌≤ℤ◌, ◌<ℤ◌}
use Rattle.std.proofs.lemmas.Int.{ints}
use Rattle.std.proofs.lemmas.Bool.{eq-eqb, ne_eqb}
use Rattle.pf_model.specs.Cut.{has, at_arc}
use Rattle.pf_model.specs.Digraph.{Digraph, IsDigraph}
use Rattle.pf_model.proofs.Balance.{inside}
use Rattle.pf_forest.specs.Held.{IsHeld, IsBare, IsTree, IsHit, HasParent, tail_of, head_of}
use Rattle.pf_forest.proofs.Holding.{shifted, shifted_at, at_set_other, holder_at_tail, holder_at_head, held_from_tail, held_from_head, rooms_high, true_cond}
use Rattle.pf_forest.proofs.Tree.{Holds}
use Rattle.pf_forest.proofs.Sparse.{zero_cond}

-- room is at b; after it, the tree is as it was
pub record IsWalk (g : Digraph) (limit : ℤ) (vector before : List ℤ) (root skip : ℕ) (side : List Bool) (via rank : List ℕ) (heads rooms : List ℤ) (b : ℕ) : Type 0 where
  pub held : IsHeld g limit vector heads rooms
  pub bare : IsBare rooms limit root skip
  pub marked : has side b ≡ true
  pub apart : skip ≢ root → b ≢ skip
  pub room : pos 0 <ℤ at_arc rooms b
  pub parents : (w : ℕ) → has side w ≡ true → w ≢ root → get_or rank w 0 ≤ get_or rank b 0 → HasParent g vector heads side via rank w
  pub more : b ≡ root → at_arc before root <ℤ at_arc rooms root
  pub same : b ≢ root → at_arc rooms root ≡ at_arc before root

pub walk_begins : (g : Digraph) (limit : ℤ) (vector heads rooms : List ℤ) (root skip : ℕ) (side : List Bool) (via rank : List ℕ) (hit put : ℕ) →
    IsHeld g limit vector heads rooms → IsBare rooms limit root skip → IsTree g vector heads root side via rank put → has side hit ≡ true → IsHit rooms root skip hit →
    IsWalk g limit vector rooms root skip side via rank heads rooms hit
walk_begins g limit vector heads rooms root skip side via rank hit put held bare tree marked h = record {
  held = held;
  bare = bare;
  marked = marked;
  apart = λ _. h.not_skip;
  room = h.room;
  parents = λ w m off _. tree.parents w m off;
  more = λ e. absurd (h.not_root e);
  same = λ _. refl;
}

-- the parent holds something, so it is not bare
parent_not_bare : (g : Digraph) (limit : ℤ) (vector heads rooms : List ℤ) (a b i : ℕ) → IsDigraph g → IsHeld g limit vector heads rooms → i < length g.ends →
    Holds g vector heads a b i → at_arc rooms a ≢ limit
parent_not_bare g limit vector heads rooms a b i graph h low by e = elim by [
  | inl t ↦
      let most = holder_at_tail g limit vector heads rooms i h graph low in
      let part = t.part in
      let here = ap (at_arc rooms) t.from in
      omega (arith, ints, most, part, here, e)
  | inr t ↦
      let most = holder_at_head g limit vector heads rooms i h graph low in
      let part = t.part in
      let here = ap (at_arc rooms) t.from in
      omega (arith, ints, most, part, here, e)
]

-- both ends of the edge to w have at most its rank
parent_ends : (g : Digraph) (vector heads : List ℤ) (side : List Bool) (via rank : List ℕ) (w b : ℕ) → HasParent g vector heads side via rank w →
    (tail_of g.ends (get_or via w 0) ≡ b) ⊎ (head_of g.ends (get_or via w 0) ≡ b) → get_or rank b 0 ≤ get_or rank w 0
parent_ends g vector heads side via rank w b p ends =
    let rank_of : ℕ → ℕ = λ x. get_or rank x 0 in
    let nearer = p.nearer in
    elim p.by [
      | inl t ↦ elim ends [
        | inl e ↦ let f : get_or rank p.before 0 ≡ get_or rank b 0 = ap (λ x. get_or rank x 0) (sym t.from ∙ e) in omega (arith, f, nearer)
        | inr e ↦ let f : get_or rank w 0 ≡ get_or rank b 0 = ap (λ x. get_or rank x 0) (sym t.to ∙ e) in omega (arith, f)
      ]
      | inr t ↦ elim ends [
        | inl e ↦ let f : get_or rank w 0 ≡ get_or rank b 0 = ap (λ x. get_or rank x 0) (sym t.to ∙ e) in omega (arith, f)
        | inr e ↦ let f : get_or rank p.before 0 ≡ get_or rank b 0 = ap (λ x. get_or rank x 0) (sym t.from ∙ e) in omega (arith, f, nearer)
      ]
    ]

-- a change at another edge leaves the parent
parent_stays : (g : Digraph) (vector heads : List ℤ) (side : List Bool) (via rank : List ℕ) (w e : ℕ) (y : ℤ) → HasParent g vector heads side via rank w →
    get_or via w 0 ≢ e → HasParent g vector (set heads e y) side via rank w
parent_stays g vector heads side via rank w e y p off =
    let same = at_set_other heads e (get_or via w 0) y off in
    record {
      before = p.before;
      marked = p.marked;
      nearer = p.nearer;
      in_range = p.in_range;
      by = elim p.by [
        | inl t ↦ let part = t.part in inl (record { from = t.from; to = t.to; part = omega (arith, ints, same, part) })
        | inr t ↦ let part = t.part in inr (record { from = t.from; to = t.to; part = omega (arith, ints, same, part) })
      ];
    }

-- one step back, to the parent
walk_step : (g : Digraph) (limit : ℤ) (vector before : List ℤ) (root skip : ℕ) (side : List Bool) (via rank : List ℕ) (heads rooms : List ℤ) (b : ℕ) (y amount : ℤ)
    (p : HasParent g vector heads side via rank b) →
    IsDigraph g → root < g.nodes → length side ≡ g.nodes → IsWalk g limit vector before root skip side via rank heads rooms b → b ≢ root → pos 0 <ℤ amount →
    IsHeld g limit vector (set heads (get_or via b 0) y) (shifted rooms b p.before amount) →
    IsWalk g limit vector before root skip side via rank (set heads (get_or via b 0) y) (shifted rooms b p.before amount) p.before
walk_step g limit vector before root skip side via rank heads rooms b y amount p graph low_root full walk off positive held =
    let a : ℕ = p.before in
    let nearer = p.nearer in
    let low_a : a < g.nodes = omega (arith, inside side a p.marked, full) in
    let low_b : b < g.nodes = omega (arith, inside side b walk.marked, full) in
    let apart : b ≢ a = λ e. (let f = ap (λ x. get_or rank x 0) e in omega (arith, f, nearer)) in
    let wide_a : a < length rooms = omega (arith, low_a, walk.held.rooms_full) in
    let wide_b : b < length rooms = omega (arith, low_b, walk.held.rooms_full) in
    let room : (x : ℕ) → at_arc (shifted rooms b a amount) x ≡ (at_arc rooms x +ℤ cond (eqb a x) amount (pos 0)) -ℤ cond (eqb b x) amount (pos 0) =
    λ x. shifted_at rooms b a amount x apart wide_b wide_a in
    let not_bare = parent_not_bare g limit vector heads rooms a b (get_or via b 0) graph walk.held p.in_range p.by in
    let not_skip : skip ≢ root → a ≢ skip = λ other same. not_bare (ap (at_arc rooms) same ∙ walk.bare.bare other) in
    record {
      held = held;
      bare = record {
        bare = λ other.
            let e = room skip in
            let f = zero_cond (eqb a skip) amount (ne_eqb a skip (not_skip other)) in
            let k = zero_cond (eqb b skip) amount (ne_eqb b skip (walk.apart other)) in
            let l = walk.bare.bare other in
            omega (arith, ints, e, f, k, l);
      };
      marked = p.marked;
      apart = not_skip;
      room =
          let e = room a in
          let f = true_cond (eqb a a) amount (eq-eqb a a refl) in
          let k = zero_cond (eqb b a) amount (ne_eqb b a apart) in
          let l = walk.held.rooms_low a low_a in
          omega (arith, ints, e, f, k, l, positive);
      parents = λ w marked other less.
          let q = walk.parents w marked other (omega (arith, less, nearer)) in
          let ends : (tail_of g.ends (get_or via b 0) ≡ b) ⊎ (head_of g.ends (get_or via b 0) ≡ b) = elim p.by [ inl t ↦ inr t.to | inr t ↦ inl t.to ] in
          parent_stays g vector heads side via rank w (get_or via b 0) y q
          (λ same. (
          let P : ℕ → Type 0 = λ i. (tail_of g.ends i ≡ b) ⊎ (head_of g.ends i ≡ b) in
          let rise = parent_ends g vector heads side via rank w b q (subst P (sym same) ends) in
          omega (arith, rise, less, nearer)
          ));
      more = λ here.
          let e = room root in
          let f = true_cond (eqb a root) amount (eq-eqb a root here) in
          let k = zero_cond (eqb b root) amount (ne_eqb b root off) in
          let l = walk.same off in
          omega (arith, ints, e, f, k, l, positive);
      same = λ there.
          let e = room root in
          let f = zero_cond (eqb a root) amount (ne_eqb a root there) in
          let k = zero_cond (eqb b root) amount (ne_eqb b root off) in
          let l = walk.same off in
          omega (arith, ints, e, f, k, l);
    }

-- what is known of the edge by which the search came to b
pub walk_parent : (g : Digraph) (limit : ℤ) (vector before : List ℤ) (root skip : ℕ) (side : List Bool) (via rank : List ℕ) (heads rooms : List ℤ) (b : ℕ) →
    IsWalk g limit vector before root skip side via rank heads rooms b → b ≢ root → HasParent g vector heads side via rank b
walk_parent g limit vector before root skip side via rank heads rooms b walk off = walk.parents b walk.marked off (omega arith)

-- what the code moves
pub record IsAmount (rooms : List ℤ) (b : ℕ) (part amount : ℤ) : Type 0 where
  pub positive : pos 0 <ℤ part → pos 0 <ℤ amount
  pub fits : amount ≤ℤ at_arc rooms b
  pub most : amount ≤ℤ part

pub walk_from_tail : (g : Digraph) (limit : ℤ) (vector before : List ℤ) (root skip : ℕ) (side : List Bool) (via rank : List ℕ) (heads rooms : List ℤ) (a b : ℕ) (y amount : ℤ)
    (heads' rooms' : List ℤ) →
    IsDigraph g → root < g.nodes → length side ≡ g.nodes → IsWalk g limit vector before root skip side via rank heads rooms b → b ≢ root →
    a ≡ tail_of g.ends (get_or via b 0) → a ≢ b →
    IsAmount rooms b (at_arc vector (get_or via b 0) -ℤ at_arc heads (get_or via b 0)) amount →
    y ≡ at_arc heads (get_or via b 0) +ℤ amount → heads' ≡ set heads (get_or via b 0) y → rooms' ≡ shifted rooms b a amount →
    IsWalk g limit vector before root skip side via rank heads' rooms' a × (get_or rank a 0 < get_or rank b 0)
walk_from_tail g limit vector before root skip side via rank heads rooms a b y amount heads' rooms' graph low_root full walk off tail other amounts e1 e2 e3 =
    let p = walk.parents b walk.marked off (omega arith) in
    let low_b : b < g.nodes = omega (arith, inside side b walk.marked, full) in
    let low_a : p.before < g.nodes = omega (arith, inside side p.before p.marked, full) in
    let nearer = p.nearer in
    elim p.by [
      | inl t ↦
          let same : a ≡ p.before = tail ∙ t.from in
          let part = t.part in
          let positive : pos 0 <ℤ amount = amounts.positive (omega (arith, ints, part)) in
          let apart : b ≢ p.before = λ e. other (same ∙ sym e) in
          let held = held_from_tail g limit vector heads rooms p.before b (get_or via b 0) amount walk.held
          (record { from = low_a; to = low_b; apart = apart; low = omega (arith, ints, positive); fits = amounts.fits }) p.in_range t.from t.to amounts.most in
          let step = walk_step g limit vector before root skip side via rank heads rooms b _ amount p graph low_root full walk off positive held in
          let P : ℕ → Type 0 = λ x. IsWalk g limit vector before root skip side via rank (set heads (get_or via b 0) (at_arc heads (get_or via b 0) +ℤ amount))
          (shifted rooms b x amount) x × (get_or rank x 0 < get_or rank b 0) in
          rw (e2, e3, e1) (subst P (sym same) (step, nearer))
      | inr t ↦ absurd (other (tail ∙ t.to))
    ]

pub walk_from_head : (g : Digraph) (limit : ℤ) (vector before : List ℤ) (root skip : ℕ) (side : List Bool) (via rank : List ℕ) (heads rooms : List ℤ) (a b : ℕ) (y amount : ℤ)
    (heads' rooms' : List ℤ) →
    IsDigraph g → root < g.nodes → length side ≡ g.nodes → IsWalk g limit vector before root skip side via rank heads rooms b → b ≢ root →
    tail_of g.ends (get_or via b 0) ≡ b → a ≡ head_of g.ends (get_or via b 0) →
    IsAmount rooms b (at_arc heads (get_or via b 0)) amount →
    y ≡ at_arc heads (get_or via b 0) -ℤ amount → heads' ≡ set heads (get_or via b 0) y → rooms' ≡ shifted rooms b a amount →
    IsWalk g limit vector before root skip side via rank heads' rooms' a × (get_or rank a 0 < get_or rank b 0)
walk_from_head g limit vector before root skip side via rank heads rooms a b y amount heads' rooms' graph low_root full walk off tail head amounts e1 e2 e3 =
    let p = walk.parents b walk.marked off (omega arith) in
    let low_b : b < g.nodes = omega (arith, inside side b walk.marked, full) in
    let low_a : p.before < g.nodes = omega (arith, inside side p.before p.marked, full) in
    let nearer = p.nearer in
    elim p.by [
      | inl t ↦ absurd (let f = ap (λ x. get_or rank x 0) (sym t.from ∙ tail) in omega (arith, f, nearer))
      | inr t ↦
          let same : a ≡ p.before = head ∙ t.from in
          let positive : pos 0 <ℤ amount = amounts.positive t.part in
          let apart : b ≢ p.before = λ e. (let f = ap (λ x. get_or rank x 0) e in omega (arith, f, nearer)) in
          let held = held_from_head g limit vector heads rooms p.before b (get_or via b 0) amount walk.held
          (record { from = low_a; to = low_b; apart = apart; low = omega (arith, ints, positive); fits = amounts.fits }) p.in_range t.from t.to amounts.most in
          let step = walk_step g limit vector before root skip side via rank heads rooms b _ amount p graph low_root full walk off positive held in
          let P : ℕ → Type 0 = λ x. IsWalk g limit vector before root skip side via rank (set heads (get_or via b 0) (at_arc heads (get_or via b 0) -ℤ amount))
          (shifted rooms b x amount) x × (get_or rank x 0 < get_or rank b 0) in
          rw (e2, e3, e1) (subst P (sym same) (step, nearer))
    ]

-- the bounds of one step
pub record IsReady (g : Digraph) (vector heads rooms : List ℤ) (i a b : ℕ) : Type 0 where
  pub low : pos 0 ≤ℤ at_arc heads i
  pub high : at_arc heads i ≤ℤ at_arc vector i
  pub heads_top : at_arc heads i ≤ℤ pos (2 ^ 80)
  pub rest_top : (at_arc vector i -ℤ at_arc heads i) ≤ℤ pos (2 ^ 80)
  pub from_low : pos 0 <ℤ at_arc rooms b
  pub from_top : at_arc rooms b ≤ℤ pos (2 ^ 80)
  pub to_low : pos 0 ≤ℤ at_arc rooms a
  pub to_top : at_arc rooms a ≤ℤ pos (2 ^ 80)

ready_at : (g : Digraph) (limit : ℤ) (vector heads rooms : List ℤ) (i a b : ℕ) → IsDigraph g → IsHeld g limit vector heads rooms → i < length g.ends → a < g.nodes → b < g.nodes →
    pos 0 <ℤ at_arc rooms b → IsReady g vector heads rooms i a b
ready_at g limit vector heads rooms i a b graph h low low_a low_b room =
    let small = h.small in
    let at_tail = holder_at_tail g limit vector heads rooms i h graph low in
    let at_head = holder_at_head g limit vector heads rooms i h graph low in
    let tail = h.rooms_low (tail_of g.ends i) (graph.tails i low) in
    let head = h.rooms_low (head_of g.ends i) (graph.heads i low) in
    let top_a = rooms_high g limit vector heads rooms a h low_a in
    let top_b = rooms_high g limit vector heads rooms b h low_b in
    record {
      low = h.low i low;
      high = h.high i low;
      heads_top = omega (arith, ints, small, at_head, head);
      rest_top = omega (arith, ints, small, at_tail, tail);
      from_low = room;
      from_top = omega (arith, ints, small, top_b);
      to_low = h.rooms_low a low_a;
      to_top = omega (arith, ints, small, top_a);
    }

pub ready_tail : (g : Digraph) (limit : ℤ) (vector before : List ℤ) (root skip : ℕ) (side : List Bool) (via rank : List ℕ) (heads rooms : List ℤ) (a b : ℕ) →
    IsDigraph g → length side ≡ g.nodes → IsWalk g limit vector before root skip side via rank heads rooms b → b ≢ root →
    a ≡ tail_of g.ends (get_or via b 0) → a ≢ b →
    IsReady g vector heads rooms (get_or via b 0) a b × (at_arc heads (get_or via b 0) <ℤ at_arc vector (get_or via b 0))
ready_tail g limit vector before root skip side via rank heads rooms a b graph full walk off tail other =
    let p = walk.parents b walk.marked off (omega arith) in
    let low_b : b < g.nodes = omega (arith, inside side b walk.marked, full) in
    let low_a : a < g.nodes = rw tail (graph.tails (get_or via b 0) p.in_range) in (
      ready_at g limit vector heads rooms (get_or via b 0) a b graph walk.held p.in_range low_a low_b walk.room,
      elim p.by [ inl t ↦ t.part | inr t ↦ absurd (other (tail ∙ t.to)) ],
    )

pub ready_head : (g : Digraph) (limit : ℤ) (vector before : List ℤ) (root skip : ℕ) (side : List Bool) (via rank : List ℕ) (heads rooms : List ℤ) (a b : ℕ) →
    IsDigraph g → length side ≡ g.nodes → IsWalk g limit vector before root skip side via rank heads rooms b → b ≢ root →
    tail_of g.ends (get_or via b 0) ≡ b → a ≡ head_of g.ends (get_or via b 0) →
    IsReady g vector heads rooms (get_or via b 0) a b × ((pos 0 <ℤ at_arc heads (get_or via b 0)) × (b ≢ a))
ready_head g limit vector before root skip side via rank heads rooms a b graph full walk off tail head =
    let p = walk.parents b walk.marked off (omega arith) in
    let low_b : b < g.nodes = omega (arith, inside side b walk.marked, full) in
    let low_a : a < g.nodes = rw head (graph.heads (get_or via b 0) p.in_range) in
    let nearer = p.nearer in (
      ready_at g limit vector heads rooms (get_or via b 0) a b graph walk.held p.in_range low_a low_b walk.room,
      elim p.by [
        | inl t ↦ absurd (let f = ap (λ x. get_or rank x 0) (sym t.from ∙ tail) in omega (arith, f, nearer))
        | inr t ↦ (t.part, λ e. (let f = ap (λ x. get_or rank x 0) (e ∙ head ∙ t.from) in omega (arith, f, nearer)))
      ],
    )
