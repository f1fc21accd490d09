-- How a forest stands after an edge is raised.
use Rattle.std.proofs.Common.{◌≡◌, ◌≢◌, ℕ, ◌<◌, List, length, get_or, set, refl, Bool, true, false, cond, eqb, ◌&&◌, arith, ap, sym, ◌∙◌, inl, inr}
use Rattle.std.specs.Prelude.{ℤ, ◌+ℤ◌, ◌-ℤ◌, ◌≤ℤ◌, pos, ◌==◌}
use Rattle.std.proofs.lemmas.Int.{ints}
use Rattle.std.proofs.lemmas.Bool.{both_ways, cases_eq, cases_Bool, eq-eqb, eqb-true, ne_eqb}
use Rattle.std.proofs.lemmas.List.{length-set}
use Rattle.pf_model.specs.Cut.{has, size, at_arc}
use Rattle.pf_model.specs.Digraph.{Digraph, IsDigraph}
use Rattle.pf_model.proofs.Augment.{sum_where_set}
use Rattle.pf_model.proofs.Search.{has-set, has-set_new, has-set_here}
use Rattle.pf_graph.specs.WeightedGraph.{lies_in}
use Rattle.pf_graph.specs.Labels.{label, part}
use Rattle.pf_graph.proofs.Classes.{has-part}
use Rattle.pf_forest.specs.Held.{IsHeld, IsUnhit, IsShut, tail_of, head_of}
use Rattle.pf_forest.specs.Forest.{IsSparse}
use Rattle.pf_forest.specs.Filling.{IsForest, IsTight}
use Rattle.pf_forest.proofs.Holding.{each_set, at_set_same, at_set_other, value_set, holder_at_tail, holder_at_head, rooms_high, cond_same, true_cond}
use Rattle.pf_forest.proofs.Sets.{shared_of, root_bounds, shut_is_tight, times_less}
use Rattle.pf_forest.proofs.Sparse.{some_size, inside_set, zero_cond}
use Rattle.pf_model.proofs.Facts.{off_both}

-- What the root does not have yet cannot be kept from it: a shut side would hold too much.
pub bare_root : (g : Digraph) (limit : ℤ) (vector heads rooms : List ℤ) (side : List Bool) (r : ℕ) → IsHeld g limit vector heads rooms → IsSparse g limit vector →
    length side ≡ g.nodes → r < g.nodes → has side r ≡ true → ((w : ℕ) → has side w ≡ true → IsUnhit rooms r r w) → IsShut g.ends vector heads side →
    at_arc rooms r ≡ limit
bare_root g limit vector heads rooms side r h s full low marked none shut =
    let tight = shut_is_tight g limit vector heads (at_arc rooms) side r (shared_of g limit vector heads rooms h) full shut marked (λ v m off. (none v m).full off off) in
    let most = s.sparse side full (some_size side r marked) in
    let product = times_less limit (size side) in
    let high = rooms_high g limit vector heads rooms r h low in
    omega (arith, ints, tight, most, product, high)

-- an amount is put on edge i, into the room of its head
pub record IsPut (g : Digraph) (limit : ℤ) (vector heads rooms : List ℤ) (u v i : ℕ) (amount : ℤ) : Type 0 where
  pub held : IsHeld g limit vector heads rooms
  pub graph : IsDigraph g
  pub in_range : i < length g.ends
  pub tail : tail_of g.ends i ≡ u
  pub head : head_of g.ends i ≡ v
  pub apart : u ≢ v
  pub bare : at_arc rooms u ≡ limit
  pub low : pos 0 ≤ℤ amount
  pub fits : amount ≤ℤ at_arc rooms v

abbrev pub raised : List ℤ → ℕ → ℤ → List ℤ
raised numbers i amount = set numbers i (at_arc numbers i +ℤ amount)

abbrev pub lowered : List ℤ → ℕ → ℤ → List ℤ
lowered numbers i amount = set numbers i (at_arc numbers i -ℤ amount)

lowered_at : (rooms : List ℤ) (v : ℕ) (amount : ℤ) (x : ℕ) → v < length rooms → at_arc (lowered rooms v amount) x ≡ at_arc rooms x -ℤ cond (eqb v x) amount (pos 0)
lowered_at rooms v amount x low = elim (cases_eq x v) [
  | inl here ↦
      let e : at_arc (lowered rooms v amount) x ≡ at_arc rooms v -ℤ amount = rw here (at_set_same rooms v _ low) in
      let f = true_cond (eqb v x) amount (eq-eqb v x (sym here)) in
      let l = ap (at_arc rooms) here in
      omega (arith, ints, e, f, l)
  | inr other ↦
      let e = at_set_other rooms v x (at_arc rooms v -ℤ amount) other in
      let f = zero_cond (eqb v x) amount (ne_eqb v x (λ same. other (sym same))) in
      omega (arith, ints, e, f)
]

pub put_held : (g : Digraph) (limit : ℤ) (vector heads rooms : List ℤ) (u v i : ℕ) (amount : ℤ) → IsPut g limit vector heads rooms u v i amount →
    IsHeld g limit (raised vector i amount) (raised heads i amount) (lowered rooms v amount)
put_held g limit vector heads rooms u v i amount p =
    let h = p.held in
    let there : i < length heads = omega (arith, p.in_range, h.heads_full) in
    let there' : i < length vector = omega (arith, p.in_range, h.vector_full) in
    let least = h.low i p.in_range in
    let most = h.high i p.in_range in
    let positive = p.low in
    let fits = p.fits in
    let low_v : v < g.nodes = rw (← p.head) (p.graph.heads i p.in_range) in
    let wide_v : v < length rooms = omega (arith, low_v, h.rooms_full) in
    record {
      vector_full = length-set vector i (at_arc vector i +ℤ amount) ∙ h.vector_full;
      heads_full = length-set heads i (at_arc heads i +ℤ amount) ∙ h.heads_full;
      rooms_full = length-set rooms v (at_arc rooms v -ℤ amount) ∙ h.rooms_full;
      low = each_set (λ k x. pos 0 ≤ℤ x) heads i (at_arc heads i +ℤ amount) (length g.ends) there h.low (omega (arith, ints, least, positive));
      high = λ k low. elim (cases_eq k i) [
        | inl same ↦
            let a : at_arc (raised heads i amount) k ≡ at_arc heads i +ℤ amount = rw same (at_set_same heads i _ there) in
            let b : at_arc (raised vector i amount) k ≡ at_arc vector i +ℤ amount = rw same (at_set_same vector i _ there') in
            omega (arith, ints, a, b, most)
        | inr other ↦
            let a = at_set_other heads i k (at_arc heads i +ℤ amount) other in
            let b = at_set_other vector i k (at_arc vector i +ℤ amount) other in
            let c = h.high k low in
            omega (arith, ints, a, b, c)
      ];
      rooms_low = each_set (λ k x. pos 0 ≤ℤ x) rooms v (at_arc rooms v -ℤ amount) g.nodes wide_v h.rooms_low (omega (arith, ints, fits));
      sums = λ x in_range.
          let value = value_set g.ends heads i (at_arc heads i +ℤ amount) x h.heads_full p.in_range in
          let out = sum_where_set (λ arc. arc.0 == x) g.ends vector i (at_arc vector i +ℤ amount) h.vector_full p.in_range in
          let change : (at_arc heads i +ℤ amount) -ℤ at_arc heads i ≡ amount = omega (arith, ints) in
          let change' : (at_arc vector i +ℤ amount) -ℤ at_arc vector i ≡ amount = omega (arith, ints) in
          let a = cond_same (eqb (tail_of g.ends i) x) _ amount change in
          let b = cond_same (eqb (head_of g.ends i) x) _ amount change in
          let c = cond_same (eqb (tail_of g.ends i) x) _ amount change' in
          let d = ap (λ z. cond (eqb z x) amount (pos 0)) p.head in
          let room = lowered_at rooms v amount x wide_v in
          let before = h.sums x in_range in
          omega (arith, ints, value, out, a, b, c, d, room, before);
      small = h.small;
    }

pub put_bare : (g : Digraph) (limit : ℤ) (vector heads rooms : List ℤ) (u v i : ℕ) (amount : ℤ) → IsPut g limit vector heads rooms u v i amount →
    at_arc (lowered rooms v amount) u ≡ limit
put_bare g limit vector heads rooms u v i amount p = at_set_other rooms v u (at_arc rooms v -ℤ amount) p.apart ∙ p.bare

pub put_sparse : (g : Digraph) (limit : ℤ) (vector heads rooms : List ℤ) (u v i : ℕ) (amount : ℤ) → IsPut g limit vector heads rooms u v i amount → IsSparse g limit vector →
    IsSparse g limit (raised vector i amount)
put_sparse g limit vector heads rooms u v i amount p s = record {
  sparse = λ side full some. elim (cases_Bool (has side u)) [
    | inl in_side ↦
        root_bounds g limit (raised vector i amount) (raised heads i amount) (at_arc (lowered rooms v amount)) side u
        (shared_of g limit _ _ _ (put_held g limit vector heads rooms u v i amount p)) full in_side (put_bare g limit vector heads rooms u v i amount p)
    | inr out ↦
        let off : lies_in side (get_or g.ends i (0, 0)) ≡ false =
        off_both (has side (tail_of g.ends i)) (has side (head_of g.ends i)) (ap (has side) p.tail ∙ out) in
        let e = inside_set g.ends vector side i (at_arc vector i +ℤ amount) p.held.vector_full p.in_range off in
        let most = s.sparse side full some in
        omega (arith, ints, e, most)
  ];
}

and_both : (p q : Bool) → (p && q) ≡ true → (p ≡ true) × (q ≡ true)
and_both true true e = (refl, refl)
and_both true false e = cc
and_both false q e = cc

apart_parts : (groups : List ℕ) (a u v : ℕ) → u < length groups → v < length groups → label groups u ≢ label groups v → (has (part groups a) u && has (part groups a) v) ≡ false
apart_parts groups a u v low_u low_v other = elim (cases_Bool (has (part groups a) u && has (part groups a) v)) [
  | inr out ↦ out
  | inl both ↦
      let t = and_both (has (part groups a) u) (has (part groups a) v) both in
      let x = eqb-true (label groups u) a (sym (has-part groups a u low_u) ∙ t.0) in
      let y = eqb-true (label groups v) a (sym (has-part groups a v low_v) ∙ t.1) in
      absurd (other (x ∙ sym y))
]

-- groups stay tight where no group has both ends
pub put_forest : (g : Digraph) (limit : ℤ) (vector heads rooms : List ℤ) (groups : List ℕ) (u v i : ℕ) (amount : ℤ) → IsPut g limit vector heads rooms u v i amount →
    IsForest g limit vector heads rooms groups → label groups u ≢ label groups v →
    IsForest g limit (raised vector i amount) (raised heads i amount) (lowered rooms v amount) groups
put_forest g limit vector heads rooms groups u v i amount p f other =
    let low_u : u < length groups = rw (f.full, ← p.tail) (p.graph.tails i p.in_range) in
    let low_v : v < length groups = rw (f.full, ← p.head) (p.graph.heads i p.in_range) in
    record {
      held = put_held g limit vector heads rooms u v i amount p;
      sparse = put_sparse g limit vector heads rooms u v i amount p f.sparse;
      full = f.full;
      low = f.low;
      tight = λ a some.
          let off : lies_in (part groups a) (get_or g.ends i (0, 0)) ≡ false = rw (p.tail, p.head) (apart_parts groups a u v low_u low_v other) in
          inside_set g.ends vector (part groups a) i (at_arc vector i +ℤ amount) p.held.vector_full p.in_range off ∙ f.tight a some;
    }

-- the side that a search left, with the tail of the edge: nothing can be moved out of it
pub put_shut : (g : Digraph) (limit : ℤ) (vector heads rooms : List ℤ) (u v i : ℕ) (amount : ℤ) (side : List Bool) → IsPut g limit vector heads rooms u v i amount →
    IsShut g.ends vector heads side → has side v ≡ true → u < length side →
    IsShut g.ends (raised vector i amount) (raised heads i amount) (set side u true)
put_shut g limit vector heads rooms u v i amount side p shut marked low =
    let h' = put_held g limit vector heads rooms u v i amount p in
    let bare' = put_bare g limit vector heads rooms u v i amount p in
    record {
      out = λ k in_range inside_it outside.
          let off : k ≢ i = λ same. both_ways _ outside (ap (λ j. has (set side u true) (head_of g.ends j)) same ∙ ap (has (set side u true)) p.head ∙ has-set side u v marked) in
          elim (has-set_new side u (tail_of g.ends k) inside_it) [
            | inl at_u ↦
                let most = holder_at_tail g limit _ _ _ k h' p.graph in_range in
                let room = ap (at_arc (lowered rooms v amount)) at_u in
                omega (arith, ints, most, room, bare')
            | inr old ↦
                let a = at_set_other vector i k (at_arc vector i +ℤ amount) off in
                let b = at_set_other heads i k (at_arc heads i +ℤ amount) off in
                let c = shut.out k in_range old (stays_out side u (head_of g.ends k) outside) in
                omega (arith, ints, a, b, c)
          ];
      into = λ k in_range inside_it outside.
          let off : k ≢ i = λ same. both_ways _ outside (ap (λ j. has (set side u true) (tail_of g.ends j)) same ∙ ap (has (set side u true)) p.tail ∙ has-set_here side u low) in
          elim (has-set_new side u (head_of g.ends k) inside_it) [
            | inl at_u ↦
                let most = holder_at_head g limit _ _ _ k h' p.graph in_range in
                let room = ap (at_arc (lowered rooms v amount)) at_u in
                omega (arith, ints, most, room, bare')
            | inr old ↦
                let b = at_set_other heads i k (at_arc heads i +ℤ amount) off in
                let c = shut.into k in_range old (stays_out side u (tail_of g.ends k) outside) in
                omega (arith, ints, b, c)
          ];
    }
  where
    stays_out : (side : List Bool) (u w : ℕ) → has (set side u true) w ≡ false → has side w ≡ false
    stays_out side u w out = elim (cases_Bool (has side w)) [
      | inl marked ↦ absurd (both_ways _ out (has-set side u w marked))
      | inr off ↦ off
    ]

-- and it is tight
pub put_tight : (g : Digraph) (limit : ℤ) (vector heads rooms : List ℤ) (u v i : ℕ) (amount : ℤ) (side : List Bool) → IsPut g limit vector heads rooms u v i amount →
    IsShut g.ends vector heads side → has side v ≡ true → length side ≡ g.nodes → ((w : ℕ) → has side w ≡ true → IsUnhit rooms v u w) → amount ≡ at_arc rooms v →
    IsTight g limit (raised vector i amount) (set side u true)
put_tight g limit vector heads rooms u v i amount side p shut marked full none all =
    let low_u : u < g.nodes = rw (← p.tail) (p.graph.tails i p.in_range) in
    let low_v : v < g.nodes = rw (← p.head) (p.graph.heads i p.in_range) in
    let there : u < length side = omega (arith, low_u, full) in
    let wide_v : v < length rooms = omega (arith, low_v, p.held.rooms_full) in
    let whole = shut_is_tight g limit (raised vector i amount) (raised heads i amount) (at_arc (lowered rooms v amount)) (set side u true) u
    (shared_of g limit _ _ _ (put_held g limit vector heads rooms u v i amount p)) (length-set side u true ∙ full)
    (put_shut g limit vector heads rooms u v i amount side p shut marked there) (has-set_here side u there)
    (λ w m off. elim (has-set_new side u w m) [
      | inl same ↦ absurd (off same)
      | inr old ↦ elim (cases_eq w v) [
        | inl at_v ↦
            let e : at_arc (lowered rooms v amount) w ≡ at_arc rooms v -ℤ amount = rw at_v (at_set_same rooms v _ wide_v) in
            omega (arith, ints, e, all)
        | inr neither ↦
            let e = at_set_other rooms v w (at_arc rooms v -ℤ amount) neither in
            let f = (none w old).full neither off in
            omega (arith, ints, e, f)
      ]
    ]) in
    let bare = put_bare g limit vector heads rooms u v i amount p in
    let product = times_less limit (size (set side u true)) in
    record { tight = omega (arith, ints, whole, bare, product) }
