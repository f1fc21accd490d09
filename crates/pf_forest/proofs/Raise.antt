-- One edge is raised.
use Rattle.std.proofs.Common.{◌≡◌, ◌≢◌, ℕ, ◌<◌, List, length, set, Bool, true, arith, ap, sym, ◌∙◌, inl, inr, subst}
use Rattle.std.specs.Prelude.{ℤ, ◌+ℤ◌, ◌-ℤ◌, ◌≤ℤ◌, pos}
use Rattle.std.proofs.lemmas.Int.{ints}
use Rattle.std.proofs.lemmas.List.{length-set}
use Rattle.pf_model.specs.Cut.{has, at_arc}
use Rattle.pf_model.specs.Digraph.{Digraph, IsDigraph}
use Rattle.pf_model.proofs.Search.{has-set, has-set_here}
use Rattle.pf_graph.specs.Labels.{label}
use Rattle.pf_forest.specs.Held.{IsHeld, IsBare, IsUnhit, IsShut, tail_of, head_of}
use Rattle.pf_forest.specs.Filling.{IsForest, IsTight, IsJoined, IsRaised, HasApartEnds, HasBounds}
use Rattle.pf_forest.proofs.Putting.{IsPut, raised, lowered, put_forest, put_tight}
use Rattle.pf_forest.proofs.Holding.{at_set_same, at_set_other, rooms_high}
use Rattle.pf_forest.proofs.Joining.{join_tight, join_refines, join_meets, join_low}

-- what is held may move
pub forest_moves : (g : Digraph) (limit : ℤ) (vector heads rooms heads' rooms' : List ℤ) (groups : List ℕ) → IsForest g limit vector heads rooms groups →
    IsHeld g limit vector heads' rooms' → IsForest g limit vector heads' rooms' groups
forest_moves g limit vector heads rooms heads' rooms' groups f h = record { held = h; sparse = f.sparse; full = f.full; low = f.low; tight = f.tight }

-- the edge gets to its goal
pub raise_full : (g : Digraph) (limit : ℤ) (vector heads rooms : List ℤ) (groups : List ℕ) (u v e : ℕ) (amount goal : ℤ) (vector' heads' rooms' : List ℤ) →
    IsForest g limit vector heads rooms groups → IsPut g limit vector heads rooms u v e amount → label groups u ≢ label groups v →
    amount ≡ goal -ℤ at_arc vector e → vector' ≡ raised vector e amount → heads' ≡ raised heads e amount → rooms' ≡ lowered rooms v amount →
    IsForest g limit vector' heads' rooms' groups × IsRaised g vector groups vector' groups e goal
raise_full g limit vector heads rooms groups u v e amount goal vector' heads' rooms' f p other all a b c =
    let there : e < length vector = omega (arith, p.in_range, p.held.vector_full) in
    let here : at_arc (raised vector e amount) e ≡ at_arc vector e +ℤ amount = at_set_same vector e (at_arc vector e +ℤ amount) there in
    let low = p.low in
    rw (a, b, c) (
      put_forest g limit vector heads rooms groups u v e amount p f other,
      record {
        others = λ k off. at_set_other vector e k (at_arc vector e +ℤ amount) off;
        more = omega (arith, ints, here, low);
        most = omega (arith, ints, here, all);
        done = inl (omega (arith, ints, here, all));
        refines = record { joins = λ x y low_x low_y same. same };
      },
    )

-- its ends come into one group
pub raise_joined : (g : Digraph) (limit : ℤ) (vector heads rooms : List ℤ) (groups : List ℕ) (u v e : ℕ) (amount goal : ℤ) (vector' heads' rooms' : List ℤ) (side side' : List Bool)
    (to : ℕ) (groups' : List ℕ) →
    IsForest g limit vector heads rooms groups → IsPut g limit vector heads rooms u v e amount → label groups u ≢ label groups v →
    amount ≡ at_arc rooms v → amount ≤ℤ (goal -ℤ at_arc vector e) → vector' ≡ raised vector e amount → heads' ≡ raised heads e amount → rooms' ≡ lowered rooms v amount →
    length side ≡ g.nodes → has side v ≡ true → ((w : ℕ) → has side w ≡ true → IsUnhit rooms v u w) → IsShut g.ends vector heads side →
    side' ≡ set side u true → to ≡ label groups u → IsJoined side' groups to groups' →
    IsForest g limit vector' heads' rooms' groups' × IsRaised g vector groups vector' groups' e goal
raise_joined g limit vector heads rooms groups u v e amount goal vector' heads' rooms' side side' to groups' f p other all most a b c full marked none shut d t j =
    let there : e < length vector = omega (arith, p.in_range, p.held.vector_full) in
    let here : at_arc (raised vector e amount) e ≡ at_arc vector e +ℤ amount = at_set_same vector e (at_arc vector e +ℤ amount) there in
    let low = p.low in
    let low_u : u < g.nodes = rw (← p.tail) (p.graph.tails e p.in_range) in
    let low_v : v < g.nodes = rw (← p.head) (p.graph.heads e p.in_range) in
    let wide_u : u < length side = omega (arith, low_u, full) in
    let new = put_forest g limit vector heads rooms groups u v e amount p f other in
    let tight : IsTight g limit (raised vector e amount) side' = rw d (put_tight g limit vector heads rooms u v e amount side p shut marked full none all) in
    let joined : IsJoined side' groups (label groups u) groups' = rw (← t) j in
    let full' : length side' ≡ g.nodes = ap length d ∙ length-set side u true ∙ full in
    let has_u : has side' u ≡ true = ap (λ s. has s u) d ∙ has-set_here side u wide_u in
    let has_v : has side' v ≡ true = ap (λ s. has s v) d ∙ has-set side u v marked in
    let nonneg : (i : ℕ) → i < length g.ends → pos 0 ≤ℤ at_arc (raised vector e amount) i = λ i in_range.
    let x = new.held.low i in_range in let y = new.held.high i in_range in omega (arith, ints, x, y) in
    let groups_tight = join_tight g limit (raised vector e amount) groups groups' side' u new.sparse nonneg f.full full'
    (λ x some. record { tight = new.tight x some }) tight has_u low_u joined in
    rw (a, b, c) (
      record {
        held = new.held;
        sparse = new.sparse;
        full = joined.full ∙ f.full;
        low = join_low groups groups' side' (label groups u) g.nodes f.full joined (f.low u low_u) f.low;
        tight = λ x some. (groups_tight x some).tight;
      },
      record {
        others = λ k off. at_set_other vector e k (at_arc vector e +ℤ amount) off;
        more = omega (arith, ints, here, low);
        most = omega (arith, ints, here, most);
        done = inr (
            ap (label groups') p.tail ∙ join_meets groups groups' side' (label groups u) g.nodes u f.full joined has_u low_u
            ∙ sym (ap (label groups') p.head ∙ join_meets groups groups' side' (label groups u) g.nodes v f.full joined has_v low_v));
        refines = join_refines groups groups' side' (label groups u) g.nodes f.full joined;
      },
    )

-- what the put needs, from what the two searches for room left
pub put_ready : (g : Digraph) (limit limit' : ℤ) (vector heads rooms : List ℤ) (u v e : ℕ) (amount : ℤ) → limit' ≡ limit → IsHeld g limit' vector heads rooms →
    IsBare rooms limit' v u → IsDigraph g → e < length g.ends → u ≡ tail_of g.ends e → v ≡ head_of g.ends e → HasApartEnds g.ends → pos 0 ≤ℤ amount → amount ≤ℤ at_arc rooms v →
    IsPut g limit vector heads rooms u v e amount
put_ready g limit limit' vector heads rooms u v e amount same h b graph low tail head ends least fits =
    let apart : u ≢ v = λ s. ends.apart e low (sym tail ∙ s ∙ head) in
    let P : ℤ → Type 0 = λ x. IsHeld g x vector heads rooms in
    record {
      held = subst P same h;
      graph = graph;
      in_range = low;
      tail = sym tail;
      head = sym head;
      apart = apart;
      bare = b.bare apart ∙ same;
      low = least;
      fits = fits;
    }

-- the same, and the forest as the two searches left it
pub forest_put : (g : Digraph) (limit limit' : ℤ) (vector vector' heads rooms heads' rooms' : List ℤ) (groups : List ℕ) (u v e : ℕ) (amount : ℤ) → limit' ≡ limit → vector' ≡ vector →
    IsForest g limit vector heads rooms groups → IsHeld g limit' vector' heads' rooms' → IsBare rooms' limit' v u → IsDigraph g → e < length g.ends →
    u ≡ tail_of g.ends e → v ≡ head_of g.ends e → HasApartEnds g.ends → pos 0 ≤ℤ amount → amount ≤ℤ at_arc rooms' v →
    IsForest g limit vector' heads' rooms' groups × IsPut g limit vector' heads' rooms' u v e amount
forest_put g limit limit' vector vector' heads rooms heads' rooms' groups u v e amount same stays f h b graph low tail head ends least fits =
    let P : List ℤ → Type 0 = λ l. IsForest g limit l heads rooms groups in
    let put = put_ready g limit limit' vector' heads' rooms' u v e amount same h b graph low tail head ends least fits in
    (forest_moves g limit vector' heads rooms heads' rooms' groups (subst P (sym stays) f) put.held, put)

pub bounds_of : (g : Digraph) (limit : ℤ) (vector heads rooms : List ℤ) (v e : ℕ) → IsHeld g limit vector heads rooms → v < g.nodes → e < length g.ends →
    HasBounds vector heads rooms v e
bounds_of g limit vector heads rooms v e h low_v low_e =
    let most = rooms_high g limit vector heads rooms v h low_v in
    let small = h.small in
    record {
      room_low = h.rooms_low v low_v;
      room_top = omega (arith, ints, most, small);
      heads_low = h.low e low_e;
      heads_high = h.high e low_e;
    }
