-- What a set of vertices holds.
use Rattle.std.proofs.Common.{◌≡◌, ◌≢◌, ℕ, zero, suc, ◌+◌, ◌<◌, ◌≤◌, List, [], ◌∷◌, length, refl, Bool, true, false, cond, not, ◌&&◌, arith, ap, sym, ◌∙◌, inl, inr}
use Rattle.std.specs.Prelude.{ℤ, ◌+ℤ◌, ◌-ℤ◌, ◌*ℤ◌, ◌≤ℤ◌, pos, ◌==◌}
use Rattle.std.proofs.lemmas.Int.{ints}
use Rattle.std.proofs.lemmas.Bool.{cases_eq}
use Rattle.std.proofs.lemmas.Bool.Decides.{nat_tests}
use Rattle.pf_model.specs.Cut.{sum_where, has, leaves, enters, size, at_arc}
use Rattle.pf_model.specs.Flow.{sum_out}
use Rattle.pf_model.specs.Digraph.{Digraph, network_of}
use Rattle.pf_model.proofs.Balance.{below, excess, excess_below, more_excess, across_is_excess, inside, below_keeps, below_none, below_skips, below_takes}
use Rattle.pf_model.proofs.Integers.{mul_add}
use Rattle.pf_model.proofs.Sums.{sum_where_same, sum_where_split, sum_where_none, sum_where_most, sum_where_empty}
use Rattle.pf_graph.specs.WeightedGraph as edges
use Rattle.pf_graph.proofs.Counting.{count}
use Rattle.pf_forest.specs.Held.{IsHeld, IsShut, held, tail_of, head_of}
use Rattle.pf_forest.specs.Forest.{bound_of}
use Rattle.pf_forest.proofs.Holding.{sum_low}

below_all : (side : List Bool) (n v : ℕ) → length side ≡ n → below side n v ≡ has side v
below_all side n v full = grind (arith, nat_tests, inside)

-- the sum over the arcs that leave the vertices of a side below k
abbrev out_below : List (ℕ × ℕ) → List ℤ → List Bool → ℕ → ℤ
out_below ends numbers side k = sum_where (λ arc. below side k arc.0) ends numbers

out_more : (side : List Bool) (k : ℕ) (ends : List (ℕ × ℕ)) (numbers : List ℤ) (here : Bool) → has side k ≡ here →
    out_below ends numbers side (suc k) ≡ out_below ends numbers side k +ℤ cond here (sum_out ends numbers k) (pos 0)
out_more side k ends numbers false h =
    let e = sum_where_same (λ arc. below side (suc k) arc.0) (λ arc. below side k arc.0) ends numbers (λ arc. below_skips side k arc.0 h) in
    omega (arith, ints, e)
out_more side k ends numbers true h =
    let e = sum_where_split (λ arc. below side (suc k) arc.0) (λ arc. arc.0 == k) ends numbers in
    let takes = sum_where_same (λ arc. below side (suc k) arc.0 && (arc.0 == k)) (λ arc. arc.0 == k) ends numbers (λ arc. below_takes side k arc.0 h) in
    let keeps = sum_where_same (λ arc. below side (suc k) arc.0 && not (arc.0 == k)) (λ arc. below side k arc.0) ends numbers (λ arc. below_keeps side k arc.0) in
    omega (arith, ints, e, takes, keeps)

-- any numbers of room beside what the vertices hold, so that both are the limit together
pub record IsShared (g : Digraph) (limit : ℤ) (vector heads : List ℤ) (room : ℕ → ℤ) : Type 0 where
  pub low : (i : ℕ) → i < length g.ends → pos 0 ≤ℤ at_arc heads i
  pub high : (i : ℕ) → i < length g.ends → at_arc heads i ≤ℤ at_arc vector i
  pub room_low : (v : ℕ) → v < g.nodes → pos 0 ≤ℤ room v
  pub sums : (v : ℕ) → v < g.nodes → held g.ends vector heads v +ℤ room v ≡ limit

pub shared_of : (g : Digraph) (limit : ℤ) (vector heads rooms : List ℤ) → IsHeld g limit vector heads rooms → IsShared g limit vector heads (at_arc rooms)
shared_of g limit vector heads rooms h = record { low = h.low; high = h.high; room_low = h.rooms_low; sums = h.sums }

-- the room of the vertices of a side below k
abbrev pub room_below : (ℕ → ℤ) → List Bool → ℕ → ℤ
room_below room side zero = pos 0
room_below room side (suc k) = cond (has side k) (room k) (pos 0) +ℤ room_below room side k

-- what they hold
abbrev held_below : Digraph → List ℤ → List ℤ → List Bool → ℕ → ℤ
held_below g vector heads side k = out_below g.ends vector side k -ℤ excess_below (network_of g vector 0 0) heads side k

held_none : (g : Digraph) (vector heads : List ℤ) (side : List Bool) → held_below g vector heads side 0 ≡ pos 0
held_none g vector heads side =
    let a = sum_where_none (λ arc. below side 0 arc.0) g.ends vector (λ arc. below_none side arc.0) in
    let b = sum_where_none (λ arc. below side 0 arc.0) g.ends heads (λ arc. below_none side arc.0) in
    let c = sum_where_none (λ arc. below side 0 arc.1) g.ends heads (λ arc. below_none side arc.1) in
    omega (arith, ints, a, b, c)

held_step : (out out' fall fall' h r total limit product product' o e : ℤ) (here : Bool) →
    out' ≡ out +ℤ cond here o (pos 0) → fall' ≡ fall +ℤ cond here e (pos 0) → (here ≡ true → (o -ℤ e) +ℤ r ≡ limit) →
    product' ≡ product +ℤ cond here limit (pos 0) → (out -ℤ fall) +ℤ total ≡ product →
    (out' -ℤ fall') +ℤ (cond here r (pos 0) +ℤ total) ≡ product'
held_step out out' fall fall' h r total limit product product' o e true a b c d f = let k = c refl in omega (arith, ints, a, b, d, f, k)
held_step out out' fall fall' h r total limit product product' o e false a b c d f = omega (arith, ints, a, b, d, f)

times_more : (limit : ℤ) (here : Bool) (n : ℕ) → limit *ℤ pos (cond here 1 0 + n) ≡ (limit *ℤ pos n) +ℤ cond here limit (pos 0)
times_more limit true n =
    let e : pos (1 + n) ≡ pos n +ℤ pos 1 = omega (arith, ints) in
    let f = mul_add limit (pos n) (pos 1) in
    ap (λ x. limit *ℤ x) e ∙ f ∙ omega (arith, ints)
times_more limit false n =
    let e : pos (0 + n) ≡ pos n = omega (arith, ints) in
    ap (λ x. limit *ℤ x) e ∙ omega (arith, ints)

-- what the vertices of a side below k hold and their room are the limit, once for each of them
all_below : (g : Digraph) (limit : ℤ) (vector heads : List ℤ) (room : ℕ → ℤ) (side : List Bool) → IsShared g limit vector heads room → (k : ℕ) → k ≤ g.nodes →
    held_below g vector heads side k +ℤ room_below room side k ≡ limit *ℤ pos (count k (has side))
all_below g limit vector heads room side s zero low =
    let none = held_none g vector heads side in
    omega (arith, ints, none)
all_below g limit vector heads room side s (suc k) low =
    held_step (out_below g.ends vector side k) _ (excess_below (network_of g vector 0 0) heads side k) _ (pos 0) (room k) (room_below room side k) limit
    (limit *ℤ pos (count k (has side))) _ (sum_out g.ends vector k) (excess (network_of g vector 0 0) heads k) (has side k)
    (out_more side k g.ends vector (has side k) refl) (more_excess (network_of g vector 0 0) heads side k (has side k) refl) (λ _. s.sums k (omega (arith, low)))
    (times_more limit (has side k) (count k (has side))) (all_below g limit vector heads room side s k (omega (arith, low)))

count_front : (n : ℕ) (test : ℕ → Bool) → count (suc n) test ≡ cond (test 0) 1 0 + count n (λ a. test (suc a))
count_front zero test = refl
count_front (suc n) test = let rest = count_front n test in omega (arith, rest)

pub count_size : (side : List Bool) → count (length side) (has side) ≡ size side
count_size [] = refl
count_size (b ∷ side) = count_front (length side) (has (b ∷ side)) ∙ ap (λ n. cond b 1 0 + n) (count_size side)

-- What a set holds: the charges inside, and parts of those that leave and enter it. Together with its room that is the limit, once for each vertex.
pub held_by_set : (g : Digraph) (limit : ℤ) (vector heads : List ℤ) (room : ℕ → ℤ) (side : List Bool) → IsShared g limit vector heads room → length side ≡ g.nodes →
    ((edges.inside g.ends vector side +ℤ (sum_where (leaves side) g.ends vector -ℤ sum_where (leaves side) g.ends heads)) +ℤ sum_where (enters side) g.ends heads)
    +ℤ room_below room side g.nodes ≡ limit *ℤ pos (size side)
held_by_set g limit vector heads room side s full =
    let all = all_below g limit vector heads room side s g.nodes (omega arith) in
    let counted : count g.nodes (has side) ≡ size side = ap (λ n. count n (has side)) (sym full) ∙ count_size side in
    let product = ap (λ n. limit *ℤ pos n) counted in
    let across_is = across_is_excess (network_of g vector 0 0) heads side full in
    let tails = sum_where_same (λ arc. below side g.nodes arc.0) (λ arc. has side arc.0) g.ends vector (λ arc. below_all side g.nodes arc.0 full) in
    let out = sum_where_split (λ arc. has side arc.0) (λ arc. has side arc.1) g.ends vector in
    omega (arith, ints, all, product, across_is, tails, out)

room_nonneg : (g : Digraph) (limit : ℤ) (vector heads : List ℤ) (room : ℕ → ℤ) (side : List Bool) → IsShared g limit vector heads room → (k : ℕ) → k ≤ g.nodes →
    pos 0 ≤ℤ room_below room side k
room_nonneg g limit vector heads room side s zero low = omega (arith, ints)
room_nonneg g limit vector heads room side s (suc k) low =
    more_nonneg (has side k) (room k) _ (s.room_low k (omega (arith, low))) (room_nonneg g limit vector heads room side s k (omega (arith, low)))
  where
    more_nonneg : (here : Bool) (x a : ℤ) → pos 0 ≤ℤ x → pos 0 ≤ℤ a → pos 0 ≤ℤ (cond here x (pos 0) +ℤ a)
    more_nonneg true x a h k = omega (arith, ints, h, k)
    more_nonneg false x a h k = omega (arith, ints, k)

room_least_step : (here : Bool) (x a : ℤ) → pos 0 ≤ℤ x → a ≤ℤ (cond here x (pos 0) +ℤ a)
room_least_step true x a h = omega (arith, ints, h)
room_least_step false x a h = omega (arith, ints)

room_here_step : (here : Bool) (x a : ℤ) → here ≡ true → pos 0 ≤ℤ a → x ≤ℤ (cond here x (pos 0) +ℤ a)
room_here_step true x a e h = omega (arith, ints, h)
room_here_step false x a e h = cc

-- each vertex of the side has at most the room of the side
room_of_one : (g : Digraph) (limit : ℤ) (vector heads : List ℤ) (room : ℕ → ℤ) (side : List Bool) (r : ℕ) → IsShared g limit vector heads room → has side r ≡ true → (k : ℕ) →
    k ≤ g.nodes → r < k → room r ≤ℤ room_below room side k
room_of_one g limit vector heads room side r s h zero low less = absurd (omega (arith, less))
room_of_one g limit vector heads room side r s h (suc k) low less = elim (cases_eq r k) [
  | inl here ↦ rw here (room_here_step (has side k) (room k) _ (ap (has side) (sym here) ∙ h) (room_nonneg g limit vector heads room side s k (omega (arith, low))))
  | inr other ↦
      let rest = room_of_one g limit vector heads room side r s h k (omega (arith, low)) (omega (arith, less, other)) in
      let more = room_least_step (has side k) (room k) (room_below room side k) (s.room_low k (omega (arith, low))) in
      omega (arith, ints, rest, more)
]

only_step : (here : Bool) (x a b : ℤ) → (here ≡ true → x ≤ℤ pos 0) → a ≤ℤ b → (cond here x (pos 0) +ℤ a) ≤ℤ b
only_step true x a b h k = let e = h refl in omega (arith, ints, e, k)
only_step false x a b h k = omega (arith, ints, k)

only_here_step : (here : Bool) (x a : ℤ) → pos 0 ≤ℤ x → a ≤ℤ pos 0 → (cond here x (pos 0) +ℤ a) ≤ℤ x
only_here_step true x a h k = omega (arith, ints, k)
only_here_step false x a h k = omega (arith, ints, h, k)

-- where no other vertex of the side has room, the side has no more than that vertex
room_none : (g : Digraph) (room : ℕ → ℤ) (side : List Bool) (r : ℕ) → ((v : ℕ) → has side v ≡ true → v ≢ r → room v ≤ℤ pos 0) → (k : ℕ) → k ≤ r →
    room_below room side k ≤ℤ pos 0
room_none g room side r only zero low = omega (arith, ints)
room_none g room side r only (suc k) low =
    only_step (has side k) (room k) _ _ (λ h. only k h (λ e. (omega (arith, low, e)))) (room_none g room side r only k (omega (arith, low)))

room_of_only : (g : Digraph) (room : ℕ → ℤ) (side : List Bool) (r : ℕ) → pos 0 ≤ℤ room r → ((v : ℕ) → has side v ≡ true → v ≢ r → room v ≤ℤ pos 0) → (k : ℕ) →
    room_below room side k ≤ℤ room r
room_of_only g room side r least only zero = least
room_of_only g room side r least only (suc k) = elim (cases_eq k r) [
  | inl here ↦
      let none = room_none g room side r only k (omega (arith, here)) in
      let e = only_here_step (has side k) (room k) (room_below room side k) (rw here least) none in
      rw (← ap room here) e
  | inr other ↦ only_step (has side k) (room k) _ _ (λ h. only k h other) (room_of_only g room side r least only k)
]

pub times_less : (limit : ℤ) (n : ℕ) → limit *ℤ (pos n -ℤ pos 1) ≡ (limit *ℤ pos n) -ℤ limit
times_less limit n =
    let e : pos n ≡ (pos n -ℤ pos 1) +ℤ pos 1 = omega (arith, ints) in
    let f : limit *ℤ pos n ≡ (limit *ℤ (pos n -ℤ pos 1)) +ℤ (limit *ℤ pos 1) = ap (λ x. limit *ℤ x) e ∙ mul_add limit (pos n -ℤ pos 1) (pos 1) in
    omega (arith, ints, f)

-- a vertex that holds nothing bounds every set that it is in
pub root_bounds : (g : Digraph) (limit : ℤ) (vector heads : List ℤ) (room : ℕ → ℤ) (side : List Bool) (r : ℕ) → IsShared g limit vector heads room → length side ≡ g.nodes →
    has side r ≡ true → room r ≡ limit → edges.inside g.ends vector side ≤ℤ bound_of limit side
root_bounds g limit vector heads room side r s full h bare =
    let whole = held_by_set g limit vector heads room side s full in
    let low : r < g.nodes = omega (arith, inside side r h, full) in
    let out = sum_where_most (leaves side) g.ends heads vector (λ i p. s.high i p.in_range) in
    let into = sum_low (enters side) g.ends heads s.low in
    let one = room_of_one g limit vector heads room side r s h g.nodes (omega arith) low in
    let product = times_less limit (size side) in
    omega (arith, ints, whole, out, into, one, product, bare)

and_parts : (p q : Bool) → (p && not q) ≡ true → (p ≡ true) × (q ≡ false)
and_parts true false e = (refl, refl)
and_parts true true e = cc
and_parts false q e = cc

-- a set out of which nothing can be moved, with room at one vertex alone
pub shut_is_tight : (g : Digraph) (limit : ℤ) (vector heads : List ℤ) (room : ℕ → ℤ) (side : List Bool) (r : ℕ) → IsShared g limit vector heads room → length side ≡ g.nodes →
    IsShut g.ends vector heads side → has side r ≡ true → ((v : ℕ) → has side v ≡ true → v ≢ r → room v ≤ℤ pos 0) →
    edges.inside g.ends vector side +ℤ room r ≡ limit *ℤ pos (size side)
shut_is_tight g limit vector heads room side r s full shut h only =
    let whole = held_by_set g limit vector heads room side s full in
    let low : r < g.nodes = omega (arith, inside side r h, full) in
    let out = sum_where_most (leaves side) g.ends heads vector (λ i p. s.high i p.in_range) in
    let out' = sum_where_most (leaves side) g.ends vector heads (λ i p. let t = and_parts (has side (tail_of g.ends i)) (has side (head_of g.ends i)) p.passes in shut.out i p.in_range t.0 t.1) in
    let into = sum_low (enters side) g.ends heads s.low in
    let into' = sum_where_most (enters side) g.ends heads [] (λ i p. let t = and_parts (has side (head_of g.ends i)) (has side (tail_of g.ends i)) p.passes in shut.into i p.in_range t.0 t.1) in
    let none = sum_where_empty (enters side) g.ends in
    let one = room_of_one g limit vector heads room side r s h g.nodes (omega arith) low in
    let most = room_of_only g room side r (s.room_low r low) only g.nodes in
    omega (arith, ints, whole, out, out', into, into', none, one, most)
