-- Each sparse vector has a split for each root: one unit after the other, one of an edge's ends has room for it (Hakimi 1965).
use Rattle.std.proofs.Common.{◌≡◌, ◌≢◌, ℕ, zero, suc, ◌+◌, ◌<◌, List, [], ◌∷◌, length, get_or, replicate, refl, Bool, true, false, cond, eqb, ◌&&◌, ◌||◌, ap, sym, ◌∙◌, inl, inr, arith}
use Rattle.std.specs.Prelude.{ℤ, ◌+ℤ◌, ◌-ℤ◌, ◌*ℤ◌, ◌≤ℤ◌, ◌<ℤ◌, pos, negsuc, ◌⊎◌, ◌==◌}
use Rattle.std.proofs.lemmas.Bool.{cases_Bool, cases_eq, eq-eqb, ne_eqb}
use Rattle.std.proofs.lemmas.Int.{ints, by_lt_z}
use Rattle.pf_model.specs.Cut.{has, size, at_arc, union, intersection}
use Rattle.pf_model.specs.Digraph.{Digraph, IsDigraph}
use Rattle.pf_model.specs.Flow.{sum_out, sum_in}
use Rattle.pf_model.proofs.Exchange.{has-union, length-union, length-intersection}
use Rattle.pf_model.proofs.Integers.{mul_add}
use Rattle.pf_model.proofs.Sums.{sum_where_empty, sum_where_most, sum_where_none}
use Rattle.pf_graph.specs.WeightedGraph.{lies_in, inside, cost_of}
use Rattle.pf_graph.proofs.Supermodular.{inside_supermodular}
use Rattle.pf_forest.specs.Forest.{IsSparse, given}
use Rattle.pf_forest.specs.ForestLaws.{HasSplit}
use Rattle.pf_forest.proofs.Sets.{times_less}
use Rattle.pf_forest.proofs.Sparse.{some_size}

-- ---- a side of n vertices that a test finds, or none

record HasSide (n : ℕ) (first second : List Bool → ℤ) : Type 0 where
  side : List Bool
  full : length side ≡ n
  less : second side <ℤ first side

abbrev NoSide : ℕ → (List Bool → ℤ) → (List Bool → ℤ) → Type 0
NoSide n first second = (side : List Bool) → length side ≡ n → first side ≤ℤ second side

no_side_of_none : (first second : List Bool → ℤ) → first [] ≤ℤ second [] → NoSide 0 first second
no_side_of_none first second h [] full = h
no_side_of_none first second h (b ∷ side) full = absurd (omega (arith, full))

no_side_of_more : (n : ℕ) (first second : List Bool → ℤ) → NoSide n (λ s. first (true ∷ s)) (λ s. second (true ∷ s)) → NoSide n (λ s. first (false ∷ s)) (λ s. second (false ∷ s)) →
    NoSide (suc n) first second
no_side_of_more n first second h k [] full = absurd (omega (arith, full))
no_side_of_more n first second h k (true ∷ side) full = h side (omega (arith, full))
no_side_of_more n first second h k (false ∷ side) full = k side (omega (arith, full))

find_side : (n : ℕ) (first second : List Bool → ℤ) → HasSide n first second ⊎ NoSide n first second
find_side zero first second =
    by_lt_z (second []) (first []) (λ less. inl (record { side = []; full = refl; less = less })) (λ most. inr (no_side_of_none first second most))
find_side (suc n) first second = elim (find_side n (λ s. first (true ∷ s)) (λ s. second (true ∷ s))) [
  | inl found ↦ inl (record { side = true ∷ found.side; full = ap suc found.full; less = found.less })
  | inr none ↦ elim (find_side n (λ s. first (false ∷ s)) (λ s. second (false ∷ s))) [
    | inl found ↦ inl (record { side = false ∷ found.side; full = ap suc found.full; less = found.less })
    | inr none' ↦ inr (no_side_of_more n first second none none')
  ]
]

-- ---- the room of a set of vertices, and one unit less at one vertex

abbrev less_at : List ℤ → ℕ → List ℤ
less_at [] u = []
less_at (x ∷ rooms) zero = (x -ℤ pos 1) ∷ rooms
less_at (x ∷ rooms) (suc u) = x ∷ less_at rooms u

length_less : (rooms : List ℤ) (u : ℕ) → length (less_at rooms u) ≡ length rooms
length_less [] u = refl
length_less (x ∷ rooms) zero = refl
length_less (x ∷ rooms) (suc u) = ap suc (length_less rooms u)

less_here : (rooms : List ℤ) (u : ℕ) → u < length rooms → at_arc (less_at rooms u) u ≡ at_arc rooms u -ℤ pos 1
less_here [] u low = absurd (omega (arith, low))
less_here (x ∷ rooms) zero low = refl
less_here (x ∷ rooms) (suc u) low = less_here rooms u (omega (arith, low))

less_there : (rooms : List ℤ) (u v : ℕ) → u ≢ v → at_arc (less_at rooms u) v ≡ at_arc rooms v
less_there [] u v other = refl
less_there (x ∷ rooms) zero zero other = absurd (other refl)
less_there (x ∷ rooms) zero (suc v) other = refl
less_there (x ∷ rooms) (suc u) zero other = refl
less_there (x ∷ rooms) (suc u) (suc v) other = less_there rooms u v (λ e. other (ap suc e))

at_less : (rooms : List ℤ) (u v : ℕ) → u < length rooms → at_arc (less_at rooms u) v ≡ at_arc rooms v -ℤ cond (eqb u v) (pos 1) (pos 0)
at_less rooms u v low = elim (cases_eq u v) [
  | inl same ↦
      let here = less_here rooms u low in
      let moved = ap (λ k. at_arc (less_at rooms u) k) same in
      let moved' = ap (λ k. at_arc rooms k) same in
      rw (eq-eqb u v same) (omega (arith, ints, here, moved, moved'))
  | inr other ↦ (let there = less_there rooms u v other in rw (ne_eqb u v other) (omega (arith, ints, there)))
]

cost_step : (b : Bool) (x c : ℤ) → cond b (x -ℤ pos 1) (pos 0) +ℤ c ≡ (cond b x (pos 0) +ℤ c) -ℤ cond b (pos 1) (pos 0)
cost_step true x c = omega (arith, ints)
cost_step false x c = omega (arith, ints)

cost_later : (b : Bool) (x c c' y : ℤ) → c' ≡ c -ℤ y → cond b x (pos 0) +ℤ c' ≡ (cond b x (pos 0) +ℤ c) -ℤ y
cost_later b x c c' y e = omega (arith, ints, e)

cost_less : (rooms : List ℤ) (u : ℕ) (side : List Bool) → u < length rooms → cost_of (less_at rooms u) side ≡ cost_of rooms side -ℤ cond (has side u) (pos 1) (pos 0)
cost_less [] u side low = absurd (omega (arith, low))
cost_less (x ∷ rooms) zero [] low = refl
cost_less (x ∷ rooms) (suc u) [] low = refl
cost_less (x ∷ rooms) zero (b ∷ side) low = cost_step b x (cost_of rooms side)
cost_less (x ∷ rooms) (suc u) (b ∷ side) low =
    cost_later b x (cost_of rooms side) (cost_of (less_at rooms u) side) (cond (has side u) (pos 1) (pos 0)) (cost_less rooms u side (omega (arith, low)))

modular_step : (p q : Bool) (x a b c d : ℤ) → a +ℤ b ≡ c +ℤ d →
    (cond (p || q) x (pos 0) +ℤ a) +ℤ (cond (p && q) x (pos 0) +ℤ b) ≡ (cond p x (pos 0) +ℤ c) +ℤ (cond q x (pos 0) +ℤ d)
modular_step true true x a b c d e = omega (arith, ints, e)
modular_step true false x a b c d e = omega (arith, ints, e)
modular_step false true x a b c d e = omega (arith, ints, e)
modular_step false false x a b c d e = omega (arith, ints, e)

cost_modular : (rooms : List ℤ) (first second : List Bool) → cost_of rooms (union first second) +ℤ cost_of rooms (intersection first second) ≡ cost_of rooms first +ℤ cost_of rooms second
cost_modular [] first second = refl
cost_modular (x ∷ rooms) [] second = omega (arith, ints)
cost_modular (x ∷ rooms) (p ∷ first) [] = omega (arith, ints)
cost_modular (x ∷ rooms) (p ∷ first) (q ∷ second) =
    modular_step p q x (cost_of rooms (union first second)) (cost_of rooms (intersection first second)) (cost_of rooms first) (cost_of rooms second) (cost_modular rooms first second)

-- one vertex alone
record IsAlone (rooms : List ℤ) (v : ℕ) : Type 0 where
  side : List Bool
  full : length side ≡ length rooms
  cost : cost_of rooms side ≡ at_arc rooms v

nobody : (rooms : List ℤ) → cost_of rooms (replicate (length rooms) false) ≡ pos 0
nobody [] = refl
nobody (x ∷ rooms) = let e = nobody rooms in omega (arith, ints, e)

length_nobody : (n : ℕ) → length (replicate n false) ≡ n
length_nobody zero = refl
length_nobody (suc n) = ap suc (length_nobody n)

alone : (rooms : List ℤ) (v : ℕ) → IsAlone rooms v
alone [] v = record { side = []; full = refl; cost = refl }
alone (x ∷ rooms) zero =
    let e = nobody rooms in
    record { side = true ∷ replicate (length rooms) false; full = ap suc (length_nobody (length rooms)); cost = omega (arith, ints, e) }
alone (x ∷ rooms) (suc v) =
    let a = alone rooms v in
    let e = a.cost in
    record { side = false ∷ a.side; full = ap suc a.full; cost = omega (arith, ints, e) }

-- ---- numbers that no set of vertices lacks room for

record IsRoomy (ends : List (ℕ × ℕ)) (numbers rooms : List ℤ) : Type 0 where
  roomy : (side : List Bool) → length side ≡ length rooms → inside ends numbers side ≤ℤ cost_of rooms side

-- what is shared: each edge gives a share to its first end and the rest to its second
record IsShared (ends : List (ℕ × ℕ)) (numbers rooms shares : List ℤ) : Type 0 where
  full : length shares ≡ length ends
  low : (i : ℕ) → i < length ends → pos 0 ≤ℤ at_arc shares i
  high : (i : ℕ) → i < length ends → at_arc shares i ≤ℤ at_arc numbers i
  most : (v : ℕ) → given ends numbers shares v ≤ℤ at_arc rooms v

record HasShares (ends : List (ℕ × ℕ)) (numbers rooms : List ℤ) : Type 0 where
  shares : List ℤ
  are : IsShared ends numbers rooms shares

-- both ends of each edge are among the vertices
record HasEnds (ends : List (ℕ × ℕ)) (n : ℕ) : Type 0 where
  tails : (i : ℕ) → i < length ends → (get_or ends i (0, 0)).0 < n
  heads : (i : ℕ) → i < length ends → (get_or ends i (0, 0)).1 < n

later_ends : (edge : ℕ × ℕ) (ends : List (ℕ × ℕ)) (n : ℕ) → HasEnds (edge ∷ ends) n → HasEnds ends n
later_ends edge ends n h = record { tails = λ i low. h.tails (suc i) (omega (arith, low)); heads = λ i low. h.heads (suc i) (omega (arith, low)) }

low_cons : (x : ℤ) (numbers : List ℤ) (n : ℕ) → pos 0 ≤ℤ x → ((i : ℕ) → i < n → pos 0 ≤ℤ at_arc numbers i) → (i : ℕ) → i < suc n → pos 0 ≤ℤ at_arc (x ∷ numbers) i
low_cons x numbers n h l zero low = h
low_cons x numbers n h l (suc i) low = l i (omega (arith, low))

high_cons : (x y : ℤ) (xs ys : List ℤ) (n : ℕ) → x ≤ℤ y → ((i : ℕ) → i < n → at_arc xs i ≤ℤ at_arc ys i) → (i : ℕ) → i < suc n → at_arc (x ∷ xs) i ≤ℤ at_arc (y ∷ ys) i
high_cons x y xs ys n h l zero low = h
high_cons x y xs ys n h l (suc i) low = l i (omega (arith, low))

-- ---- one unit of an edge: if neither end can take it, some set lacks room

-- a set that holds one end and not the other, and has no room left
record IsFull (ends : List (ℕ × ℕ)) (numbers rooms : List ℤ) (u w : ℕ) (side : List Bool) : Type 0 where
  holds : has side u ≡ true
  misses : has side w ≡ false
  tight : inside ends numbers side ≡ cost_of rooms side

full_step : (at_u at_w : Bool) (n : ℕ) (rest cost : ℤ) → (cond (at_u && at_w) (pos (suc n)) (pos 0) +ℤ rest) ≤ℤ cost →
    (cost -ℤ cond at_u (pos 1) (pos 0)) <ℤ (cond (at_u && at_w) (pos n) (pos 0) +ℤ rest) → (at_u ≡ true) × ((at_w ≡ false) × (rest ≡ cost))
full_step true true n rest cost h k = absurd (omega (arith, ints, h, k))
full_step true false n rest cost h k = (refl, (refl, omega (arith, ints, h, k)))
full_step false at_w n rest cost h k = absurd (omega (arith, ints, h, k))

swapped_test : (a b : Bool) → (a && b) ≡ (b && a)
swapped_test true true = refl
swapped_test true false = refl
swapped_test false true = refl
swapped_test false false = refl

full_first : (edge : ℕ × ℕ) (n : ℕ) (ends : List (ℕ × ℕ)) (numbers rooms : List ℤ) (side : List Bool) → edge.0 < length rooms → IsRoomy (edge ∷ ends) (pos (suc n) ∷ numbers) rooms →
    length side ≡ length rooms → cost_of (less_at rooms edge.0) side <ℤ inside (edge ∷ ends) (pos n ∷ numbers) side → IsFull ends numbers rooms edge.0 edge.1 side
full_first edge n ends numbers rooms side low r full less =
    let most = r.roomy side full in
    let cost = cost_less rooms edge.0 side low in
    let f = full_step (has side edge.0) (has side edge.1) n (inside ends numbers side) (cost_of rooms side) most (omega (arith, ints, less, cost)) in
    record { holds = f.0; misses = f.1.0; tight = f.1.1 }

full_second : (edge : ℕ × ℕ) (n : ℕ) (ends : List (ℕ × ℕ)) (numbers rooms : List ℤ) (side : List Bool) → edge.1 < length rooms → IsRoomy (edge ∷ ends) (pos (suc n) ∷ numbers) rooms →
    length side ≡ length rooms → cost_of (less_at rooms edge.1) side <ℤ inside (edge ∷ ends) (pos n ∷ numbers) side → IsFull ends numbers rooms edge.1 edge.0 side
full_second edge n ends numbers rooms side low r full less =
    let most = r.roomy side full in
    let cost = cost_less rooms edge.1 side low in
    let turn = ap (λ b. cond b (pos (suc n)) (pos 0)) (swapped_test (has side edge.0) (has side edge.1)) in
    let turn' = ap (λ b. cond b (pos n) (pos 0)) (swapped_test (has side edge.0) (has side edge.1)) in
    let f = full_step (has side edge.1) (has side edge.0) n (inside ends numbers side) (cost_of rooms side) (omega (arith, ints, most, turn)) (omega (arith, ints, less, cost, turn')) in
    record { holds = f.0; misses = f.1.0; tight = f.1.1 }

taken_step : (a b : Bool) (n : ℕ) (rest : ℤ) → a ≡ true → b ≡ true → cond (a && b) (pos (suc n)) (pos 0) +ℤ rest ≡ pos (suc n) +ℤ rest
taken_step true true n rest e f = refl
taken_step true false n rest e f = cc
taken_step false b n rest e f = cc

some_step : (a : Bool) (n : ℕ) (rest : ℤ) → rest ≤ℤ (cond a (pos n) (pos 0) +ℤ rest)
some_step true n rest = omega (arith, ints)
some_step false n rest = omega (arith, ints)

-- two such sets, one for each end
never_both : (edge : ℕ × ℕ) (n : ℕ) (ends : List (ℕ × ℕ)) (numbers rooms : List ℤ) (first second : List Bool) → ((i : ℕ) → i < length ends → pos 0 ≤ℤ at_arc numbers i) →
    IsRoomy (edge ∷ ends) (pos (suc n) ∷ numbers) rooms → length first ≡ length rooms → length second ≡ length rooms →
    IsFull ends numbers rooms edge.0 edge.1 first → IsFull ends numbers rooms edge.1 edge.0 second → ⊥
never_both edge n ends numbers rooms first second low r full full' f s =
    let both = full ∙ sym full' in
    let more = inside_supermodular ends numbers first second low in
    let modular = cost_modular rooms first second in
    let join = r.roomy (union first second) (length-union first second both ∙ full) in
    let meet = r.roomy (intersection first second) (length-intersection first second both ∙ full) in
    let at_u : has (union first second) edge.0 ≡ true = has-union first second edge.0 ∙ rw (f.holds) refl in
    let at_w : has (union first second) edge.1 ≡ true = has-union first second edge.1 ∙ rw (f.misses, s.holds) refl in
    let taken = taken_step (has (union first second) edge.0) (has (union first second) edge.1) n (inside ends numbers (union first second)) at_u at_w in
    let least = some_step (lies_in (intersection first second) edge) (suc n) (inside ends numbers (intersection first second)) in
    let tight = f.tight in
    let tight' = s.tight in
    omega (arith, ints, more, modular, join, meet, taken, least, tight, tight')

-- ---- sharing, unit by unit

nothing : (b : Bool) (a : ℤ) → cond b (pos 0) (pos 0) +ℤ a ≡ a
nothing true a = omega (arith, ints)
nothing false a = omega (arith, ints)

-- an edge with nothing to share
share_none : (edge : ℕ × ℕ) (ends : List (ℕ × ℕ)) (numbers rooms : List ℤ) → HasShares ends numbers rooms → HasShares (edge ∷ ends) (pos 0 ∷ numbers) rooms
share_none edge ends numbers rooms h =
    let s = h.are in
    record {
      shares = pos 0 ∷ h.shares;
      are = record {
        full = ap suc s.full;
        low = low_cons (pos 0) h.shares (length ends) (omega (arith, ints)) s.low;
        high = high_cons (pos 0) (pos 0) h.shares numbers (length ends) (omega (arith, ints)) s.high;
        most = λ v.
            let out = nothing (edge.0 == v) (sum_out ends h.shares v) in
            let into = nothing (edge.1 == v) (sum_in ends numbers v) in
            let back = nothing (edge.1 == v) (sum_in ends h.shares v) in
            let most = s.most v in
            omega (arith, ints, out, into, back, most);
      };
    }

roomy_rest : (edge : ℕ × ℕ) (ends : List (ℕ × ℕ)) (numbers rooms : List ℤ) → IsRoomy (edge ∷ ends) (pos 0 ∷ numbers) rooms → IsRoomy ends numbers rooms
roomy_rest edge ends numbers rooms r = record {
  roomy = λ side full.
      let e = nothing (lies_in side edge) (inside ends numbers side) in
      let h = r.roomy side full in
      omega (arith, ints, e, h);
}

first_gains : (out into : Bool) (n : ℕ) (x so si sr room less : ℤ) → ((cond out x (pos 0) +ℤ so) +ℤ ((cond into (pos n) (pos 0) +ℤ si) -ℤ (cond into x (pos 0) +ℤ sr))) ≤ℤ less →
    less ≡ room -ℤ cond out (pos 1) (pos 0) →
    ((cond out (x +ℤ pos 1) (pos 0) +ℤ so) +ℤ ((cond into (pos (suc n)) (pos 0) +ℤ si) -ℤ (cond into (x +ℤ pos 1) (pos 0) +ℤ sr))) ≤ℤ room
first_gains true true n x so si sr room less h e = omega (arith, ints, h, e)
first_gains true false n x so si sr room less h e = omega (arith, ints, h, e)
first_gains false true n x so si sr room less h e = omega (arith, ints, h, e)
first_gains false false n x so si sr room less h e = omega (arith, ints, h, e)

second_gains : (out into : Bool) (n : ℕ) (x so si sr room less : ℤ) → ((cond out x (pos 0) +ℤ so) +ℤ ((cond into (pos n) (pos 0) +ℤ si) -ℤ (cond into x (pos 0) +ℤ sr))) ≤ℤ less →
    less ≡ room -ℤ cond into (pos 1) (pos 0) →
    ((cond out x (pos 0) +ℤ so) +ℤ ((cond into (pos (suc n)) (pos 0) +ℤ si) -ℤ (cond into x (pos 0) +ℤ sr))) ≤ℤ room
second_gains true true n x so si sr room less h e = omega (arith, ints, h, e)
second_gains true false n x so si sr room less h e = omega (arith, ints, h, e)
second_gains false true n x so si sr room less h e = omega (arith, ints, h, e)
second_gains false false n x so si sr room less h e = omega (arith, ints, h, e)

-- the first end takes the unit
share_first : (edge : ℕ × ℕ) (n : ℕ) (ends : List (ℕ × ℕ)) (numbers rooms shares : List ℤ) → edge.0 < length rooms → IsShared (edge ∷ ends) (pos n ∷ numbers) (less_at rooms edge.0) shares →
    HasShares (edge ∷ ends) (pos (suc n) ∷ numbers) rooms
share_first edge n ends numbers rooms [] low s = absurd (let full = s.full in omega (arith, full))
share_first edge n ends numbers rooms (x ∷ shares) low s = record {
  shares = (x +ℤ pos 1) ∷ shares;
  are = record {
    full = s.full;
    low = low_cons (x +ℤ pos 1) shares (length ends) (let h = s.low 0 (omega arith) in omega (arith, ints, h)) (λ i l. s.low (suc i) (omega (arith, l)));
    high = high_cons (x +ℤ pos 1) (pos (suc n)) shares numbers (length ends) (let h = s.high 0 (omega arith) in omega (arith, ints, h)) (λ i l. s.high (suc i) (omega (arith, l)));
    most = λ v.
        first_gains (edge.0 == v) (edge.1 == v) n x (sum_out ends shares v) (sum_in ends numbers v) (sum_in ends shares v) (at_arc rooms v) (at_arc (less_at rooms edge.0) v)
        (s.most v) (at_less rooms edge.0 v low);
  };
}

-- the second end takes it
share_second : (edge : ℕ × ℕ) (n : ℕ) (ends : List (ℕ × ℕ)) (numbers rooms shares : List ℤ) → edge.1 < length rooms → IsShared (edge ∷ ends) (pos n ∷ numbers) (less_at rooms edge.1) shares →
    HasShares (edge ∷ ends) (pos (suc n) ∷ numbers) rooms
share_second edge n ends numbers rooms [] low s = absurd (let full = s.full in omega (arith, full))
share_second edge n ends numbers rooms (x ∷ shares) low s = record {
  shares = x ∷ shares;
  are = record {
    full = s.full;
    low = s.low;
    high = high_cons x (pos (suc n)) shares numbers (length ends) (let h = s.high 0 (omega arith) in omega (arith, ints, h)) (λ i l. s.high (suc i) (omega (arith, l)));
    most = λ v.
        second_gains (edge.0 == v) (edge.1 == v) n x (sum_out ends shares v) (sum_in ends numbers v) (sum_in ends shares v) (at_arc rooms v) (at_arc (less_at rooms edge.1) v)
        (s.most v) (at_less rooms edge.1 v low);
  };
}

-- where the later edges can be shared within any rooms that serve, so can the first with them
record CanShare (ends : List (ℕ × ℕ)) (numbers : List ℤ) (k : ℕ) : Type 0 where
  can : (rooms : List ℤ) → length rooms ≡ k → IsRoomy ends numbers rooms → HasShares ends numbers rooms

share_edge : (edge : ℕ × ℕ) (ends : List (ℕ × ℕ)) (numbers : List ℤ) (k : ℕ) → edge.0 < k → edge.1 < k → ((i : ℕ) → i < length ends → pos 0 ≤ℤ at_arc numbers i) → CanShare ends numbers k →
    (n : ℕ) (rooms : List ℤ) → length rooms ≡ k → IsRoomy (edge ∷ ends) (pos n ∷ numbers) rooms → HasShares (edge ∷ ends) (pos n ∷ numbers) rooms
share_edge edge ends numbers k at_u at_w low can zero rooms full r =
    share_none edge ends numbers rooms (can.can rooms full (roomy_rest edge ends numbers rooms r))
share_edge edge ends numbers k at_u at_w low can (suc n) rooms full r =
    let low_u : edge.0 < length rooms = omega (arith, at_u, full) in
    let low_w : edge.1 < length rooms = omega (arith, at_w, full) in
    let held : List Bool → ℤ = λ side. inside (edge ∷ ends) (pos n ∷ numbers) side in
    elim (find_side (length rooms) held (λ side. cost_of (less_at rooms edge.0) side)) [
      | inr fits ↦
          let s = share_edge edge ends numbers k at_u at_w low can n (less_at rooms edge.0) (length_less rooms edge.0 ∙ full)
          (record { roomy = λ side long. fits side (long ∙ length_less rooms edge.0) }) in
          share_first edge n ends numbers rooms s.shares low_u s.are
      | inl first ↦ elim (find_side (length rooms) held (λ side. cost_of (less_at rooms edge.1) side)) [
        | inr fits ↦
            let s = share_edge edge ends numbers k at_u at_w low can n (less_at rooms edge.1) (length_less rooms edge.1 ∙ full)
            (record { roomy = λ side long. fits side (long ∙ length_less rooms edge.1) }) in
            share_second edge n ends numbers rooms s.shares low_w s.are
        | inl second ↦
            absurd (never_both edge n ends numbers rooms first.side second.side low r first.full second.full
            (full_first edge n ends numbers rooms first.side low_u r first.full first.less) (full_second edge n ends numbers rooms second.side low_w r second.full second.less))
      ]
    ]

share_none_at_all : (rooms numbers : List ℤ) → IsRoomy [] numbers rooms → HasShares [] numbers rooms
share_none_at_all rooms numbers r = record {
  shares = [];
  are = record {
    full = refl;
    low = λ i low. absurd (omega (arith, low));
    high = λ i low. absurd (omega (arith, low));
    most = λ v.
        let a = alone rooms v in
        let h = r.roomy a.side a.full in
        let e = a.cost in
        omega (arith, ints, h, e);
  };
}

share_all : (ends : List (ℕ × ℕ)) (numbers : List ℤ) (k : ℕ) → length numbers ≡ length ends → ((i : ℕ) → i < length ends → pos 0 ≤ℤ at_arc numbers i) → HasEnds ends k →
    CanShare ends numbers k
share_all [] numbers k full low within = record { can = λ rooms long r. share_none_at_all rooms numbers r }
share_all (edge ∷ ends) [] k full low within = absurd (omega (arith, full))
share_all (edge ∷ ends) (negsuc n ∷ numbers) k full low within = absurd (let h = low 0 (omega arith) in omega (arith, ints, h))
share_all (edge ∷ ends) (pos n ∷ numbers) k full low within = record {
  can = λ rooms long r.
      share_edge edge ends numbers k (within.tails 0 (omega arith)) (within.heads 0 (omega arith)) (λ i l. low (suc i) (omega (arith, l)))
      (share_all ends numbers k (omega (arith, full)) (λ i l. low (suc i) (omega (arith, l))) (later_ends edge ends k within)) n rooms long r;
}

-- ---- the limit at each vertex but the root

abbrev rooms_but : ℕ → ℤ → ℕ → List ℤ
rooms_but zero limit root = []
rooms_but (suc n) limit zero = pos 0 ∷ replicate n limit
rooms_but (suc n) limit (suc root) = limit ∷ rooms_but n limit root

length_limits : (n : ℕ) (limit : ℤ) → length (replicate n limit) ≡ n
length_limits zero limit = refl
length_limits (suc n) limit = ap suc (length_limits n limit)

length_rooms : (n : ℕ) (limit : ℤ) (root : ℕ) → length (rooms_but n limit root) ≡ n
length_rooms zero limit root = refl
length_rooms (suc n) limit zero = ap suc (length_limits n limit)
length_rooms (suc n) limit (suc root) = ap suc (length_rooms n limit root)

room_of_root : (n : ℕ) (limit : ℤ) (root : ℕ) → at_arc (rooms_but n limit root) root ≡ pos 0
room_of_root zero limit root = refl
room_of_root (suc n) limit zero = refl
room_of_root (suc n) limit (suc root) = room_of_root n limit root

limit_most : (n : ℕ) (limit : ℤ) (v : ℕ) → pos 0 ≤ℤ limit → at_arc (replicate n limit) v ≤ℤ limit
limit_most zero limit v some = some
limit_most (suc n) limit zero some = omega (arith, ints)
limit_most (suc n) limit (suc v) some = limit_most n limit v some

room_most : (n : ℕ) (limit : ℤ) (root v : ℕ) → pos 0 ≤ℤ limit → at_arc (rooms_but n limit root) v ≤ℤ limit
room_most zero limit root v some = some
room_most (suc n) limit zero zero some = some
room_most (suc n) limit zero (suc v) some = limit_most n limit v some
room_most (suc n) limit (suc root) zero some = omega (arith, ints)
room_most (suc n) limit (suc root) (suc v) some = room_most n limit root v some

limit_step : (b : Bool) (limit c : ℤ) (k : ℕ) → c ≡ limit *ℤ pos k → cond b limit (pos 0) +ℤ c ≡ limit *ℤ pos (cond b 1 0 + k)
limit_step true limit c k e =
    let one : pos (1 + k) ≡ pos 1 +ℤ pos k = omega (arith, ints) in
    let f = ap (λ z. limit *ℤ z) one ∙ mul_add limit (pos 1) (pos k) in
    let once : limit *ℤ pos 1 ≡ limit = omega (arith, ints) in
    omega (arith, ints, e, f, once)
limit_step false limit c k e =
    let none : pos (0 + k) ≡ pos k = omega (arith, ints) in
    let f = ap (λ z. limit *ℤ z) none in
    omega (arith, ints, e, f)

cost_of_limits : (n : ℕ) (limit : ℤ) (side : List Bool) → length side ≡ n → cost_of (replicate n limit) side ≡ limit *ℤ pos (size side)
cost_of_limits zero limit [] full = omega (arith, ints)
cost_of_limits zero limit (b ∷ side) full = absurd (omega (arith, full))
cost_of_limits (suc n) limit [] full = absurd (omega (arith, full))
cost_of_limits (suc n) limit (b ∷ side) full = limit_step b limit (cost_of (replicate n limit) side) (size side) (cost_of_limits n limit side (omega (arith, full)))

-- the limit times the number of vertices, less what the root lacks
root_step : (b : Bool) (limit c : ℤ) (k : ℕ) → c ≡ limit *ℤ pos k → (cond b (pos 0) (pos 0) +ℤ c) +ℤ cond b limit (pos 0) ≡ limit *ℤ pos (cond b 1 0 + k)
root_step b limit c k e =
    let f = limit_step b limit c k e in
    let g = nothing b c in
    omega (arith, ints, f, g)

later_step : (b : Bool) (limit c d : ℤ) (k : ℕ) → c +ℤ d ≡ limit *ℤ pos k → (cond b limit (pos 0) +ℤ c) +ℤ d ≡ limit *ℤ pos (cond b 1 0 + k)
later_step b limit c d k e =
    let f = limit_step b limit (c +ℤ d) k e in
    omega (arith, ints, f)

cost_of_rooms : (n : ℕ) (limit : ℤ) (root : ℕ) (side : List Bool) → length side ≡ n →
    cost_of (rooms_but n limit root) side +ℤ cond (has side root) limit (pos 0) ≡ limit *ℤ pos (size side)
cost_of_rooms zero limit root [] full = omega (arith, ints)
cost_of_rooms zero limit root (b ∷ side) full = absurd (omega (arith, full))
cost_of_rooms (suc n) limit root [] full = absurd (omega (arith, full))
cost_of_rooms (suc n) limit zero (b ∷ side) full = root_step b limit (cost_of (replicate n limit) side) (size side) (cost_of_limits n limit side (omega (arith, full)))
cost_of_rooms (suc n) limit (suc root) (b ∷ side) full =
    later_step b limit (cost_of (rooms_but n limit root) side) (cond (has side root) limit (pos 0)) (size side) (cost_of_rooms n limit root side (omega (arith, full)))

cond_limit : (b : Bool) (limit : ℤ) → pos 0 ≤ℤ limit → cond b limit (pos 0) ≤ℤ limit
cond_limit true limit some = omega (arith, ints)
cond_limit false limit some = some

-- nobody is in a side without vertices
not_in : (side : List Bool) (v : ℕ) → size side ≡ 0 → has side v ≡ false
not_in side v none = elim (cases_Bool (has side v)) [
  | inl on ↦ absurd (let some = some_size side v on in omega (arith, some, none))
  | inr off ↦ off
]

none_inside : (ends : List (ℕ × ℕ)) (numbers : List ℤ) (side : List Bool) → size side ≡ 0 → inside ends numbers side ≡ pos 0
none_inside ends numbers side none = sum_where_none (lies_in side) ends numbers (λ edge. rw (not_in side edge.0 none) refl)

-- a sparse vector leaves enough room
roomy_of_sparse : (g : Digraph) (limit : ℤ) (vector : List ℤ) (root : ℕ) → pos 0 ≤ℤ limit → IsSparse g limit vector → IsRoomy g.ends vector (rooms_but g.nodes limit root)
roomy_of_sparse g limit vector root some s = record {
  roomy = λ side full.
      let long : length side ≡ g.nodes = full ∙ length_rooms g.nodes limit root in
      let cost = cost_of_rooms g.nodes limit root side long in
      elim (cases_eq (size side) 0) [
        | inl none ↦
            let held = none_inside g.ends vector side none in
            let off = ap (λ b. cond b limit (pos 0)) (not_in side root none) in
            let nobody' = ap (λ k. limit *ℤ pos k) none in
            let zero' : limit *ℤ pos 0 ≡ pos 0 = omega (arith, ints) in
            omega (arith, ints, cost, held, off, nobody', zero')
        | inr more ↦
            let held = s.sparse side long (omega (arith, more)) in
            let product = times_less limit (size side) in
            let most = cond_limit (has side root) limit some in
            omega (arith, ints, cost, held, product, most)
      ];
}

-- what is given is not below 0
given_low : (ends : List (ℕ × ℕ)) (numbers shares : List ℤ) (v : ℕ) → ((i : ℕ) → i < length ends → pos 0 ≤ℤ at_arc shares i) →
    ((i : ℕ) → i < length ends → at_arc shares i ≤ℤ at_arc numbers i) → pos 0 ≤ℤ given ends numbers shares v
given_low ends numbers shares v low high =
    let out = sum_where_most (λ arc. arc.0 == v) ends [] shares (λ i p. low i p.in_range) in
    let none = sum_where_empty (λ arc. arc.0 == v) ends in
    let into = sum_where_most (λ arc. arc.1 == v) ends shares numbers (λ i p. high i p.in_range) in
    omega (arith, ints, out, none, into)

pub sparse_has_splits : (g : Digraph) (limit : ℤ) (vector : List ℤ) (root : ℕ) → IsDigraph g → pos 0 ≤ℤ limit → length vector ≡ length g.ends →
    ((i : ℕ) → i < length g.ends → pos 0 ≤ℤ at_arc vector i) → IsSparse g limit vector → HasSplit g limit vector root
sparse_has_splits g limit vector root graph some full low s =
    let within : HasEnds g.ends g.nodes = record { tails = graph.tails; heads = graph.heads } in
    let h = (share_all g.ends vector g.nodes full low within).can (rooms_but g.nodes limit root) (length_rooms g.nodes limit root) (roomy_of_sparse g limit vector root some s) in
    let a = h.are in
    record {
      shares = h.shares;
      split = record {
        full = a.full;
        low = a.low;
        high = a.high;
        root_none =
            (let most = a.most root in
            let room = room_of_root g.nodes limit root in
            let least = given_low g.ends vector h.shares root a.low a.high in
            omega (arith, ints, most, room, least));
        most = λ v in_range. (let most = a.most v in let room = room_most g.nodes limit root v some in omega (arith, ints, most, room));
      };
    }
