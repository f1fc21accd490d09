-- A node whose arcs out are emptied gives nothing from then on.
use Rattle.std.proofs.Common.{◌≡◌, ℕ, zero, suc, ◌+◌, ◌<◌, ◌≤◌, List, [], length, get_or, refl, Bool, true, false, cond, arith, ◌∙◌, inl, inr, below_more, subst, zero-add}
use Rattle.std.specs.Prelude.{ℤ, ◌≤ℤ◌, ◌<ℤ◌, pos, int_lt, ◌==◌}
use Rattle.std.proofs.lemmas.Int.{ints}
use Rattle.std.proofs.lemmas.Bool.{cases_eq}
use Rattle.pf_model.specs.Cut.{at_arc}
use Rattle.pf_model.specs.Flow.{sum_out}
use Rattle.pf_model.specs.Digraph.{Digraph, arcs_out}
use Rattle.pf_model.proofs.Sums.{sum_where_empty, sum_where_most}
use Rattle.pf_model.proofs.Numbers.{numbers_find}
use Rattle.pf_carry.specs.Trimming.{IsSummed, IsShortAt, IsLowered, giving, less_at}
use Rattle.pf_carry.proofs.Lowering.{less_here, less_most, sum_below}

-- ---- one node

-- the first of its arcs are empty
pub record IsEmptying (g : Digraph) (v : ℕ) (old flow sums : List ℤ) (items : List ℕ) (index : ℕ) : Type 0 where
  pub sums_are : IsSummed g flow sums
  pub most : (i : ℕ) → at_arc flow i ≤ℤ at_arc old i
  pub items_are : items ≡ arcs_out g v
  pub done : (k : ℕ) → k < index → at_arc flow (get_or items k 0) ≤ℤ pos 0

pub emptying_next : (g : Digraph) (v : ℕ) (old flow flow' sums sums' : List ℤ) (items : List ℕ) (index : ℕ) (a : ℤ) → IsEmptying g v old flow sums items index →
    get_or items index 0 < length g.ends → a ≡ at_arc flow (get_or items index 0) → flow' ≡ less_at flow (get_or items index 0) a → IsSummed g flow' sums' →
    IsEmptying g v old flow' sums' items (index + 1)
emptying_next g v old flow flow' sums sums' items index a m low is e s =
    let full = m.sums_are.bounded.full in
    let there : get_or items index 0 < length flow = omega (arith, full, low) in
    let least = m.sums_are.bounded.low (get_or items index 0) low in
    let some : pos 0 ≤ℤ a = omega (arith, ints, is, least) in
    record {
      sums_are = s;
      most = λ i. let x = less_most flow flow' (get_or items index 0) i a e there some in let y = m.most i in omega (arith, ints, x, y);
      items_are = m.items_are;
      done = below_more (λ k. at_arc flow' (get_or items k 0) ≤ℤ pos 0) index
          (λ k h. let x = less_most flow flow' (get_or items index 0) (get_or items k 0) a e there some in let y = m.done k h in omega (arith, ints, x, y))
          (let here = less_here flow flow' (get_or items index 0) a e there in omega (arith, ints, here, is));
    }

emptied : (g : Digraph) (v : ℕ) (flow : List ℤ) → ((k : ℕ) → k < length (arcs_out g v) → at_arc flow (get_or (arcs_out g v) k 0) ≤ℤ pos 0) → sum_out g.ends flow v ≤ℤ pos 0
emptied g v flow done =
    let most = sum_where_most (λ arc. arc.0 == v) g.ends flow [] (λ i p.
    let at = numbers_find (λ arc. arc.0 == v) 0 g.ends i p.in_range p.passes in
    let e : get_or (arcs_out g v) at.place 0 ≡ i = at.is ∙ zero-add i in
    subst (λ j. at_arc flow j ≤ℤ pos 0) e (done at.place at.in_range)) in
    let none = sum_where_empty (λ arc. arc.0 == v) g.ends in
    omega (arith, ints, most, none)

pub emptying_ends : (g : Digraph) (v : ℕ) (old flow sums : List ℤ) (items : List ℕ) (index : ℕ) → IsEmptying g v old flow sums items index → length items ≤ index →
    sum_out g.ends flow v ≤ℤ pos 0
emptying_ends g v old flow sums items index m done =
    let P : List ℕ → Type 0 = λ l. (k : ℕ) → k < length l → at_arc flow (get_or l k 0) ≤ℤ pos 0 in
    emptied g v flow (subst P m.items_are (λ k h. m.done k (omega (arith, h, done))))

-- ---- how many nodes give something

count_most : (p q : ℤ) (b c : Bool) → int_lt (pos 0) p ≡ b → int_lt (pos 0) q ≡ c → q ≤ℤ p → cond c 1 0 ≤ cond b 1 0
count_most p q true true e f h = omega arith
count_most p q true false e f h = omega arith
count_most p q false true e f h = absurd (omega (arith, ints, e, f, h))
count_most p q false false e f h = omega arith

count_fewer : (p q : ℤ) (b c : Bool) → int_lt (pos 0) p ≡ b → int_lt (pos 0) q ≡ c → pos 0 <ℤ p → q ≤ℤ pos 0 → cond c 1 0 < cond b 1 0
count_fewer p q true true e f h k = absurd (omega (arith, ints, f, k))
count_fewer p q true false e f h k = omega arith
count_fewer p q false c e f h k = absurd (omega (arith, ints, e, h))

giving_most : (g : Digraph) (a b : List ℤ) → ((u : ℕ) → sum_out g.ends b u ≤ℤ sum_out g.ends a u) → (k : ℕ) → giving g b k ≤ giving g a k
giving_most g a b h zero = omega arith
giving_most g a b h (suc k) =
    let rest = giving_most g a b h k in
    let here = count_most (sum_out g.ends a k) (sum_out g.ends b k) _ _ refl refl (h k) in
    omega (arith, rest, here)

giving_fewer : (g : Digraph) (a b : List ℤ) (v : ℕ) → ((u : ℕ) → sum_out g.ends b u ≤ℤ sum_out g.ends a u) → pos 0 <ℤ sum_out g.ends a v → sum_out g.ends b v ≤ℤ pos 0 →
    (k : ℕ) → v < k → giving g b k < giving g a k
giving_fewer g a b v h some none zero low = absurd (omega arith)
giving_fewer g a b v h some none (suc k) low = elim (cases_eq v k) [
  | inl same ↦
      let rest = giving_most g a b h k in
      let p : pos 0 <ℤ sum_out g.ends a k = subst (λ n. pos 0 <ℤ sum_out g.ends a n) same some in
      let q : sum_out g.ends b k ≤ℤ pos 0 = subst (λ n. sum_out g.ends b n ≤ℤ pos 0) same none in
      let here = count_fewer (sum_out g.ends a k) (sum_out g.ends b k) _ _ refl refl p q in
      omega (arith, rest, here)
  | inr other ↦
      let rest = giving_fewer g a b v h some none k (omega (arith, other, low)) in
      let here = count_most (sum_out g.ends a k) (sum_out g.ends b k) _ _ refl refl (h k) in
      omega (arith, rest, here)
]

-- ---- turn after turn

pub record IsTrimming (g : Digraph) (s t : ℕ) (old flow sums : List ℤ) (v : ℕ) : Type 0 where
  pub sums_are : IsSummed g flow sums
  pub lowered : IsLowered g s t old flow
  pub short : v < g.nodes → IsShortAt s t sums v
  pub none : g.nodes ≤ v → (u : ℕ) → u < g.nodes → IsShortAt s t sums u → ⊥

some_out : (g : Digraph) (flow sums : List ℤ) (s t v : ℕ) → IsSummed g flow sums → v < g.nodes → IsShortAt s t sums v → pos 0 <ℤ sum_out g.ends flow v
some_out g flow sums s t v m low h =
    let into = (sum_below (λ arc. arc.1 == v) g.ends flow m.bounded.low m.bounded.high).low in
    let is = m.is v low in
    let more = h.more in
    omega (arith, ints, into, is, more)

pub fewer_give : (g : Digraph) (s t : ℕ) (old flow flow' sums : List ℤ) (v : ℕ) → IsTrimming g s t old flow sums v → v < g.nodes →
    ((i : ℕ) → at_arc flow' i ≤ℤ at_arc flow i) → sum_out g.ends flow' v ≤ℤ pos 0 → giving g flow' g.nodes < giving g flow g.nodes
fewer_give g s t old flow flow' sums v m low most none =
    giving_fewer g flow flow' v (λ u. sum_where_most (λ arc. arc.0 == u) g.ends flow' flow (λ i p. most i))
    (some_out g flow sums s t v m.sums_are low (m.short low)) none g.nodes low
