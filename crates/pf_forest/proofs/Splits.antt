-- Splits, as shares of the tails: one for each root makes the vector sparse.
use Rattle.std.proofs.Common.{◌≡◌, ℕ, zero, suc, ◌<◌, List, [], ◌∷◌, length, refl, Bool, true, false, cond, arith, sym, ◌∙◌}
use Rattle.std.specs.Prelude.{ℤ, ◌+ℤ◌, ◌-ℤ◌, pos, ◌==◌}
use Rattle.std.proofs.lemmas.Int.{ints}
use Rattle.pf_model.specs.Cut.{sum_where, has, at_arc, size}
use Rattle.pf_model.specs.Digraph.{Digraph}
use Rattle.pf_model.proofs.Balance.{inside}
use Rattle.pf_model.proofs.Sums.{sum_where_most}
use Rattle.pf_forest.specs.Held.{IsHeld, held}
use Rattle.pf_forest.specs.Forest.{IsSparse, IsSplit, given}
use Rattle.pf_forest.proofs.Sets.{IsShared, root_bounds}

-- what is left of each number
abbrev pub rest_of : List ℤ → List ℤ → List ℤ
rest_of [] ys = []
rest_of (x ∷ xs) [] = []
rest_of (x ∷ xs) (y ∷ ys) = (x -ℤ y) ∷ rest_of xs ys

at_rest : (xs ys : List ℤ) → length xs ≡ length ys → (i : ℕ) → at_arc (rest_of xs ys) i ≡ at_arc xs i -ℤ at_arc ys i
at_rest [] [] full i = refl
at_rest [] (y ∷ ys) full i = absurd (omega (arith, full))
at_rest (x ∷ xs) [] full i = absurd (omega (arith, full))
at_rest (x ∷ xs) (y ∷ ys) full zero = refl
at_rest (x ∷ xs) (y ∷ ys) full (suc i) = at_rest xs ys (omega (arith, full)) i

rest_step : (here : Bool) (x y a b c : ℤ) → a ≡ b -ℤ c → cond here (x -ℤ y) (pos 0) +ℤ a ≡ (cond here x (pos 0) +ℤ b) -ℤ (cond here y (pos 0) +ℤ c)
rest_step true x y a b c h = omega (arith, ints, h)
rest_step false x y a b c h = omega (arith, ints, h)

-- a sum of differences is the difference of the sums
sum_rest : (test : ℕ × ℕ → Bool) (ends : List (ℕ × ℕ)) (xs ys : List ℤ) → length xs ≡ length ys →
    sum_where test ends (rest_of xs ys) ≡ sum_where test ends xs -ℤ sum_where test ends ys
sum_rest test [] xs ys full = refl
sum_rest test (edge ∷ ends) [] [] full = refl
sum_rest test (edge ∷ ends) [] (y ∷ ys) full = absurd (omega (arith, full))
sum_rest test (edge ∷ ends) (x ∷ xs) [] full = absurd (omega (arith, full))
sum_rest test (edge ∷ ends) (x ∷ xs) (y ∷ ys) full = rest_step (test edge) x y _ _ _ (sum_rest test ends xs ys (omega (arith, full)))

pub sum_equal : (test : ℕ × ℕ → Bool) (ends : List (ℕ × ℕ)) (xs ys : List ℤ) → ((i : ℕ) → i < length ends → at_arc xs i ≡ at_arc ys i) →
    sum_where test ends xs ≡ sum_where test ends ys
sum_equal test ends xs ys same =
    let a = sum_where_most test ends xs ys (λ i p. let e = same i p.in_range in omega (arith, ints, e)) in
    let b = sum_where_most test ends ys xs (λ i p. let e = same i p.in_range in omega (arith, ints, e)) in
    omega (arith, ints, a, b)

-- the heads' shares, and what is given to each vertex
given_is_held : (ends : List (ℕ × ℕ)) (vector shares : List ℤ) (v : ℕ) → length vector ≡ length shares → held ends vector (rest_of vector shares) v ≡ given ends vector shares v
given_is_held ends vector shares v full =
    let out = sum_rest (λ arc. arc.0 == v) ends vector shares full in
    let into = sum_rest (λ arc. arc.1 == v) ends vector shares full in
    omega (arith, ints, out, into)

shared_of_split : (g : Digraph) (limit : ℤ) (vector shares : List ℤ) (root : ℕ) → length vector ≡ length g.ends → IsSplit g limit vector shares root →
    IsShared g limit vector (rest_of vector shares) (λ v. limit -ℤ given g.ends vector shares v)
shared_of_split g limit vector shares root full s =
    let same = full ∙ sym s.full in
    record {
      low = λ i low. let e = at_rest vector shares same i in let h = s.high i low in omega (arith, ints, e, h);
      high = λ i low. let e = at_rest vector shares same i in let h = s.low i low in omega (arith, ints, e, h);
      room_low = λ v low. let h = s.most v low in omega (arith, ints, h);
      sums = λ v low. let e = given_is_held g.ends vector shares v same in omega (arith, ints, e);
    }

-- a vertex of a nonempty side
pub record HasSome (side : List Bool) : Type 0 where
  pub vertex : ℕ
  pub is : has side vertex ≡ true

pub find_some : (side : List Bool) → 0 < size side → HasSome side
find_some [] some = absurd (omega (arith, some))
find_some (true ∷ side) some = record { vertex = 0; is = refl }
find_some (false ∷ side) some = let f = find_some side (omega (arith, some)) in record { vertex = suc f.vertex; is = f.is }

pub splits_are_sparse : (g : Digraph) (limit : ℤ) (vector : List ℤ) (splits : ℕ → List ℤ) → length vector ≡ length g.ends →
    ((r : ℕ) → r < g.nodes → IsSplit g limit vector (splits r) r) → IsSparse g limit vector
splits_are_sparse g limit vector splits full each = record {
  sparse = λ side length_is some.
      let f = find_some side some in
      let low : f.vertex < g.nodes = omega (arith, inside side f.vertex f.is, length_is) in
      let s = each f.vertex low in
      let none = s.root_none in
      root_bounds g limit vector (rest_of vector (splits f.vertex)) (λ v. limit -ℤ given g.ends vector (splits f.vertex) v) side f.vertex
      (shared_of_split g limit vector (splits f.vertex) f.vertex full s) length_is f.is (omega (arith, ints, none));
}

-- once the root holds nothing, what the tails hold is a split
pub split_of_held : (g : Digraph) (limit : ℤ) (vector heads rooms shares : List ℤ) (root : ℕ) → IsHeld g limit vector heads rooms → root < g.nodes → at_arc rooms root ≡ limit →
    length shares ≡ length g.ends → ((i : ℕ) → i < length g.ends → at_arc shares i ≡ at_arc vector i -ℤ at_arc heads i) → IsSplit g limit vector shares root
split_of_held g limit vector heads rooms shares root h low bare full each =
    let same = h.vector_full ∙ sym h.heads_full in
    let rest : (i : ℕ) → i < length g.ends → at_arc shares i ≡ at_arc (rest_of vector heads) i = λ i in_range. each i in_range ∙ sym (at_rest vector heads same i) in
    let is : (v : ℕ) → given g.ends vector shares v ≡ held g.ends vector heads v = λ v.
    let a = sum_equal (λ arc. arc.0 == v) g.ends shares (rest_of vector heads) rest in
    let b = sum_equal (λ arc. arc.1 == v) g.ends shares (rest_of vector heads) rest in
    let c = sum_rest (λ arc. arc.0 == v) g.ends vector heads same in
    let d = sum_rest (λ arc. arc.1 == v) g.ends vector heads same in
    omega (arith, ints, a, b, c, d) in
    record {
      full = full;
      low = λ i in_range. let e = each i in_range in let x = h.high i in_range in omega (arith, ints, e, x);
      high = λ i in_range. let e = each i in_range in let x = h.low i in_range in omega (arith, ints, e, x);
      root_none = let e = is root in let x = h.sums root low in omega (arith, ints, e, x, bare);
      most = λ v in_range. let e = is v in let x = h.sums v in_range in let y = h.rooms_low v in_range in omega (arith, ints, e, x, y);
    }
