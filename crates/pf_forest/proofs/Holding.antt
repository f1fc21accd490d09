-- What a vertex holds, and how it changes where charge is moved.
use Rattle.std.proofs.Common.{◌≡◌, ◌≢◌, ℕ, ◌<◌, List, [], length, set, refl, Bool, true, false, cond, eqb, arith, ap, sym, ◌∙◌, inl, inr}
use Rattle.std.specs.Prelude.{ℤ, ◌+ℤ◌, ◌-ℤ◌, ◌≤ℤ◌, pos, ◌==◌}
use Rattle.std.proofs.lemmas.Int.{ints}
use Rattle.std.proofs.lemmas.Bool.{cases_eq, eq-eqb, ne_eqb}
use Rattle.std.proofs.lemmas.List.{length-set, get_or-set_same, get_or-set_other}
use Rattle.pf_model.specs.Cut.{at_arc, sum_where}
use Rattle.pf_model.specs.Flow.{flow_value}
use Rattle.pf_model.specs.Digraph.{Digraph, IsDigraph}
use Rattle.pf_model.proofs.Sums.{sum_where_most, sum_where_empty}
use Rattle.pf_model.proofs.Augment.{sum_where_set}
use Rattle.pf_forest.specs.Held.{IsHeld, held, tail_of, head_of}

pub at_set_same : (xs : List ℤ) (i : ℕ) (y : ℤ) → i < length xs → at_arc (set xs i y) i ≡ y
at_set_same xs i y low = rw get_or-set_same refl

pub at_set_other : (xs : List ℤ) (i k : ℕ) (y : ℤ) → k ≢ i → at_arc (set xs i y) k ≡ at_arc xs k
at_set_other xs i k y ne = rw get_or-set_other refl

-- a fact on each number of a list stays where one number that meets it is written
pub each_set : (P : ℕ → ℤ → Type 0) (xs : List ℤ) (i : ℕ) (y : ℤ) (n : ℕ) → i < length xs → ((k : ℕ) → k < n → P k (at_arc xs k)) → P i y →
    (k : ℕ) → k < n → P k (at_arc (set xs i y) k)
each_set P xs i y n low h here k in_range = elim (cases_eq k i) [
  | inl same ↦ rw (same, at_set_same xs i y low) here
  | inr other ↦ rw (at_set_other xs i k y other) (h k in_range)
]

pub true_cond : (here : Bool) (x : ℤ) → here ≡ true → cond here x (pos 0) ≡ x
true_cond true x e = refl
true_cond false x e = cc

-- sums of numbers that are not below 0
pub sum_low : (test : ℕ × ℕ → Bool) (ends : List (ℕ × ℕ)) (xs : List ℤ) → ((i : ℕ) → i < length ends → pos 0 ≤ℤ at_arc xs i) → pos 0 ≤ℤ sum_where test ends xs
sum_low test ends xs low =
    let most = sum_where_most test ends [] xs (λ i p. low i p.in_range) in
    let none = sum_where_empty test ends in
    omega (arith, ints, most, none)

-- the tail's part of one charge is at most all that it holds
pub tail_part : (g : Digraph) (limit : ℤ) (vector heads rooms : List ℤ) (i : ℕ) → IsHeld g limit vector heads rooms → i < length g.ends →
    (at_arc vector i -ℤ at_arc heads i) ≤ℤ held g.ends vector heads (tail_of g.ends i)
tail_part g limit vector heads rooms i h low =
    let there : i < length vector = omega (arith, low, h.vector_full) in
    let v : ℕ = tail_of g.ends i in
    let less = sum_where_set (λ arc. arc.0 == v) g.ends vector i (at_arc heads i) h.vector_full low in
    let here = true_cond (tail_of g.ends i == v) (at_arc heads i -ℤ at_arc vector i) (eq-eqb v v refl) in
    let most = sum_where_most (λ arc. arc.0 == v) g.ends heads (set vector i (at_arc heads i))
    (λ k p. each_set (λ k x. at_arc heads k ≤ℤ x) vector i (at_arc heads i) (length g.ends) there h.high (omega (arith, ints)) k p.in_range) in
    let into = sum_low (λ arc. arc.1 == v) g.ends heads h.low in
    omega (arith, ints, less, here, most, into)

pub head_part : (g : Digraph) (limit : ℤ) (vector heads rooms : List ℤ) (i : ℕ) → IsHeld g limit vector heads rooms → i < length g.ends →
    at_arc heads i ≤ℤ held g.ends vector heads (head_of g.ends i)
head_part g limit vector heads rooms i h low =
    let there : i < length heads = omega (arith, low, h.heads_full) in
    let v : ℕ = head_of g.ends i in
    let less = sum_where_set (λ arc. arc.1 == v) g.ends heads i (pos 0) h.heads_full low in
    let here = true_cond (head_of g.ends i == v) (pos 0 -ℤ at_arc heads i) (eq-eqb v v refl) in
    let most = sum_low (λ arc. arc.1 == v) g.ends (set heads i (pos 0))
    (each_set (λ k x. pos 0 ≤ℤ x) heads i (pos 0) (length g.ends) there h.low (omega (arith, ints))) in
    let out = sum_where_most (λ arc. arc.0 == v) g.ends heads vector (λ k p. h.high k p.in_range) in
    omega (arith, ints, less, here, most, out)

pub held_low : (g : Digraph) (limit : ℤ) (vector heads rooms : List ℤ) (v : ℕ) → IsHeld g limit vector heads rooms → pos 0 ≤ℤ held g.ends vector heads v
held_low g limit vector heads rooms v h =
    let out = sum_where_most (λ arc. arc.0 == v) g.ends heads vector (λ k p. h.high k p.in_range) in
    let into = sum_low (λ arc. arc.1 == v) g.ends heads h.low in
    omega (arith, ints, out, into)

pub rooms_high : (g : Digraph) (limit : ℤ) (vector heads rooms : List ℤ) (v : ℕ) → IsHeld g limit vector heads rooms → v < g.nodes → at_arc rooms v ≤ℤ limit
rooms_high g limit vector heads rooms v h low =
    let most = held_low g limit vector heads rooms v h in
    let sum = h.sums v low in
    omega (arith, ints, most, sum)

-- a vertex that holds a part of a charge has not all of its room
pub holder_at_tail : (g : Digraph) (limit : ℤ) (vector heads rooms : List ℤ) (i : ℕ) → IsHeld g limit vector heads rooms → IsDigraph g → i < length g.ends →
    (at_arc vector i -ℤ at_arc heads i) ≤ℤ (limit -ℤ at_arc rooms (tail_of g.ends i))
holder_at_tail g limit vector heads rooms i h graph low =
    let part = tail_part g limit vector heads rooms i h low in
    let sum = h.sums (tail_of g.ends i) (graph.tails i low) in
    omega (arith, ints, part, sum)

pub holder_at_head : (g : Digraph) (limit : ℤ) (vector heads rooms : List ℤ) (i : ℕ) → IsHeld g limit vector heads rooms → IsDigraph g → i < length g.ends →
    at_arc heads i ≤ℤ (limit -ℤ at_arc rooms (head_of g.ends i))
holder_at_head g limit vector heads rooms i h graph low =
    let part = head_part g limit vector heads rooms i h low in
    let sum = h.sums (head_of g.ends i) (graph.heads i low) in
    omega (arith, ints, part, sum)

-- one number of heads is written
pub value_set : (ends : List (ℕ × ℕ)) (heads : List ℤ) (i : ℕ) (y : ℤ) (v : ℕ) → length heads ≡ length ends → i < length ends →
    flow_value ends (set heads i y) v
    ≡ (flow_value ends heads v +ℤ cond (eqb (tail_of ends i) v) (y -ℤ at_arc heads i) (pos 0)) -ℤ cond (eqb (head_of ends i) v) (y -ℤ at_arc heads i) (pos 0)
value_set ends heads i y v full low =
    let out = sum_where_set (λ arc. arc.0 == v) ends heads i y full low in
    let into = sum_where_set (λ arc. arc.1 == v) ends heads i y full low in
    omega (arith, ints, out, into)

pub cond_same : (here : Bool) (x y : ℤ) → x ≡ y → cond here x (pos 0) ≡ cond here y (pos 0)
cond_same here x y e = ap (λ z. cond here z (pos 0)) e

cond_negated : (here : Bool) (x y : ℤ) → x ≡ pos 0 -ℤ y → cond here x (pos 0) ≡ pos 0 -ℤ cond here y (pos 0)
cond_negated true x y e = e
cond_negated false x y e = refl

-- room is taken from b and given to a
abbrev pub shifted : List ℤ → ℕ → ℕ → ℤ → List ℤ
shifted rooms b a amount = set (set rooms b (at_arc rooms b -ℤ amount)) a (at_arc rooms a +ℤ amount)

pub shifted_at : (rooms : List ℤ) (b a : ℕ) (amount : ℤ) (x : ℕ) → b ≢ a → b < length rooms → a < length rooms →
    at_arc (shifted rooms b a amount) x ≡ (at_arc rooms x +ℤ cond (eqb a x) amount (pos 0)) -ℤ cond (eqb b x) amount (pos 0)
shifted_at rooms b a amount x apart low_b low_a =
    let there : a < length (set rooms b (at_arc rooms b -ℤ amount)) = omega (arith, low_a, length-set rooms b (at_arc rooms b -ℤ amount)) in
    elim (cases_eq x a) [
      | inl here ↦
          let e : at_arc (shifted rooms b a amount) x ≡ at_arc rooms a +ℤ amount = rw here (at_set_same _ a _ there) in
          let f = true_cond (eqb a x) amount (eq-eqb a x (sym here)) in
          let off : eqb b x ≡ false = ne_eqb b x (λ same. apart (same ∙ here)) in
          let k = ap (λ c. cond c amount (pos 0)) off in
          let l = ap (at_arc rooms) here in
          omega (arith, ints, e, f, k, l)
      | inr other ↦
          let e = at_set_other (set rooms b (at_arc rooms b -ℤ amount)) a x (at_arc rooms a +ℤ amount) other in
          let off : eqb a x ≡ false = ne_eqb a x (λ same. other (sym same)) in
          let k = ap (λ c. cond c amount (pos 0)) off in
          elim (cases_eq x b) [
            | inl here ↦
                let f : at_arc (set rooms b (at_arc rooms b -ℤ amount)) x ≡ at_arc rooms b -ℤ amount = rw here (at_set_same rooms b _ low_b) in
                let m = true_cond (eqb b x) amount (eq-eqb b x (sym here)) in
                let l = ap (at_arc rooms) here in
                omega (arith, ints, e, f, k, l, m)
            | inr neither ↦
                let f = at_set_other rooms b x (at_arc rooms b -ℤ amount) neither in
                let off' : eqb b x ≡ false = ne_eqb b x (λ same. neither (sym same)) in
                let m = ap (λ c. cond c amount (pos 0)) off' in
                omega (arith, ints, e, f, k, m)
          ]
    ]

pub shifted_low : (rooms : List ℤ) (b a : ℕ) (amount : ℤ) (n : ℕ) → length rooms ≡ n → b < n → a < n → pos 0 ≤ℤ amount → amount ≤ℤ at_arc rooms b →
    ((v : ℕ) → v < n → pos 0 ≤ℤ at_arc rooms v) → (v : ℕ) → v < n → pos 0 ≤ℤ at_arc (shifted rooms b a amount) v
shifted_low rooms b a amount n full low_b low_a least fits h =
    let there : b < length rooms = omega (arith, low_b, full) in
    let there' : a < length (set rooms b (at_arc rooms b -ℤ amount)) = omega (arith, low_a, full, length-set rooms b (at_arc rooms b -ℤ amount)) in
    let more = h a low_a in
    each_set (λ v x. pos 0 ≤ℤ x) (set rooms b (at_arc rooms b -ℤ amount)) a (at_arc rooms a +ℤ amount) n there'
    (each_set (λ v x. pos 0 ≤ℤ x) rooms b (at_arc rooms b -ℤ amount) n there h (omega (arith, ints, fits)))
    (omega (arith, ints, more, least))

-- what is moved over edge i from a to b
pub record IsMove (g : Digraph) (rooms : List ℤ) (a b : ℕ) (amount : ℤ) : Type 0 where
  pub from : a < g.nodes
  pub to : b < g.nodes
  pub apart : b ≢ a
  pub low : pos 0 ≤ℤ amount
  pub fits : amount ≤ℤ at_arc rooms b

pub held_from_tail : (g : Digraph) (limit : ℤ) (vector heads rooms : List ℤ) (a b i : ℕ) (amount : ℤ) → IsHeld g limit vector heads rooms → IsMove g rooms a b amount →
    i < length g.ends → tail_of g.ends i ≡ a → head_of g.ends i ≡ b → amount ≤ℤ (at_arc vector i -ℤ at_arc heads i) →
    IsHeld g limit vector (set heads i (at_arc heads i +ℤ amount)) (shifted rooms b a amount)
held_from_tail g limit vector heads rooms a b i amount h m low from to part =
    let there : i < length heads = omega (arith, low, h.heads_full) in
    let least = h.low i low in
    let positive = m.low in
    record {
      vector_full = h.vector_full;
      heads_full = length-set heads i (at_arc heads i +ℤ amount) ∙ h.heads_full;
      rooms_full = length-set (set rooms b (at_arc rooms b -ℤ amount)) a (at_arc rooms a +ℤ amount) ∙ length-set rooms b (at_arc rooms b -ℤ amount) ∙ h.rooms_full;
      low = each_set (λ k x. pos 0 ≤ℤ x) heads i (at_arc heads i +ℤ amount) (length g.ends) there h.low (omega (arith, ints, least, positive));
      high = each_set (λ k x. x ≤ℤ at_arc vector k) heads i (at_arc heads i +ℤ amount) (length g.ends) there h.high (omega (arith, ints, part));
      rooms_low = shifted_low rooms b a amount g.nodes h.rooms_full m.to m.from m.low m.fits h.rooms_low;
      sums = λ v in_range.
          let value = value_set g.ends heads i (at_arc heads i +ℤ amount) v h.heads_full low in
          let change : (at_arc heads i +ℤ amount) -ℤ at_arc heads i ≡ amount = omega (arith, ints) in
          let out = cond_same (eqb (tail_of g.ends i) v) _ amount change in
          let into = cond_same (eqb (head_of g.ends i) v) _ amount change in
          let out' = ap (λ z. cond (eqb z v) amount (pos 0)) from in
          let into' = ap (λ z. cond (eqb z v) amount (pos 0)) to in
          let room = shifted_at rooms b a amount v m.apart (omega (arith, m.to, h.rooms_full)) (omega (arith, m.from, h.rooms_full)) in
          let before = h.sums v in_range in
          omega (arith, ints, value, out, into, out', into', room, before);
      small = h.small;
    }

pub held_from_head : (g : Digraph) (limit : ℤ) (vector heads rooms : List ℤ) (a b i : ℕ) (amount : ℤ) → IsHeld g limit vector heads rooms → IsMove g rooms a b amount →
    i < length g.ends → head_of g.ends i ≡ a → tail_of g.ends i ≡ b → amount ≤ℤ at_arc heads i →
    IsHeld g limit vector (set heads i (at_arc heads i -ℤ amount)) (shifted rooms b a amount)
held_from_head g limit vector heads rooms a b i amount h m low from to part =
    let there : i < length heads = omega (arith, low, h.heads_full) in
    let most = h.high i low in
    let positive = m.low in
    record {
      vector_full = h.vector_full;
      heads_full = length-set heads i (at_arc heads i -ℤ amount) ∙ h.heads_full;
      rooms_full = length-set (set rooms b (at_arc rooms b -ℤ amount)) a (at_arc rooms a +ℤ amount) ∙ length-set rooms b (at_arc rooms b -ℤ amount) ∙ h.rooms_full;
      low = each_set (λ k x. pos 0 ≤ℤ x) heads i (at_arc heads i -ℤ amount) (length g.ends) there h.low (omega (arith, ints, part));
      high = each_set (λ k x. x ≤ℤ at_arc vector k) heads i (at_arc heads i -ℤ amount) (length g.ends) there h.high (omega (arith, ints, most, positive));
      rooms_low = shifted_low rooms b a amount g.nodes h.rooms_full m.to m.from m.low m.fits h.rooms_low;
      sums = λ v in_range.
          let value = value_set g.ends heads i (at_arc heads i -ℤ amount) v h.heads_full low in
          let change : (at_arc heads i -ℤ amount) -ℤ at_arc heads i ≡ pos 0 -ℤ amount = omega (arith, ints) in
          let out = cond_negated (eqb (tail_of g.ends i) v) _ amount change in
          let into = cond_negated (eqb (head_of g.ends i) v) _ amount change in
          let out' = ap (λ z. cond (eqb z v) amount (pos 0)) to in
          let into' = ap (λ z. cond (eqb z v) amount (pos 0)) from in
          let room = shifted_at rooms b a amount v m.apart (omega (arith, m.to, h.rooms_full)) (omega (arith, m.from, h.rooms_full)) in
          let before = h.sums v in_range in
          omega (arith, ints, value, out, into, out', into', room, before);
      small = h.small;
    }
