-- Over a list of steps there are few relabellings.
use Rattle.std.proofs.Common.{◌≡◌, ◌≢◌, ℕ, zero, suc, ◌+◌, ◌-◌, ◌*◌, ◌<◌, ◌≤◌, List, [], ◌∷◌, length, get_or, refl, cond, eqb, arith, ap, ◌∙◌, inl, inr}
use Rattle.std.proofs.lemmas.Bool.{cases_lt}
use Rattle.std.proofs.lemmas.Bool.Decides.{nat_tests}
use Rattle.pf_preflow.specs.Labels.{changed, rises}
use Rattle.pf_preflow.proofs.Counting.{counted_none}
use Rattle.pf_sweep.specs.Swept.{Swept, IsSettled, IsRaised}
use Rattle.pf_sweep.specs.Laws.{Counted, AreSteps, last_of, FewRelabellings}

one_changed : (x y z m n : ℕ) → cond (eqb x z) 0 1 + (m + n) ≤ (cond (eqb x y) 0 1 + m) + (cond (eqb y z) 0 1 + n)
one_changed x y z m n = grind (arith, nat_tests)

changed_sum : (a b c : List ℕ) → length b ≡ length a → length c ≡ length b → changed a c ≤ changed a b + changed b c
changed_sum [] b c e f = omega arith
changed_sum (x ∷ a) [] c e f = absurd (omega (arith, e))
changed_sum (x ∷ a) (y ∷ b) [] e f = absurd (omega (arith, f))
changed_sum (x ∷ a) (y ∷ b) (z ∷ c) e f =
    let rest = changed_sum a b c (omega (arith, e)) (omega (arith, f)) in
    let here = one_changed x y z (changed a b) (changed b c) in
    omega (arith, rest, here)

rises_sum : (a b c : List ℕ) → length b ≡ length a → length c ≡ length b → ((v : ℕ) → get_or a v 0 ≤ get_or b v 0) → ((v : ℕ) → get_or b v 0 ≤ get_or c v 0) →
    rises a b + rises b c ≤ rises a c
rises_sum [] [] c e f h k = omega arith
rises_sum [] (y ∷ b) c e f h k = absurd (omega (arith, e))
rises_sum (x ∷ a) [] c e f h k = absurd (omega (arith, e))
rises_sum (x ∷ a) (y ∷ b) [] e f h k = absurd (omega (arith, f))
rises_sum (x ∷ a) (y ∷ b) (z ∷ c) e f h k =
    let rest = rises_sum a b c (omega (arith, e)) (omega (arith, f)) (λ v. h (suc v)) (λ v. k (suc v)) in
    let first : x ≤ y = h 0 in
    let second : y ≤ z = k 0 in
    omega (arith, rest, first, second)

-- the rises are at most so many times a top
rises_top : (a b : List ℕ) (top : ℕ) → ((v : ℕ) → get_or b v 0 ≤ top) → rises a b ≤ length a * top
rises_top [] b top h = omega arith
rises_top (x ∷ a) [] top h = omega arith
rises_top (x ∷ a) (y ∷ b) top h =
    let rest = rises_top a b top (λ v. h (suc v)) in
    let here : y ≤ top = h 0 in
    let more : suc (length a) * top ≡ length a * top + top = grind arith in
    omega (arith, rest, here, more)

-- one label stays
rises_one : (a b : List ℕ) (top s : ℕ) → ((v : ℕ) → get_or b v 0 ≤ top) → s < length a → get_or b s 0 ≤ get_or a s 0 → rises a b + top ≤ length a * top
rises_one [] b top s h low e = absurd (omega (arith, low))
rises_one (x ∷ a) [] top s h low e = let more : suc (length a) * top ≡ length a * top + top = grind arith in omega (arith, more)
rises_one (x ∷ a) (y ∷ b) top zero h low e =
    let rest = rises_top a b top (λ v. h (suc v)) in
    let same : y ≤ x = e in
    let more : suc (length a) * top ≡ length a * top + top = grind arith in
    omega (arith, rest, same, more)
rises_one (x ∷ a) (y ∷ b) top (suc s) h low e =
    let rest = rises_one a b top s (λ v. h (suc v)) (omega (arith, low)) e in
    let here : y ≤ top = h 0 in
    let more : suc (length a) * top ≡ length a * top + top = grind arith in
    omega (arith, rest, here, more)

-- two labels stay
rises_two : (a b : List ℕ) (top s t : ℕ) → ((v : ℕ) → get_or b v 0 ≤ top) → s < length a → t < length a → s ≢ t → get_or b s 0 ≤ get_or a s 0 → get_or b t 0 ≤ get_or a t 0 →
    rises a b + (top + top) ≤ length a * top
rises_two [] b top s t h low low' apart e f = absurd (omega (arith, low))
rises_two (x ∷ a) [] top zero zero h low low' apart e f = absurd (apart refl)
rises_two (x ∷ a) [] top zero (suc t) h low low' apart e f =
    let rest = rises_one a [] top t (λ v. omega arith) (omega (arith, low')) f in
    let more : suc (length a) * top ≡ length a * top + top = grind arith in
    omega (arith, rest, more)
rises_two (x ∷ a) [] top (suc s) t h low low' apart e f =
    let rest = rises_one a [] top s (λ v. omega arith) (omega (arith, low)) e in
    let more : suc (length a) * top ≡ length a * top + top = grind arith in
    omega (arith, rest, more)
rises_two (x ∷ a) (y ∷ b) top zero zero h low low' apart e f = absurd (apart refl)
rises_two (x ∷ a) (y ∷ b) top zero (suc t) h low low' apart e f =
    let rest = rises_one a b top t (λ v. h (suc v)) (omega (arith, low')) f in
    let same : y ≤ x = e in
    let more : suc (length a) * top ≡ length a * top + top = grind arith in
    omega (arith, rest, same, more)
rises_two (x ∷ a) (y ∷ b) top (suc s) zero h low low' apart e f =
    let rest = rises_one a b top s (λ v. h (suc v)) (omega (arith, low)) e in
    let same : y ≤ x = f in
    let more : suc (length a) * top ≡ length a * top + top = grind arith in
    omega (arith, rest, same, more)
rises_two (x ∷ a) (y ∷ b) top (suc s) (suc t) h low low' apart e f =
    let rest = rises_two a b top s t (λ v. h (suc v)) (omega (arith, low)) (omega (arith, low')) (λ k. apart (ap suc k)) e f in
    let here : y ≤ top = h 0 in
    let more : suc (length a) * top ≡ length a * top + top = grind arith in
    omega (arith, rest, here, more)

few : (n r : ℕ) → 2 ≤ n → r + ((2 * n - 1) + (2 * n - 1)) ≤ n * (2 * n - 1) → r ≤ (n - 2) * (2 * n - 1)
few n r two h =
    let m : ℕ = n - 2 in
    let top : ℕ = 2 * n - 1 in
    let e : n ≡ m + 2 = omega (arith, two) in
    let split : (m + 2) * top ≡ m * top + (top + top) = grind arith in
    let same = ap (λ k. k * top) e in
    omega (arith, h, split, same)

-- a step, and then what follows from there
raised_then : (a b c : Swept) (x y z : ℕ) → length b.labels ≡ length a.labels → length c.labels ≡ length b.labels → IsRaised a b x y → IsRaised b c y z → IsRaised a c x z
raised_then a b c x y z e f h k =
    let one = h.at_least in
    let two = k.at_least in
    let most = h.at_most in
    let most' = k.at_most in
    let sum = changed_sum a.labels b.labels c.labels e f in
    let sums = rises_sum a.labels b.labels c.labels e f h.none_fell k.none_fell in
    record {
      none_fell = λ v. let p = h.none_fell v in let q = k.none_fell v in omega (arith, p, q);
      at_least = omega (arith, one, two, sum);
      at_most = omega (arith, most, most', sums);
    }

raised_none : (a : Swept) (x : ℕ) → IsRaised a a x x
raised_none a x =
    let c = counted_none a.labels x in
    record { none_fell = c.none_fell; at_least = c.at_least; at_most = c.at_most }

-- what stays over any list of steps
record Stays (a b : Swept) : Type 0 where
  settled : IsSettled b
  nodes : b.net.nodes ≡ a.net.nodes
  source : b.net.source ≡ a.net.source
  sink : b.net.sink ≡ a.net.sink

stays_then : (a b c : Swept) → b.net ≡ a.net → Stays b c → Stays a c
stays_then a b c e s = record {
  settled = s.settled;
  nodes = s.nodes ∙ ap (λ n. n.nodes) e;
  source = s.source ∙ ap (λ n. n.source) e;
  sink = s.sink ∙ ap (λ n. n.sink) e;
}

chain : (first : Counted) (later : List Counted) → IsSettled first.sweep → AreSteps first later →
    IsRaised first.sweep (last_of first later).sweep first.steps (last_of first later).steps × Stays first.sweep (last_of first later).sweep
chain first [] settled steps = (raised_none first.sweep first.steps, record { settled = settled; nodes = refl; source = refl; sink = refl })
chain first (next ∷ later) settled steps =
    let one = steps.0 in
    let rest = chain next later one.settled steps.1 in
    let nodes = ap (λ n. n.nodes) one.net_is in
    let here = settled.valid.full in
    let there = one.settled.valid.full in
    let last = rest.1.settled.valid.full in
    let same = rest.1.nodes in (
      raised_then first.sweep next.sweep (last_of next later).sweep first.steps next.steps (last_of next later).steps (omega (arith, nodes, here, there)) (omega (arith, there, last, same)) one.raised rest.0,
      stays_then first.sweep next.sweep (last_of next later).sweep one.net_is rest.1,
    )

bound : (a b : Swept) (x y : ℕ) → IsSettled a → Stays a b → IsRaised a b x y → 2 ≤ a.net.nodes → a.net.source < a.net.nodes → a.net.sink < a.net.nodes → a.net.source ≢ a.net.sink →
    y ≤ x + (a.net.nodes - 2) * (2 * a.net.nodes - 1)
bound a b x y settled s r two low low' apart =
    let n : ℕ = a.net.nodes in
    let full = settled.valid.full in
    let nodes = s.nodes in
    let top : (v : ℕ) → get_or b.labels v 0 ≤ 2 * n - 1 = λ v. let h = s.settled.low v in omega (arith, h, nodes) in
    let at_s = ap (λ k. get_or b.labels k 0) s.source in
    let at_t = ap (λ k. get_or b.labels k 0) s.sink in
    let old_s = settled.valid.at_source in
    let old_t = settled.valid.at_sink in
    let new_s = s.settled.valid.at_source in
    let new_t = s.settled.valid.at_sink in
    let most = rises_two a.labels b.labels (2 * n - 1) a.net.source a.net.sink top (omega (arith, full, low)) (omega (arith, full, low')) apart
    (omega (arith, at_s, old_s, new_s, nodes)) (omega (arith, at_t, old_t, new_t)) in
    let long = ap (λ k. k * (2 * n - 1)) full in
    let last = few n (rises a.labels b.labels) two (omega (arith, most, long)) in
    let count = r.at_most in
    omega (arith, count, last)

two_of : (s t n : ℕ) → s < n → t < n → s ≢ t → 2 ≤ n
two_of s t n low low' apart = elim (cases_lt 1 n) [
  | inl more ↦ omega (arith, more)
  | inr most ↦ absurd (apart (omega (arith, low, low', most)))
]

pub few_relabellings : FewRelabellings
few_relabellings first later m settled steps =
    let all = chain first later settled steps in
    let s : ℕ = first.sweep.net.source in
    let t : ℕ = first.sweep.net.sink in
    let n : ℕ = first.sweep.net.nodes in
    (all.0, bound first.sweep (last_of first later).sweep first.steps (last_of first later).steps settled all.1 all.0 (two_of s t n m.source m.sink m.apart) m.source m.sink m.apart)
