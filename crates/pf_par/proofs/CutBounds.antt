-- The sizes of the numbers of a cut's line.
use Rattle.std.proofs.Common.{◌≡◌, ℕ, suc, ◌+◌, ◌*◌, ◌^◌, ◌≤◌, List, [], ◌∷◌, length, map, Bool, true, false, cond, arith}
use Rattle.std.specs.Prelude.{ℤ, ◌+ℤ◌, ◌≤ℤ◌, neg_ℤ, pos}
use Rattle.std.specs.List.{AllByRecursion}
use Rattle.std.proofs.lemmas.Int.{ints}
use Rattle.std.proofs.lemmas.List.Elements.{recursion_from_All}
use Rattle.pf_model.specs.declared.AffineArc.{AffineArc}
use Rattle.pf_model.specs.Cut.{sum_where, leaves}
use Rattle.pf_model.specs.Network.{Network, ends_of, cut_a, cut_b}
use Rattle.pf_net.specs.Limits.{IsBuilt}

record IsAtMost (m : ℕ) (x : ℤ) : Type 0 where
  pub low : neg_ℤ (pos m) ≤ℤ x
  pub high : x ≤ℤ pos m

one_more : (here : Bool) (x rest : ℤ) (n m : ℕ) → IsAtMost m x → IsAtMost (n * m) rest → IsAtMost (suc n * m) (cond here x (pos 0) +ℤ rest)
one_more true x rest n m first later =
    let more : suc n * m ≡ n * m + m = grind arith in
    record { low = omega (arith, ints, more, first.low, later.low); high = omega (arith, ints, more, first.high, later.high) }
one_more false x rest n m first later =
    let more : suc n * m ≡ n * m + m = grind arith in
    record { low = omega (arith, ints, more, later.low); high = omega (arith, ints, more, later.high) }

none : (m : ℕ) → IsAtMost (0 * m) (pos 0)
none m = let zero : 0 * m ≡ 0 = grind arith in record { low = omega (arith, ints, zero); high = omega (arith, ints, zero) }

sum_size : (test : ℕ × ℕ → Bool) (number : AffineArc → ℤ) (m : ℕ) (arcs : List AffineArc) → AllByRecursion (λ arc. IsAtMost m (number arc)) arcs
    → IsAtMost (length arcs * m) (sum_where test (map ends_of arcs) (map number arcs))
sum_size test number m [] small = none m
sum_size test number m (arc ∷ arcs) small = one_more (test (ends_of arc)) (number arc) (sum_where test (map ends_of arcs) (map number arcs)) (length arcs) m small.0 (sum_size test number m arcs small.1)

-- both numbers have 128 signed bits
pub record IsNumberOfCut (x : ℤ) : Type 0 where
  pub low : neg_ℤ (pos (2 ^ 127)) ≤ℤ x
  pub high : x ≤ℤ pos (2 ^ 120)

within : (n m : ℕ) (x : ℤ) → n ≤ 32768 → m ≤ 2 ^ 56 → IsAtMost (n * m) x → IsNumberOfCut x
within n m x few small size =
    let most : n * m ≤ 32768 * 2 ^ 56 = grind arith in
    record { low = omega (arith, ints, most, size.low); high = omega (arith, ints, most, size.high) }

pub constant_size : (net : Network) (side : List Bool) → IsBuilt net → IsNumberOfCut (cut_a net side)
constant_size net side built =
    within (length net.arcs) (2 ^ 56) (cut_a net side) built.limits.arcs (omega arith)
    (sum_size (leaves side) (λ arc. arc.a) (2 ^ 56) net.arcs
    (recursion_from_All (λ arc. IsAtMost (2 ^ 56) arc.a) net.arcs (λ i d low. let s = built.limits.each i d low in record { low = s.a_low; high = s.a_high })))

pub slope_size : (net : Network) (side : List Bool) → IsBuilt net → IsNumberOfCut (cut_b net side)
slope_size net side built =
    within (length net.arcs) (2 ^ 30) (cut_b net side) built.limits.arcs (omega arith)
    (sum_size (leaves side) (λ arc. arc.b) (2 ^ 30) net.arcs
    (recursion_from_All (λ arc. IsAtMost (2 ^ 30) arc.b) net.arcs (λ i d low. let s = built.limits.each i d low in record { low = s.b_low; high = s.b_high })))
