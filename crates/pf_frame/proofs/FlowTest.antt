-- Numbers within their capacities whose sums are balanced are a flow, and a flow is such numbers.
use Rattle.std.proofs.Common.{◌≡◌, ℕ, ◌<◌, List, length, arith}
use Rattle.std.specs.Prelude.{ℤ}
use Rattle.std.proofs.lemmas.Int.{ints}
use Rattle.pf_model.specs.Cut.{at_arc}
use Rattle.pf_model.specs.Flow.{IsFlow, IsWithin, flow_value}
use Rattle.pf_model.specs.Digraph.{Digraph, network_of}
use Rattle.pf_frame.specs.Numbers.{IsBounded, IsSized, AreWithin, AreBalanced}

pub bounded_of_within : (g : Digraph) (caps flow : List ℤ) → IsBounded g caps → length flow ≡ length g.ends → AreWithin caps flow (length caps) → IsBounded g flow
bounded_of_within g caps flow b full w = record {
  full = full;
  low = λ i low. w.low i (omega (arith, b.full));
  high = λ i low. let most = w.high i (omega (arith, b.full)) in let limit = b.high i low in omega (arith, ints, most, limit);
}

pub flow_of_balanced : (g : Digraph) (caps flow sums : List ℤ) (s t : ℕ) → IsBounded g caps → length flow ≡ length g.ends → AreWithin caps flow (length caps) →
    ((v : ℕ) → v < g.nodes → at_arc sums v ≡ flow_value g.ends flow v) → AreBalanced sums s t g.nodes → IsFlow (network_of g caps s t) flow
flow_of_balanced g caps flow sums s t b full w are even = record {
  within = record { full = full; low = λ i low. w.low i (omega (arith, b.full)); high = λ i low. w.high i (omega (arith, b.full)) };
  kept = λ v low a c. let e = are v low in let f = even v low a c in omega (arith, ints, e, f);
}

pub balanced_of_flow : (g : Digraph) (caps flow sums : List ℤ) (s t : ℕ) → ((v : ℕ) → v < g.nodes → at_arc sums v ≡ flow_value g.ends flow v) →
    IsFlow (network_of g caps s t) flow → AreBalanced sums s t g.nodes
balanced_of_flow g caps flow sums s t are f v low a c = let e = are v low in let k = f.kept v low a c in omega (arith, ints, e, k)

pub within_of_flow : (g : Digraph) (caps flow : List ℤ) (s t : ℕ) → IsBounded g caps → IsFlow (network_of g caps s t) flow → AreWithin caps flow (length caps)
within_of_flow g caps flow s t b f = record {
  low = λ i low. f.within.low i (omega (arith, b.full));
  high = λ i low. f.within.high i (omega (arith, b.full));
}

-- a flow within bounded capacities is bounded
pub bounded_of_flow : (g : Digraph) (caps flow : List ℤ) (s t : ℕ) → IsBounded g caps → IsWithin (network_of g caps s t) flow → IsBounded g flow
bounded_of_flow g caps flow s t b w = record {
  full = w.full;
  low = w.low;
  high = λ i low. let most = w.high i low in let limit = b.high i low in omega (arith, ints, most, limit);
}

-- bounded numbers are of a size below the bound
pub sized_of_bounded : (g : Digraph) (numbers : List ℤ) → IsBounded g numbers → IsSized g numbers
sized_of_bounded g numbers b = record {
  full = b.full;
  low = λ i low. let least = b.low i low in omega (arith, ints, least);
  high = b.high;
}
