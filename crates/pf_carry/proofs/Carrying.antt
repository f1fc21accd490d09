-- What scaling and trimming leave.
use Rattle.std.proofs.Common.{◌≡◌, ℕ, ◌<◌, List, length, arith, subst}
use Rattle.std.specs.Prelude.{ℤ, ◌≤ℤ◌}
use Rattle.std.proofs.lemmas.Int.{ints}
use Rattle.pf_model.specs.Cut.{at_arc}
use Rattle.pf_model.specs.Digraph.{Digraph, network_of}
use Rattle.pf_frame.specs.Numbers.{IsBounded}
use Rattle.pf_carry.specs.Carry.{IsCarriable, IsCarried, floored}
use Rattle.pf_carry.specs.Trimming.{HasNoDeficit, IsLowered}
use Rattle.pf_carry.proofs.Scaled.{floored_high}

carried_from : (g : Digraph) (s t : ℕ) (caps wanted after : List ℤ) → ((i : ℕ) → i < length g.ends → at_arc wanted i ≤ℤ at_arc caps i) →
    IsBounded g after → IsLowered g s t wanted after → HasNoDeficit g s t after → IsCarried (network_of g caps s t) wanted after
carried_from g s t caps wanted after high b l d = record {
  preflow = record {
    within = record {
      full = b.full;
      low = b.low;
      high = λ i h. let x = l.most i in let y = high i h in omega (arith, ints, x, y);
    };
    given = d.given;
  };
  most = λ i h. l.most i;
  kept = λ p. l.kept (record { given = p.given });
}

pub carried_all : (g : Digraph) (s t : ℕ) (from to : ℤ) (caps flow scaled after : List ℤ) → IsBounded g caps → IsCarriable g from flow →
    scaled ≡ floored from to caps flow → IsBounded g after → IsLowered g s t scaled after → HasNoDeficit g s t after →
    IsCarried (network_of g caps s t) (floored from to caps flow) after
carried_all g s t from to caps flow scaled after c f e b l d =
    carried_from g s t caps (floored from to caps flow) after (λ i h. floored_high g from to caps flow i c.full f.full h) b
    (subst (λ w. IsLowered g s t w after) e l) d
