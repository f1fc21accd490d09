use Rattle.std.proofs.Common.{◌≡◌, arith, ap, sym, ◌∙◌, subst}
use Rattle.std.specs.Prelude.{pos}
use Rattle.std.proofs.lemmas.Int.{ints}
use Rattle.pf_model.specs.Fraction.{Fraction, lowest}
use Rattle.pf_model.specs.Network.{Network}
use Rattle.pf_sweep.specs.Parameters.{IsNearEnd, HasNearEnds}
use Rattle.pf_tests.proofs.networks.five_nodes.Goals as goal

near_ends : (net : Network) (low high : Fraction) → net.low ≡ low → net.high ≡ high → IsNearEnd low → IsNearEnd high → HasNearEnds net
near_ends net low high e f a b = record { low = subst IsNearEnd (sym e) a; high = subst IsNearEnd (sym f) b }

pub returns-clause-low : goal.returns-clause-low
unfolding lowest
returns-clause-low c = ap (λ (n : Network). n.low) c.in_ok-build.ensures.given ∙ c.new.ensures.value

pub returns-clause-high : goal.returns-clause-high
unfolding lowest
returns-clause-high c = ap (λ (n : Network). n.high) c.in_ok-build.ensures.given ∙ c.new-2.ensures.value

pub returns-clause-near : goal.returns-clause-near
unfolding lowest
returns-clause-near c =
    near_ends _ (record { p = pos 0; q = pos 1 }) (record { p = pos 8; q = pos 1 })
    (ap (λ (n : Network). n.low) c.in_ok-build.ensures.given ∙ c.new.ensures.value) (ap (λ (n : Network). n.high) c.in_ok-build.ensures.given ∙ c.new-2.ensures.value)
    (record { low = omega (arith, ints); high = omega (arith, ints) }) (record { low = omega (arith, ints); high = omega (arith, ints) })

pub returns-clause-rising : goal.returns-clause-rising
returns-clause-rising c = ap (λ (n : Network). n.sense) c.in_ok-build.ensures.given

pub returns-clause-nodes : goal.returns-clause-nodes
returns-clause-nodes c = ap (λ (n : Network). n.nodes) c.in_ok-build.ensures.given

pub returns-clause-source : goal.returns-clause-source
returns-clause-source c = ap (λ (n : Network). n.source) c.in_ok-build.ensures.given

pub returns-clause-sink : goal.returns-clause-sink
returns-clause-sink c = ap (λ (n : Network). n.sink) c.in_ok-build.ensures.given
