use Rattle.std.proofs.Common.{arith, refl}
use Rattle.std.proofs.lemmas.Bool.{false≢true}
use Rattle.pf_frame.proofs.FlowTest.{bounded_of_within, flow_of_balanced, balanced_of_flow, within_of_flow}
use Rattle.pf_frame.proofs.flow.is_flow.Goals as goal

pub balance-requires-clause-flow : goal.balance-requires-clause-flow
balance-requires-clause-flow c = bounded_of_within c.args.frame.now c.args.caps.now c.args.flow.now c.requires.caps c.requires.full (c.if-not-is_within.ensures.0 refl)

pub returns-then-not-is_within-clause-exact : goal.returns-then-not-is_within-clause-exact
returns-then-not-is_within-clause-exact c = (
  λ told. absurd (false≢true told),
  λ flow. c.if-not-is_within.ensures.1 (within_of_flow c.args.frame.now c.args.caps.now c.args.flow.now c.args.s c.args.t c.requires.caps flow),
)

pub returns-clause-exact : goal.returns-clause-exact
returns-clause-exact c = (
  λ told. flow_of_balanced c.args.frame.now c.args.caps.now c.args.flow.now c.balance.new.sums c.args.s c.args.t c.requires.caps c.requires.full (c.if-not-is_within.ensures.0 refl)
      c.balance.ensures (λ v low. c.is_balanced.ensures.0 told v (omega (arith, low, c.nodes.ensures.value))),
  λ flow. c.is_balanced.ensures.1
      (λ v low. balanced_of_flow c.args.frame.now c.args.caps.now c.args.flow.now c.balance.new.sums c.args.s c.args.t c.balance.ensures flow v (omega (arith, low, c.nodes.ensures.value))),
)
