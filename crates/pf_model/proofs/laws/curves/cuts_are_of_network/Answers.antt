use Rattle.pf_model.proofs.laws.curves.cuts_are_of_network.Goals as goal

pub returns : goal.returns
returns c = λ net x side. (
  λ cut. record { full = cut.full; with_source = cut.with_source; without_sink = cut.without_sink },
  λ cut. record { full = cut.full; with_source = cut.with_source; without_sink = cut.without_sink },
)
