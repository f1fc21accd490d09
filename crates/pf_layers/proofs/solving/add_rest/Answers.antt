use Rattle.std.proofs.Common.{◌++◌, ◌∷◌, [], refl, ap, ◌∙◌, inr}
use Rattle.std.specs.Prelude.{pos}
use Rattle.pf_model.specs.Fraction.{Fraction}
use Rattle.pf_layers.proofs.LevelLemmas.{more_shape}
use Rattle.pf_layers.proofs.solving.add_rest.Goals as goal

pub returns-clause-ended : goal.returns-clause-ended
returns-clause-ended c =
    inr (c.if-not-has_number.ensures.0 refl, c.in_ok-add_level.ensures.added ∙ ap (λ (x : Fraction). c.args.levels.now ++ x ∷ []) c.from_integer.ensures)

pub returns-clause-shape : goal.returns-clause-shape
returns-clause-shape c =
    more_shape c.args.levels.now c.add_level.new.levels c.from_integer.result c.requires c.in_ok-add_level.ensures.added c.in_ok-add_level.ensures.shape
