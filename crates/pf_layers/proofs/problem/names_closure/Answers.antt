use Rattle.std.proofs.Common.{◌≡◌, arith, ap, sym, ◌∙◌, rules}
use Rattle.std.specs.Prelude.{codes}
use Rattle.std.specs.Option.{option_copied}
use Rattle.std.specs.Str.{bytes_eq}
use Rattle.pf_layers.proofs.KindLemmas.{second_there, second_missing}
use Rattle.pf_layers.proofs.problem.names_closure.Goals as goal

pub returns-in-Some : goal.returns-in-Some
returns-in-Some c =
    let told : c.eq.result ≡ bytes_eq c.in-Some.name.now (codes "closure") = search rules in
    told ∙ sym (second_there c.args.line.now.fields c.in-Some.name.now (sym (c.field.ensures.kept (omega arith)) ∙ ap option_copied c.in-Some.is))

pub returns-in-None : goal.returns-in-None
returns-in-None c = sym (second_missing c.args.line.now.fields (sym (c.field.ensures.kept (omega arith)) ∙ ap option_copied c.in-None.is))
