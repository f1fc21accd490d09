use Rattle.std.proofs.Common.{Some, None, rules, sym, ◌∙◌}
use Rattle.std.proofs.lemmas.Slice.Eq.{strip_prefix_is}
use Rattle.std.proofs.lemmas.Bool.Decides.{Decides-eqb}
use Rattle.pf_lines.proofs.exact.Exact.word.Goals as goal

pub returns-in-Some-clause-found : goal.returns-in-Some-clause-found
returns-in-Some-clause-found c =
    let e = strip_prefix_is Decides-eqb c.self.inside.rest.now c.args.word.now (Some c.in-Some.rest) c.in-Some.ensures.cases in
    (λ is. (c.in-Some.rest.now, sym c.self.view_is ∙ e), λ some. search rules)

pub returns-in-Some-clause-taken : goal.returns-in-Some-clause-taken
returns-in-Some-clause-taken c =
    let e = strip_prefix_is Decides-eqb c.self.inside.rest.now c.args.word.now (Some c.in-Some.rest) c.in-Some.ensures.cases in
    sym c.self.view_is ∙ e

pub returns-in-None-clause-found : goal.returns-in-None-clause-found
returns-in-None-clause-found c =
    let e = strip_prefix_is Decides-eqb c.self.inside.rest.now c.args.word.now None c.in-None.ensures.cases in
    (λ is. absurd (search rules), λ some. absurd (e some.0 (c.self.view_is ∙ some.1)))
