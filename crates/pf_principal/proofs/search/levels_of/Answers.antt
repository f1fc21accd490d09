use Rattle.std.proofs.Common.{◌≡◌, ◌-◌, length, map, take, arith, ap, ◌∙◌}
use Rattle.pf_principal.proofs.Levels.{rights_begin, rights_more}
use Rattle.pf_principal.proofs.search.levels_of.Goals as goal

pub parts-init : goal.parts-init
parts-init c = rights_begin (λ p. p.right) c.args.parts.now c.new-levels.result c.new-levels.ensures

pub parts-preserved : goal.parts-preserved
parts-preserved c = rights_more (λ p. p.right) c.args.parts.now c.parts.i c.index-parts-i.result c.parts.levels c.push_level.new.levels
    (omega arith) c.index-parts-i.is c.parts.invariant c.in_ok-push_level.ensures.added c.in_ok-push_level.ensures.shape

pub returns-clause-levels : goal.returns-clause-levels
returns-clause-levels c =
    let all : c.parts.i ≡ length c.args.parts.now - 1 = omega arith in
    c.parts.invariant.levels_are ∙ ap (λ k. map (λ p. p.right) (take k c.args.parts.now)) all

pub returns-clause-shape : goal.returns-clause-shape
returns-clause-shape c = c.parts.invariant.shape
