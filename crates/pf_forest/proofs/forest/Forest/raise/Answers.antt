use Rattle.std.proofs.Common.{arith, ap, ◌∙◌, subst}
use Rattle.pf_model.specs.Cut.{at_arc}
use Rattle.pf_model.specs.Fraction.{Fraction}
use Rattle.pf_forest.specs.Forest.{ForestState, KeepsForest}
use Rattle.pf_forest.proofs.Lent.{lent}
use Rattle.pf_forest.proofs.Standing.{raised_here, keeps_of, level_seen}
use Rattle.pf_forest.proofs.forest.Forest.raise.Goals as goal

pub invariant_of-self : goal.invariant_of-self
invariant_of-self c =
    let r = c.raise_at.ensures in
    let f = r.standing.forest in
    let labels = r.standing.labels_are.partition.full in
    let groups = lent c.self.inside.groups.len c.self.inside.groups.items c.raise_at.new.groups (omega (arith, c.self.inside.groups.ok.0)) (omega (arith, c.self.invariant.lists.groups_full, f.full)) in
    rw groups (record {
      lists = record {
        goals_full = c.self.invariant.lists.goals_full;
        vector_full = f.held.vector_full;
        heads_full = f.held.heads_full;
        rooms_full = f.held.rooms_full;
        groups_full = f.full;
        labels_full = labels ∙ f.full;
      };
      standing = r.standing;
      tables = r.tables;
      at_level = λ told. raised_here _ _ _ _ _ _ _ _ _ _ r.limits.graph c.deref_mut.ensures.value r.raised r.met (c.self.invariant.at_level told);
    })

pub returns-clause-others : goal.returns-clause-others
returns-clause-others c = λ k off. c.raise_at.ensures.raised.others k off ∙ ap (λ (f : ForestState). at_arc f.vector k) c.self.view_is

pub returns-clause-kept : goal.returns-clause-kept
returns-clause-kept c =
    let r = c.raise_at.ensures in
    record {
      filled = λ y e.
          let seen = level_seen c.self.inside.filled c.self.inside.level y e in
          let P : Fraction → Type 0 = λ z. KeepsForest c.self.inside.graph.now z c.raise_at.new.charges.vector.items c.raise_at.new.partition in
          subst P seen.1
          (keeps_of c.self.inside.graph.now c.self.inside.level c.self.inside.goals.items _ _ _ _ _ r.limits.graph r.standing
          (raised_here _ _ _ _ _ _ _ _ _ _ r.limits.graph c.deref_mut.ensures.value r.raised r.met (c.self.invariant.at_level seen.0)));
    }
