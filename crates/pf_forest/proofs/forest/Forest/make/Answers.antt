use Rattle.std.proofs.Common.{◌≡◌, ℕ, List, length, replicate, arith, ap, sym, ◌∙◌, subst}
use Rattle.std.specs.Prelude.{ℤ, pos}
use Rattle.std.proofs.lemmas.Int.{ints}
use Rattle.std.proofs.lemmas.List.{length-replicate}
use Rattle.pf_model.specs.Digraph.{Digraph}
use Rattle.pf_graph.specs.Labels.{IsPartitionOf}
use Rattle.pf_forest.specs.Held.{HasTables}
use Rattle.pf_forest.specs.Filling.{IsStanding}
use Rattle.pf_forest.proofs.Standing.{standing_starts, own_parts}
use Rattle.pf_forest.proofs.forest.Forest.make.Goals as goal

pub invariant_of-result : goal.invariant_of-result
invariant_of-result c =
    let e = c.new.ensures.equal in
    let none : c.new.result.p ≡ pos 0 = omega (arith, ints, e) in
    let nodes : c.frame-frame.result.now.nodes ≡ c.args.graph.now.nodes = ap (λ (g : Digraph). g.nodes) c.frame-frame.ensures.frame in
    let ends : length c.frame-frame.result.now.ends ≡ length c.args.graph.now.ends = ap (λ (g : Digraph). length g.ends) c.frame-frame.ensures.frame in
    let m : c.arcs-edges.result ≡ length c.args.graph.now.ends = c.arcs-edges.ensures.value ∙ ends in
    let n : c.nodes-nodes.result ≡ c.args.graph.now.nodes = c.nodes-nodes.ensures.value ∙ nodes in
    let vector : c.in_ok-charges.charges.vector.items ≡ replicate (length c.args.graph.now.ends) (pos 0) = c.in_ok-charges.ensures.vector ∙ ap (λ k. replicate k (pos 0)) m in
    let heads : c.in_ok-charges.charges.heads.items ≡ replicate (length c.args.graph.now.ends) (pos 0) = c.in_ok-charges.ensures.heads ∙ ap (λ k. replicate k (pos 0)) m in
    let rooms : c.in_ok-charges.charges.rooms.items ≡ replicate c.args.graph.now.nodes (pos 0) = c.in_ok-charges.ensures.rooms ∙ ap (λ k. replicate k (pos 0)) n in
    let groups : length c.in_ok-groups.groups.items ≡ c.args.graph.now.nodes = c.in_ok-groups.ensures.length ∙ n in
    let P : List ℕ → Type 0 = λ l. IsPartitionOf l c.in_ok-partition.partition in
    let of : IsPartitionOf c.in_ok-groups.groups.items c.in_ok-partition.partition = subst P c.deref.ensures.value c.in_ok-partition.ensures in
    let full = of.partition.full in
    let Q : ℤ → Type 0 = λ z. IsStanding c.args.graph.now z c.in_ok-charges.charges.vector.items c.in_ok-charges.charges.heads.items c.in_ok-charges.charges.rooms.items c.in_ok-groups.groups.items
    c.in_ok-partition.partition in
    let T : ℕ → Type 0 = λ k. HasTables k c.in_ok-workspace.workspace in
    record {
      lists = record {
        goals_full = ap length (c.in_ok-goals.ensures.items_if_clones_equal (λ y e. e)) ∙ length-replicate c.arcs-edges.result (pos 0) ∙ m;
        vector_full = ap length vector ∙ length-replicate _ (pos 0);
        heads_full = ap length heads ∙ length-replicate _ (pos 0);
        rooms_full = ap length rooms ∙ length-replicate _ (pos 0);
        groups_full = groups;
        labels_full = full ∙ groups;
      };
      standing = subst Q (sym none)
          (standing_starts c.args.graph.now c.in_ok-charges.charges.vector.items c.in_ok-charges.charges.heads.items c.in_ok-charges.charges.rooms.items c.in_ok-groups.groups.items
          c.in_ok-partition.partition vector heads rooms groups (λ v low. c.in_ok-groups.ensures.own v (omega (arith, low, n))) of);
      tables = subst T n c.in_ok-workspace.ensures;
      at_level = λ told. absurd cc;
    }

pub returns-clause-single : goal.returns-clause-single
returns-clause-single c =
    let nodes : c.frame-frame.result.now.nodes ≡ c.args.graph.now.nodes = ap (λ (g : Digraph). g.nodes) c.frame-frame.ensures.frame in
    let n : c.nodes-nodes.result ≡ c.args.graph.now.nodes = c.nodes-nodes.ensures.value ∙ nodes in
    let groups : length c.in_ok-groups.groups.items ≡ c.args.graph.now.nodes = c.in_ok-groups.ensures.length ∙ n in
    let P : List ℕ → Type 0 = λ l. IsPartitionOf l c.in_ok-partition.partition in
    let of : IsPartitionOf c.in_ok-groups.groups.items c.in_ok-partition.partition = subst P c.deref.ensures.value c.in_ok-partition.ensures in
    own_parts c.in_ok-groups.groups.items c.in_ok-partition.partition (λ v low. c.in_ok-groups.ensures.own v (omega (arith, low, groups, n))) of ∙ groups
