use Rattle.std.proofs.Common.{◌≡◌, ℕ, ◌++◌, [], ◌∷◌, length, take, drop, arith, ap, ◌∙◌, subst}
use Rattle.std.specs.Prelude.{Some}
use Rattle.pf_graph.specs.WeightedGraph.{WeightedGraph, digraph_of}
use Rattle.pf_forest.specs.Forest.{ForestState, IsSplit, AddsSplits}
use Rattle.pf_forest.proofs.Giving.{adds_more}
use Rattle.pf_forest.proofs.forest.Forest.push_splits.Goals as goal
use Rattle.pf_model.proofs.Facts.{lent_back}

pub roots-preserved : goal.roots-preserved
roots-preserved c = record {
  same = c.orient.ensures.same ∙ c.roots.invariant.same;
  adds = λ x e.
      let here : c.roots.self.level ≡ Some x = ap (λ (f : ForestState). f.level) c.roots.invariant.same ∙ e in
      let P : ForestState → Type 0 = λ f. IsSplit (digraph_of f.graph) x.p f.vector c.orient.new.shares c.roots.root in
      let split = subst P c.roots.invariant.same (c.orient.ensures.split x here) in
      let old = ap length c.deref_mut.ensures.value in
      let kept = c.orient.auto.shares in
      let b : take c.in_ok-shares.shares.len (c.orient.new.shares ++ drop (length c.orient.new.shares) c.in_ok-shares.shares.items) ≡ c.orient.new.shares =
      lent_back _ _ _ (omega (arith, c.in_ok-shares.shares.ok.0, old, kept)) in
      adds_more _ x _ _ c.roots.table c.push.new.self c.roots.root c.orient.new.shares (c.roots.invariant.adds x e)
      (c.in_ok-push.ensures.added ∙ ap (λ l. c.roots.table ++ l ∷ []) (c.from_vec.ensures ∙ b)) split;
}

pub returns-clause-splits : goal.returns-clause-splits
returns-clause-splits c =
    let n : c.vertices-root-end.result ≡ c.args.self.now.graph.nodes = c.vertices-root-end.ensures.value ∙ ap (λ (g : WeightedGraph). g.nodes) c.graph-graph.ensures in
    let all : c.roots.root ≡ c.args.self.now.graph.nodes = omega (arith, n) in
    λ x e.
    let P : ℕ → Type 0 = λ k. AddsSplits c.args.self.now.graph x c.args.self.now.vector c.args.table.now c.roots.table k in
    subst P all (c.roots.invariant.adds x e)
