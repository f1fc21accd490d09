use Rattle.std.proofs.Common.{◌≡◌, ◌++◌, length, take, drop, refl, to_z, of_z, arith, ap, sym, ◌∙◌, subst}
use Rattle.std.proofs.lemmas.Int.{ints}
use Rattle.pf_model.specs.Digraph.{Digraph}
use Rattle.pf_frame.specs.Numbers.{IsBounded}
use Rattle.pf_forest.proofs.Bounds.{range_bounded}
use Rattle.pf_forest.proofs.Giving.{splits_more}
use Rattle.pf_forest.proofs.meets.are_splits.Goals as goal
use mir.Syntax.{w128}
use Rattle.pf_model.proofs.Facts.{lent_back}

pub is_split-requires-clause-vector : goal.is_split-requires-clause-vector
is_split-requires-clause-vector c =
    let b = c.q-q.ensures.bounds in
    let P : Digraph → Type 0 = λ g. IsBounded g c.args.vector.now in
    subst P (sym c.frame-frame.ensures.frame)
    (range_bounded c.args.graph.now c.args.level.now c.args.vector.now c.frame-frame.ensures.limits b.parameter b.q_high c.requires.vector)

pub roots-preserved : goal.roots-preserved
roots-preserved c =
    let v = c.p-limit.ensures.value in
    let b = c.p-limit.ensures.bounds in
    let same : to_z w128 (of_z w128 c.p-limit.result) ≡ c.args.level.now.p = omega (arith, ints, v, b.p_low, b.p_high) in
    let old = ap length c.deref_mut.ensures.value in
    let kept = c.is_split.auto.sums in
    let long : length c.is_split.new.sums ≡ length c.roots.scratch.sums.items = omega (arith, old, kept) in
    let b_sums : take c.roots.scratch.sums.len (c.is_split.new.sums ++ drop (length c.is_split.new.sums) c.roots.scratch.sums.items) ≡ c.is_split.new.sums =
    lent_back _ _ _ (omega (arith, c.roots.scratch.sums.ok.0, long)) in
    record {
      places = record {
        marks = c.roots.invariant.places.marks;
        sums = ap length b_sums ∙ long ∙ c.roots.invariant.places.sums;
        queue = c.roots.invariant.places.queue;
      };
      each = splits_more _ _ _ _ _ _ _ c.roots.r _ c.frame-frame.ensures.frame same c.row-shares.ensures (c.if-not-is_split.ensures.0 refl) c.roots.invariant.each;
    }
