use Rattle.std.proofs.Common.{◌≡◌, List, to_z, of_z, arith, ap, sym, ◌∙◌, subst}
use Rattle.std.specs.Prelude.{ℤ}
use Rattle.std.proofs.lemmas.Int.{ints}
use Rattle.pf_reinforce.specs.Reinforcement.{AddedAnswer, cost_of_added}
use Rattle.pf_reinforce.specs.Answer.{IsAdded}
use Rattle.pf_reinforce.specs.Raising.{IsGain, AreSmall}
use Rattle.pf_reinforce.proofs.Ending.{is_added, are_small, end_of, first_low, keeps_here, answer_of}
use Rattle.pf_reinforce.proofs.reinforcement.reinforced.Goals as goal
use mir.Syntax.{w128}

pub cost_of-cost-requires : goal.cost_of-cost-requires
cost_of-cost-requires c =
    let all = c.in_ok-raise_by_price.ensures c.args.level.now c.fill.ensures.level in
    let first : c.deref.result.now ≡ c.fill.new.self.vector = c.deref.ensures.value ∙ (c.in_ok-first.ensures.items ∙ c.vector.ensures.value) in
    let vector : c.deref-2.result.now ≡ c.raise_by_price.new.forest.vector = c.deref-2.ensures.value ∙ (c.in_ok-vector.ensures.items ∙ c.vector-2.ensures.value) in
    let gains = subst (λ (v : List ℤ). IsGain c.fill.new.self.vector v c.in_ok-added.added.items) vector
    (subst (λ (f : List ℤ). IsGain f c.deref-2.result.now c.in_ok-added.added.items) first c.in_ok-added.ensures) in
    let keeps = keeps_here _ _ _ _ _ _ all c.vector-2.ensures.kept in
    let low = first_low c.args.graph.now c.args.level.now c.fill.new.self (c.fill.ensures.graph ∙ c.requires.graph) c.fill.ensures.filled in
    subst (λ (a : List ℤ). AreSmall c.args.graph.now a) (sym c.deref-3.ensures.value)
    (are_small c.args.graph.now c.args.level.now c.fill.new.self.vector c.raise_by_price.new.forest.vector c.in_ok-added.added.items c.raise_by_price.new.forest.labels c.frame.ensures.limits
    c.q.ensures.bounds.p_high keeps low all.raised.more gains)

pub returns : goal.returns
returns c =
    let all = c.in_ok-raise_by_price.ensures c.args.level.now c.fill.ensures.level in
    let first : c.deref.result.now ≡ c.fill.new.self.vector = c.deref.ensures.value ∙ (c.in_ok-first.ensures.items ∙ c.vector.ensures.value) in
    let vector : c.deref-2.result.now ≡ c.raise_by_price.new.forest.vector = c.deref-2.ensures.value ∙ (c.in_ok-vector.ensures.items ∙ c.vector-2.ensures.value) in
    let gains = subst (λ (v : List ℤ). IsGain c.fill.new.self.vector v c.in_ok-added.added.items) vector
    (subst (λ (f : List ℤ). IsGain f c.deref-2.result.now c.in_ok-added.added.items) first c.in_ok-added.ensures) in
    let end = end_of c.args.graph.now c.args.level.now c.fill.new.self c.raise_by_price.new.forest c.in_ok-added.added.items c.raise_by_price.new.thresholds c.raise_by_price.new.parts
    c.new-splits.result c.push_splits.new.table c.requires.low c.requires.connected (c.fill.ensures.graph ∙ c.requires.graph) c.fill.ensures.filled all c.vector-2.ensures.kept gains
    c.new-splits.ensures (c.in_ok-push_splits.ensures.splits c.args.level.now all.raised.level) in
    let cost : c.cost_of-cost.result ≡ cost_of_added c.args.graph.now.prices c.in_ok-added.added.items =
    c.cost_of-cost.ensures ∙ ap (λ (a : List ℤ). cost_of_added c.args.graph.now.prices a) c.deref-3.ensures.value in
    let answer = is_added c.args.graph.now c.args.level.now c.fill.new.self.vector c.raise_by_price.new.forest c.cost_of-cost.result c.in_ok-added.added.items c.raise_by_price.new.thresholds
    c.raise_by_price.new.parts c.push_splits.new.table c.frame.ensures.limits cost end in
    let bits : to_z w128 (of_z w128 c.cost_of-cost.result) ≡ c.cost_of-cost.result = omega (arith, ints) in
    let vector_is : c.from_vec-2.result ≡ c.raise_by_price.new.forest.vector = c.from_vec-2.ensures ∙ (c.in_ok-vector.ensures.items ∙ c.vector-2.ensures.value) in
    let e : c.new.result ≡ answer_of c.args.level.now c.cost_of-cost.result c.in_ok-added.added.items c.raise_by_price.new.forest.vector c.raise_by_price.new.thresholds
    c.raise_by_price.new.parts c.push_splits.new.table =
    c.new.ensures
    ∙ (ap (λ (z : ℤ). answer_of c.args.level.now z c.from_vec.result c.from_vec-2.result c.raise_by_price.new.thresholds c.raise_by_price.new.parts c.push_splits.new.table) bits
    ∙ (ap (λ (a : List ℤ). answer_of c.args.level.now c.cost_of-cost.result a c.from_vec-2.result c.raise_by_price.new.thresholds c.raise_by_price.new.parts c.push_splits.new.table)
    c.from_vec.ensures
    ∙ ap (λ (v : List ℤ). answer_of c.args.level.now c.cost_of-cost.result c.in_ok-added.added.items v c.raise_by_price.new.thresholds c.raise_by_price.new.parts c.push_splits.new.table)
    vector_is)) in
    subst (λ (a : AddedAnswer). IsAdded c.args.graph.now c.args.level.now a) (sym e) answer
