use Rattle.std.proofs.Common.{◌≡◌, List, ap, sym, ◌∙◌, subst}
use Rattle.std.specs.Prelude.{ℤ}
use Rattle.pf_graph.specs.Limits.{IsWithinLimits}
use Rattle.pf_graph.specs.Best.{IsStrength}
use Rattle.pf_strength.specs.Strength.{StrengthAnswer, IsStrengthShape, CertifiesStrength}
use Rattle.pf_strength.proofs.Certificate.{certificate_is_strength}
use Rattle.pf_strength.proofs.Whole.{answer_of, adds_here, fits_of, certified_of}
use Rattle.pf_strength.proofs.strength.read_off.Goals as goal

pub returns-clause-shape : goal.returns-clause-shape
returns-clause-shape c =
    let last = c.requires in
    let adds = adds_here c.args.forest.now.graph c.args.level c.args.forest.now c.new-splits.result c.push_splits.new.table last.graph c.new-splits.ensures
    (c.in_ok-push_splits.ensures.splits c.args.level last.level) in
    let e : c.new.result ≡ answer_of c.args.level c.args.parts c.args.forest.now.vector c.push_splits.new.table =
    c.new.ensures ∙ ap (λ (v : List ℤ). answer_of c.args.level c.args.parts v c.push_splits.new.table)
    (c.from_vec-vector.ensures ∙ c.in_ok-from_slice.ensures.items ∙ c.vector.ensures.value) in
    let limits = subst IsWithinLimits last.graph c.vector.ensures.graph in
    subst (IsStrengthShape c.args.forest.now.graph) (sym e)
    (record {
      level = record { bounds = c.q-q.ensures.bounds; lowest = c.q-q.ensures.lowest };
      fits = fits_of c.args.forest.now.graph c.args.level c.args.parts c.args.forest.now c.push_splits.new.table limits last c.q-q.ensures.bounds.q_high adds;
    })

pub returns-clause-certified : goal.returns-clause-certified
returns-clause-certified c =
    let last = c.requires in
    let adds = adds_here c.args.forest.now.graph c.args.level c.args.forest.now c.new-splits.result c.push_splits.new.table last.graph c.new-splits.ensures
    (c.in_ok-push_splits.ensures.splits c.args.level last.level) in
    let e : c.new.result ≡ answer_of c.args.level c.args.parts c.args.forest.now.vector c.push_splits.new.table =
    c.new.ensures ∙ ap (λ (v : List ℤ). answer_of c.args.level c.args.parts v c.push_splits.new.table)
    (c.from_vec-vector.ensures ∙ c.in_ok-from_slice.ensures.items ∙ c.vector.ensures.value) in
    subst (CertifiesStrength c.args.forest.now.graph) (sym e)
    (certified_of c.args.forest.now.graph c.args.level c.args.parts c.args.forest.now c.push_splits.new.table last adds)

pub returns-clause-strength : goal.returns-clause-strength
returns-clause-strength c =
    let last = c.requires in
    let adds = adds_here c.args.forest.now.graph c.args.level c.args.forest.now c.new-splits.result c.push_splits.new.table last.graph c.new-splits.ensures
    (c.in_ok-push_splits.ensures.splits c.args.level last.level) in
    let e : c.new.result ≡ answer_of c.args.level c.args.parts c.args.forest.now.vector c.push_splits.new.table =
    c.new.ensures ∙ ap (λ (v : List ℤ). answer_of c.args.level c.args.parts v c.push_splits.new.table)
    (c.from_vec-vector.ensures ∙ c.in_ok-from_slice.ensures.items ∙ c.vector.ensures.value) in
    let limits = subst IsWithinLimits last.graph c.vector.ensures.graph in
    let S : StrengthAnswer → Type 0 = λ a. IsStrength c.args.forest.now.graph a.level a.parts in
    subst S (sym e)
    (certificate_is_strength c.args.forest.now.graph (answer_of c.args.level c.args.parts c.args.forest.now.vector c.push_splits.new.table) limits.graph last.partition
    (certified_of c.args.forest.now.graph c.args.level c.args.parts c.args.forest.now c.push_splits.new.table last adds))
