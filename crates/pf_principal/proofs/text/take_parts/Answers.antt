use Rattle.std.proofs.Common.{ℕ, arith, sym, ◌∙◌, subst, length}
use Rattle.std.specs.Prelude.{All}
use Rattle.std.proofs.lemmas.Result.{err_from_is_err_and}
use Rattle.pf_graph.specs.Labels.{IsPartition}
use Rattle.pf_principal.specs.Reading.{IsStepShape, AreTables}
use Rattle.pf_principal.proofs.PartLemmas.{last_lines, table_lines, step_lines, first_lines, count_lines, all_lines, parts_taken, steps_behind, same_parts}
use Rattle.pf_principal.proofs.text.take_parts.Goals as goal

pub returns-in_err-take_word-clause-found : goal.returns-in_err-take_word-clause-found
returns-in_err-take_word-clause-found c = λ parts rest shape there.
    absurd (c.in_err-take_word.ensures.found (count_lines c.args.graph.now parts rest) (there ∙ all_lines c.args.graph.now parts rest))

pub returns-in_err-count-clause-found : goal.returns-in_err-count-clause-found
returns-in_err-count-clause-found c = λ parts rest shape there.
    let a = c.in_ok-take_word.ensures.found (count_lines c.args.graph.now parts rest) (there ∙ all_lines c.args.graph.now parts rest) in
    absurd (c.in_err-count.ensures.found (length parts.steps) (first_lines c.args.graph.now parts.first parts.steps parts.vectors parts.splits rest) (omega arith)
    (steps_behind c.args.graph.now parts.first parts.steps parts.vectors parts.splits rest) a)

pub returns-in_err-first-clause-found : goal.returns-in_err-first-clause-found
returns-in_err-first-clause-found c = λ parts rest shape there.
    let p = err_from_is_err_and c.from_residual-in_err-first.result c.from_residual-in_err-first.ensures.1 in
    let a = c.in_ok-take_word.ensures.found (count_lines c.args.graph.now parts rest) (there ∙ all_lines c.args.graph.now parts rest) in
    let k = c.in_ok-count.ensures.found (length parts.steps) (first_lines c.args.graph.now parts.first parts.steps parts.vectors parts.splits rest) (omega arith)
    (steps_behind c.args.graph.now parts.first parts.steps parts.vectors parts.splits rest) a in
    let N : ℕ → Type 0 = λ n. IsPartition n parts.first in
    rw (p.1, p.2) (c.in_err-first.ensures.found parts.first (step_lines c.args.graph.now parts.steps parts.vectors parts.splits rest) (subst N (sym c.vertices-vertices.ensures.value) shape.first) k.1)

pub returns-in_err-steps-clause-found : goal.returns-in_err-steps-clause-found
returns-in_err-steps-clause-found c = λ parts rest shape there.
    let p = err_from_is_err_and c.from_residual-in_err-steps.result c.from_residual-in_err-steps.ensures.1 in
    let a = c.in_ok-take_word.ensures.found (count_lines c.args.graph.now parts rest) (there ∙ all_lines c.args.graph.now parts rest) in
    let k = c.in_ok-count.ensures.found (length parts.steps) (first_lines c.args.graph.now parts.first parts.steps parts.vectors parts.splits rest) (omega arith)
    (steps_behind c.args.graph.now parts.first parts.steps parts.vectors parts.splits rest) a in
    let N : ℕ → Type 0 = λ n. IsPartition n parts.first in
    let f = c.in_ok-first.ensures.found parts.first (step_lines c.args.graph.now parts.steps parts.vectors parts.splits rest) (subst N (sym c.vertices-vertices.ensures.value) shape.first) k.1 in
    let S : ℕ → Type 0 = λ n. All (IsStepShape n) parts.steps in
    rw (p.1, p.2) (c.in_err-steps.ensures.found parts.steps (table_lines c.args.graph.now parts.vectors parts.splits rest) (sym k.0) (subst S (sym c.vertices-vertices.ensures.value) shape.steps) f.1)

pub returns-in_err-take_levels-clause-found : goal.returns-in_err-take_levels-clause-found
returns-in_err-take_levels-clause-found c = λ parts rest shape there.
    let p = err_from_is_err_and c.from_residual-in_err-take_levels.result c.from_residual-in_err-take_levels.ensures.1 in
    let a = c.in_ok-take_word.ensures.found (count_lines c.args.graph.now parts rest) (there ∙ all_lines c.args.graph.now parts rest) in
    let k = c.in_ok-count.ensures.found (length parts.steps) (first_lines c.args.graph.now parts.first parts.steps parts.vectors parts.splits rest) (omega arith)
    (steps_behind c.args.graph.now parts.first parts.steps parts.vectors parts.splits rest) a in
    let N : ℕ → Type 0 = λ n. IsPartition n parts.first in
    let f = c.in_ok-first.ensures.found parts.first (step_lines c.args.graph.now parts.steps parts.vectors parts.splits rest) (subst N (sym c.vertices-vertices.ensures.value) shape.first) k.1 in
    let S : ℕ → Type 0 = λ n. All (IsStepShape n) parts.steps in
    let s = c.in_ok-steps.ensures.found parts.steps (table_lines c.args.graph.now parts.vectors parts.splits rest) (sym k.0) (subst S (sym c.vertices-vertices.ensures.value) shape.steps) f.1 in
    let T : ℕ → Type 0 = λ n. AreTables c.args.graph.now n parts.vectors parts.splits in
    rw (p.1, p.2) (c.in_err-take_levels.ensures.found parts.vectors parts.splits (last_lines rest) (subst T (sym k.0) shape.tables) s.1)

pub returns-in_err-take_word-2-clause-found : goal.returns-in_err-take_word-2-clause-found
returns-in_err-take_word-2-clause-found c = λ parts rest shape there.
    let a = c.in_ok-take_word.ensures.found (count_lines c.args.graph.now parts rest) (there ∙ all_lines c.args.graph.now parts rest) in
    let k = c.in_ok-count.ensures.found (length parts.steps) (first_lines c.args.graph.now parts.first parts.steps parts.vectors parts.splits rest) (omega arith)
    (steps_behind c.args.graph.now parts.first parts.steps parts.vectors parts.splits rest) a in
    let N : ℕ → Type 0 = λ n. IsPartition n parts.first in
    let f = c.in_ok-first.ensures.found parts.first (step_lines c.args.graph.now parts.steps parts.vectors parts.splits rest) (subst N (sym c.vertices-vertices.ensures.value) shape.first) k.1 in
    let S : ℕ → Type 0 = λ n. All (IsStepShape n) parts.steps in
    let s = c.in_ok-steps.ensures.found parts.steps (table_lines c.args.graph.now parts.vectors parts.splits rest) (sym k.0) (subst S (sym c.vertices-vertices.ensures.value) shape.steps) f.1 in
    let T : ℕ → Type 0 = λ n. AreTables c.args.graph.now n parts.vectors parts.splits in
    let t = c.in_ok-take_levels.ensures.found parts.vectors parts.splits (last_lines rest) (subst T (sym k.0) shape.tables) s.1 in
    absurd (c.in_err-take_word-2.ensures.found rest t.2)

pub returns-clause-found : goal.returns-clause-found
returns-clause-found c = λ parts rest shape there.
    let a = c.in_ok-take_word.ensures.found (count_lines c.args.graph.now parts rest) (there ∙ all_lines c.args.graph.now parts rest) in
    let k = c.in_ok-count.ensures.found (length parts.steps) (first_lines c.args.graph.now parts.first parts.steps parts.vectors parts.splits rest) (omega arith)
    (steps_behind c.args.graph.now parts.first parts.steps parts.vectors parts.splits rest) a in
    let N : ℕ → Type 0 = λ n. IsPartition n parts.first in
    let f = c.in_ok-first.ensures.found parts.first (step_lines c.args.graph.now parts.steps parts.vectors parts.splits rest) (subst N (sym c.vertices-vertices.ensures.value) shape.first) k.1 in
    let S : ℕ → Type 0 = λ n. All (IsStepShape n) parts.steps in
    let s = c.in_ok-steps.ensures.found parts.steps (table_lines c.args.graph.now parts.vectors parts.splits rest) (sym k.0) (subst S (sym c.vertices-vertices.ensures.value) shape.steps) f.1 in
    let T : ℕ → Type 0 = λ n. AreTables c.args.graph.now n parts.vectors parts.splits in
    let t = c.in_ok-take_levels.ensures.found parts.vectors parts.splits (last_lines rest) (subst T (sym k.0) shape.tables) s.1 in
    (same_parts c.in_ok-first.first c.in_ok-steps.steps c.take_levels.new.vectors c.take_levels.new.splits parts f.0 s.0 t.0 t.1, c.in_ok-take_word-2.ensures.found rest t.2)

pub returns-clause-taken : goal.returns-clause-taken
returns-clause-taken c =
    parts_taken c.args.graph.now c.args.text.now _ _ _ _ _ c.take_word-2.new.text c.in_ok-count.count c.in_ok-first.first c.in_ok-steps.steps c.take_levels.new.vectors c.take_levels.new.splits
    c.in_ok-take_word.ensures.taken c.in_ok-count.ensures.taken c.in_ok-first.ensures.taken c.in_ok-steps.ensures.taken c.in_ok-take_levels.ensures.taken c.in_ok-take_word-2.ensures.taken
    c.in_ok-steps.ensures.count

pub returns-clause-shape : goal.returns-clause-shape
returns-clause-shape c =
    let N : ℕ → Type 0 = λ n. IsPartition n c.in_ok-first.first in
    let S : ℕ → Type 0 = λ n. All (IsStepShape n) c.in_ok-steps.steps in
    let T : ℕ → Type 0 = λ n. AreTables c.args.graph.now n c.take_levels.new.vectors c.take_levels.new.splits in
    record {
      first = subst N c.vertices-vertices.ensures.value c.in_ok-first.ensures.shape;
      steps = subst S c.vertices-vertices.ensures.value c.in_ok-steps.ensures.shape;
      tables = subst T (sym c.in_ok-steps.ensures.count) c.in_ok-take_levels.ensures.shape;
    }
