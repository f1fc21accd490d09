use Rattle.std.proofs.Common.{◌++◌, ◌∷◌, [], List, ℕ, ap, sym, ◌∙◌, append_assoc}
use Rattle.std.specs.Prelude.{ℤ}
use Rattle.std.proofs.lemmas.Result.{err_from_is_err_and}
use Rattle.pf_principal.specs.Text.{vector_line, splits_text}
use Rattle.pf_principal.proofs.rows.take_level.Goals as goal

pub returns-in_err-vector-clause-found : goal.returns-in_err-vector-clause-found
returns-in_err-vector-clause-found c = λ rows rest shape there.
    let p = err_from_is_err_and c.from_residual.result c.from_residual.ensures.1 in
    let behind = splits_text c.args.j 0 rows.splits in
    rw (p.1, p.2) (c.in_err-vector.ensures.found rows.vector (behind ++ rest) shape.vector (there ∙ append_assoc (vector_line c.args.j rows.vector) behind rest))

pub returns-in_err-take_splits-clause-found : goal.returns-in_err-take_splits-clause-found
returns-in_err-take_splits-clause-found c = λ rows rest shape there.
    let p = err_from_is_err_and c.from_residual-in_err-take_splits.result c.from_residual-in_err-take_splits.ensures.1 in
    let behind = splits_text c.args.j 0 rows.splits in
    let first = c.in_ok-vector.ensures.found rows.vector (behind ++ rest) shape.vector (there ∙ append_assoc (vector_line c.args.j rows.vector) behind rest) in
    rw (p.1, p.2) (c.in_err-take_splits.ensures.found rows.splits rest (shape.count ∙ sym c.vertices-roots.ensures.value) shape.splits first.1)

pub returns-clause-taken : goal.returns-clause-taken
returns-clause-taken c =
    let t = c.in_ok-take_splits.ensures.taken in
    let y = vector_line c.args.j c.in_ok-vector.vector in
    record {
      rows = record { vector = c.in_ok-vector.vector; splits = t.rows };
      shape = record { vector = c.in_ok-vector.ensures.shape; count = t.count_is ∙ c.vertices-roots.ensures.value; splits = t.sized };
      vectors_are = c.in_ok-push.ensures.added;
      splits_are = t.table_is;
      text_is = c.in_ok-vector.ensures.taken ∙ ap (λ (s : List ℕ). y ++ s) t.text_is ∙ sym (append_assoc y (splits_text c.args.j 0 t.rows) c.take_splits.new.text);
    }

pub returns-clause-found : goal.returns-clause-found
returns-clause-found c = λ rows rest shape there.
    let behind = splits_text c.args.j 0 rows.splits in
    let first = c.in_ok-vector.ensures.found rows.vector (behind ++ rest) shape.vector (there ∙ append_assoc (vector_line c.args.j rows.vector) behind rest) in
    let s = c.in_ok-take_splits.ensures.found rows.splits rest (shape.count ∙ sym c.vertices-roots.ensures.value) shape.splits first.1 in
    (c.in_ok-push.ensures.added ∙ ap (λ (v : List ℤ). c.args.vectors.now ++ v ∷ []) first.0, s.0, s.1)
