use Rattle.std.proofs.Common.{◌∷◌, [], length, ◌∙◌}
use Rattle.std.specs.Prelude.{codes}
use Rattle.std.proofs.lemmas.Result.{err_from_is_err_and}
use Rattle.pf_text.specs.Spelling.{line, row_line}
use Rattle.pf_share.specs.Text.{levels_text, shares_lines, shares_text}
use Rattle.pf_io.proofs.PrintingLemmas.{adds_then, adds_none_of}
use Rattle.pf_share.proofs.writing.write_shares.Goals as goal

pub returns-in_err-word : goal.returns-in_err-word
unfolding shares_text
returns-in_err-word g c =
    let p = err_from_is_err_and c.from_residual.result c.from_residual.ensures.1 in
    let a = c.args.answer.now in
    let w = c.args.sharing.now.weights in
    rw p.1 (adds_none_of {T = Unit {0}} (row_line (codes "k") (length a.levels ∷ []) [] ∷ levels_text 0 a.levels ∷ row_line (codes "m") [] a.groups ∷ shares_lines a.levels 0 w a.groups ∷ row_line (codes "f") [] a.flow ∷ line (codes "end" ∷ []) ∷ []) c.in_err-word.ensures)

pub returns-in_err-print_row : goal.returns-in_err-print_row
unfolding shares_text
returns-in_err-print_row g c =
    let p = err_from_is_err_and c.from_residual-in_err-print_row.result c.from_residual-in_err-print_row.ensures.1 in
    let a = c.args.answer.now in
    let w = c.args.sharing.now.weights in
    let levels = c.get-levels.ensures ∙ c.levels.ensures in
    rw p.1 (adds_none_of {T = Unit {0}} (levels_text 0 a.levels ∷ row_line (codes "m") [] a.groups ∷ shares_lines a.levels 0 w a.groups ∷ row_line (codes "f") [] a.flow ∷ line (codes "end" ∷ []) ∷ [])
    (adds_then c.in_ok-word.ensures (rw levels at c.in_err-print_row.ensures)))

pub returns-in_err-print_levels : goal.returns-in_err-print_levels
unfolding shares_text
returns-in_err-print_levels g c =
    let p = err_from_is_err_and c.from_residual-in_err-print_levels.result c.from_residual-in_err-print_levels.ensures.1 in
    let a = c.args.answer.now in
    let w = c.args.sharing.now.weights in
    let levels = c.get-levels.ensures ∙ c.levels.ensures in
    rw p.1 (adds_none_of {T = Unit {0}} (row_line (codes "m") [] a.groups ∷ shares_lines a.levels 0 w a.groups ∷ row_line (codes "f") [] a.flow ∷ line (codes "end" ∷ []) ∷ [])
    (adds_then (adds_then c.in_ok-word.ensures (rw levels at c.in_ok-print_row.ensures)) (rw levels at c.in_err-print_levels.ensures)))

pub returns-in_err-print_row-2 : goal.returns-in_err-print_row-2
unfolding shares_text
returns-in_err-print_row-2 g c =
    let p = err_from_is_err_and c.from_residual-in_err-print_row-2.result c.from_residual-in_err-print_row-2.ensures.1 in
    let a = c.args.answer.now in
    let w = c.args.sharing.now.weights in
    let levels = c.get-levels.ensures ∙ c.levels.ensures in
    let groups = c.get-groups.ensures ∙ c.groups.ensures in
    rw p.1 (adds_none_of {T = Unit {0}} (shares_lines a.levels 0 w a.groups ∷ row_line (codes "f") [] a.flow ∷ line (codes "end" ∷ []) ∷ [])
    (adds_then (adds_then (adds_then c.in_ok-word.ensures (rw levels at c.in_ok-print_row.ensures)) (rw levels at c.in_ok-print_levels.ensures)) (rw groups at c.in_err-print_row-2.ensures)))

pub returns-in_err-print_nodes : goal.returns-in_err-print_nodes
unfolding shares_text
returns-in_err-print_nodes g c =
    let p = err_from_is_err_and c.from_residual-in_err-print_nodes.result c.from_residual-in_err-print_nodes.ensures.1 in
    let a = c.args.answer.now in
    let levels = c.get-levels.ensures ∙ c.levels.ensures in
    let groups = c.get-groups.ensures ∙ c.groups.ensures in
    rw p.1 (adds_none_of {T = Unit {0}} (row_line (codes "f") [] a.flow ∷ line (codes "end" ∷ []) ∷ [])
    (adds_then (adds_then (adds_then (adds_then c.in_ok-word.ensures (rw levels at c.in_ok-print_row.ensures)) (rw levels at c.in_ok-print_levels.ensures))
    (rw groups at c.in_ok-print_row-2.ensures)) c.in_err-print_nodes.ensures))

pub returns-in_err-print_row-3 : goal.returns-in_err-print_row-3
unfolding shares_text
returns-in_err-print_row-3 g c =
    let p = err_from_is_err_and c.from_residual-in_err-print_row-3.result c.from_residual-in_err-print_row-3.ensures.1 in
    let levels = c.get-levels.ensures ∙ c.levels.ensures in
    let groups = c.get-groups.ensures ∙ c.groups.ensures in
    let flow = c.get-flow.ensures ∙ c.flow.ensures in
    rw p.1 (adds_none_of {T = Unit {0}} (line (codes "end" ∷ []) ∷ [])
    (adds_then (adds_then (adds_then (adds_then (adds_then c.in_ok-word.ensures (rw levels at c.in_ok-print_row.ensures)) (rw levels at c.in_ok-print_levels.ensures))
    (rw groups at c.in_ok-print_row-2.ensures)) c.in_ok-print_nodes.ensures) (rw flow at c.in_err-print_row-3.ensures)))

pub returns : goal.returns
unfolding shares_text
returns g c =
    let levels = c.get-levels.ensures ∙ c.levels.ensures in
    let groups = c.get-groups.ensures ∙ c.groups.ensures in
    let flow = c.get-flow.ensures ∙ c.flow.ensures in
    adds_then (adds_then (adds_then (adds_then (adds_then (adds_then c.in_ok-word.ensures (rw levels at c.in_ok-print_row.ensures)) (rw levels at c.in_ok-print_levels.ensures))
    (rw groups at c.in_ok-print_row-2.ensures)) c.in_ok-print_nodes.ensures) (rw flow at c.in_ok-print_row-3.ensures)) c.word-2.ensures
