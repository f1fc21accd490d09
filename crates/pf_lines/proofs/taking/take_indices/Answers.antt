use Rattle.std.proofs.Common.{◌++◌, ◌∷◌, ℕ, ◌+◌, List, take, drop, map, get_or, sym, ap, ◌∙◌, append_assoc}
use Rattle.std.specs.Fmt.{decimal}
use Rattle.pf_text.specs.Spelling.{spaced}
use Rattle.pf_text.proofs.SpellingLemmas.{spaced_more}
use Rattle.pf_lines.proofs.RowsTaken.{index_then, stops_fields}
use Rattle.pf_lines.proofs.taking.take_indices.Goals as goal

pub returns-in_err-take_index-clause-found : goal.returns-in_err-take_index-clause-found
returns-in_err-take_index-clause-found c = λ rest stops there.
    let later = map decimal (drop (c.items.index-index + 1) c.args.indices.now) in
    absurd (c.in_err-take_index.ensures.found (spaced later ++ rest) (stops_fields later rest stops)
    (c.items.invariant.found rest stops there ∙ index_then c.args.indices.now c.items.index-index 0 rest c.items-test.true))

pub items-preserved : goal.items-preserved
items-preserved c = record {
  taken =
      let front = spaced (map decimal (take c.items.index-index c.args.indices.now)) in
      let one = 32 ∷ decimal (get_or c.args.indices.now c.items.index-index 0) in
      c.items.invariant.taken ∙ ap (λ (t : List ℕ). front ++ t) c.in_ok-take_index.ensures.taken ∙ sym (append_assoc front one c.take_index.new.text)
      ∙ ap (λ (t : List ℕ). t ++ c.take_index.new.text) (sym (spaced_more decimal c.args.indices.now c.items.index-index 0 c.items-test.true));
  found = λ rest stops there.
      let later = map decimal (drop (c.items.index-index + 1) c.args.indices.now) in
      c.in_ok-take_index.ensures.found (spaced later ++ rest) (stops_fields later rest stops)
      (c.items.invariant.found rest stops there ∙ index_then c.args.indices.now c.items.index-index 0 rest c.items-test.true);
}
