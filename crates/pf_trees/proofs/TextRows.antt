-- Texts of answers, by computation alone.
use Rattle.std.proofs.Common.{◌≡◌, [], ◌∷◌, refl}
use Rattle.std.specs.Prelude.{codes}
use Rattle.std.specs.Fmt.{digits}
use Rattle.pf_text.proofs.Rows.{text}
use Rattle.pf_trees.specs.declared.trees_of_graph.TreesOr.TheVariants.{Trees, Blocked}
use Rattle.pf_trees.specs.Text.{trees_text}
use Rattle.pf_trees.specs.Worked.{complete, two_trees, alone}

trees_are_printed : trees_text complete 2 (Trees two_trees)
    ≡ text (codes "o trees" ∷ codes "k 2" ∷ codes "m 1 2 2 1 2 1" ∷ codes "end" ∷ [])
unfolding text digits trees_text
trees_are_printed = refl

a_partition_is_printed : trees_text complete 3 (Blocked alone)
    ≡ text (codes "o trees" ∷ codes "k 3" ∷ codes "none" ∷ codes "s 1 2 3 4" ∷ codes "c 6" ∷ codes "end" ∷ [])
unfolding text digits trees_text
a_partition_is_printed = refl
