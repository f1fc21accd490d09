-- Words and texts that were drawn elsewhere: worked rows, by computation alone.
use Rattle.std.proofs.Common.{◌≡◌, [], ◌∷◌, refl}
use Rattle.std.specs.Prelude.{codes}
use Rattle.std.specs.Fmt.{digits}
use Rattle.pf_text.proofs.Rows.{text}
use Rattle.pf_gen.specs.Generator.{word_of, behind, first_generator, word_at, drawn_arc, net_text}

-- the first words that the reference code of PCG prints for the seed 42 and the stream 54
first_word : word_at 42 0 ≡ 0xa15c02b7
unfolding word_of behind first_generator
first_word = refl

sixth_word : word_at 42 5 ≡ 0xcbed606e
unfolding word_of behind first_generator
sixth_word = refl

no_arcs : net_text 7 3 0
    ≡ text (codes "p par 3 0" ∷ codes "i 0 1 1000 1" ∷ codes "n 1 s" ∷ codes "n 3 t" ∷ codes "end" ∷ [])
unfolding text digits net_text
no_arcs = refl

five_arcs : net_text 42 5 5
    ≡ text (codes "p par 5 5" ∷ codes "i 0 1 1000 1" ∷ codes "n 1 s" ∷ codes "n 5 t" ∷ codes "a 2 5 6851 -6" ∷ codes "a 3 3 653 0" ∷ codes "a 4 2 728 0" ∷ codes "a 1 4 347 53" ∷ codes "a 3 5 929 0" ∷ codes "end" ∷ [])
unfolding text digits net_text word_of behind first_generator drawn_arc
five_arcs = refl
