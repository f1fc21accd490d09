-- Arcs and their words, one after another.
use Rattle.std.proofs.Common.{◌≡◌, ◌≢◌, ℕ, suc, ◌+◌, ◌*◌, ◌%◌, eqb, false, List, [], ◌∷◌, ◌++◌, map, add-one, refl, sym, ap, ◌∙◌, append_assoc, arith, to_z, of_z, w64, ◌≤◌}
use Rattle.std.proofs.lemmas.Bool.Decides.{nat_tests}
use Rattle.std.proofs.lemmas.List.{append-nil, map-append}
use Rattle.std.specs.Prelude.{ℤ, nat_abs, codes}
use Rattle.std.proofs.lemmas.Int.{ints}
use Rattle.std.specs.Fmt.{decimal}
use Rattle.rand_pcg.specs.Lcg.{Lcg}
use Rattle.pf_model.specs.declared.AffineArc.{AffineArc}
use Rattle.pf_text.specs.Numbers.{billion}
use Rattle.pf_text.specs.Spelling.{line, rest_of_line}
use Rattle.pf_text.proofs.SpellingLemmas.{line_is}
use Rattle.pf_gen.specs.declared.drawing.Words.{Words}
use Rattle.pf_gen.specs.Generator.{source_arc, sink_arc, inner_arc, drawn_arc, behind, generator_behind, three_words, words_from, drawn_arcs, arc_fields, front_lines, text_of_lines, net_text}
use Rattle.pf_gen.proofs.Accepted.{text_of_lines-append}

other : (a b : ℕ) → a ≢ b → eqb a b ≡ false
other a b differ = grind (arith, nat_tests)

pub drawn_source : (n k : ℕ) (w : Words) → k % 4 ≡ 0 → source_arc n w ≡ drawn_arc n k w
unfolding drawn_arc
drawn_source n k w e = rw e refl

pub drawn_sink : (n k : ℕ) (w : Words) → k % 4 ≡ 1 → sink_arc n w ≡ drawn_arc n k w
unfolding drawn_arc
drawn_sink n k w e = rw e refl

pub drawn_inner : (n k : ℕ) (w : Words) → k % 4 ≢ 0 → k % 4 ≢ 1 → inner_arc n w ≡ drawn_arc n k w
unfolding drawn_arc
drawn_inner n k w first second = let a = other (k % 4) 0 first in let b = other (k % 4) 1 second in rw (a, b) refl

words_are : (seed i : ℕ) → words_from seed i ≡ three_words (generator_behind seed i)
words_are seed i = let one : i + 1 ≡ suc i = add-one i in let two : i + 2 ≡ suc (suc i) = omega arith in rw (one, two) refl

pub three_more : (seed i : ℕ) (old new : Lcg) → old ≡ generator_behind seed (3 * i) → new ≡ behind (behind (behind old)) → new ≡ generator_behind seed (3 * (i + 1))
three_more seed i old new was moved =
    let more : suc (suc (suc (3 * i))) ≡ 3 * (i + 1) = omega arith in
    moved ∙ ap (λ (g : Lcg). behind (behind (behind g))) was ∙ ap (generator_behind seed) more

-- after the lines before the arcs
pub text_begins : (empty text front : List ℕ) → empty ≡ [] → text ≡ empty ++ front → text ≡ front ++ []
text_begins empty text front none added = added ∙ ap (λ (t : List ℕ). t ++ front) none ∙ sym (append-nil front)

-- the text of one arc more
pub text_more : (front text new : List ℕ) (seed n i : ℕ) (generator : Lcg) → text ≡ front ++ text_of_lines (map arc_fields (drawn_arcs seed n i)) → generator ≡ generator_behind seed (3 * i)
    → new ≡ text ++ line (arc_fields (drawn_arc n (i + 1) (three_words generator))) → new ≡ front ++ text_of_lines (map arc_fields (drawn_arcs seed n (i + 1)))
text_more front text new seed n i generator was at added =
    let words : three_words generator ≡ words_from seed (3 * i) = ap three_words at ∙ sym (words_are seed (3 * i)) in
    let before : List ℕ = text_of_lines (map arc_fields (drawn_arcs seed n i)) in
    let spelled : ℕ → Words → List ℕ = λ k w. line (arc_fields (drawn_arc n k w)) in
    let last : AffineArc = drawn_arc n (suc i) (words_from seed (3 * i)) in
    let same : spelled (i + 1) (three_words generator) ≡ spelled (suc i) (words_from seed (3 * i)) = ap (λ k. spelled k (three_words generator)) (add-one i) ∙ ap (spelled (suc i)) words in
    let arcs : text_of_lines (map arc_fields (drawn_arcs seed n (suc i))) ≡ before ++ line (arc_fields last) =
    ap text_of_lines (map-append arc_fields (drawn_arcs seed n i) (last ∷ [])) ∙ text_of_lines-append (map arc_fields (drawn_arcs seed n i)) (arc_fields last ∷ [])
    ∙ ap (λ (t : List ℕ). before ++ t) (append-nil (line (arc_fields last))) in
    added ∙ ap (λ (t : List ℕ). t ++ spelled (i + 1) (three_words generator)) was ∙ ap (λ (t : List ℕ). (front ++ before) ++ t) same
    ∙ append_assoc front before (line (arc_fields last)) ∙ ap (λ (t : List ℕ). front ++ t) (sym arcs)
    ∙ ap (λ k. front ++ text_of_lines (map arc_fields (drawn_arcs seed n k))) (sym (add-one i))

-- the whole text
pub text_whole : (text new : List ℕ) (seed n m i : ℕ) → i ≡ m → text ≡ text_of_lines (front_lines n m) ++ text_of_lines (map arc_fields (drawn_arcs seed n i))
    → new ≡ text ++ 101 ∷ 110 ∷ 100 ∷ 10 ∷ [] → new ≡ net_text seed n m
unfolding net_text
text_whole text new seed n m i all was added =
    let arcs : List (List (List ℕ)) = map arc_fields (drawn_arcs seed n m) in
    let end : List (List (List ℕ)) = (codes "end" ∷ []) ∷ [] in
    let lines : text_of_lines ((front_lines n m ++ arcs) ++ end) ≡ (text_of_lines (front_lines n m) ++ text_of_lines arcs) ++ text_of_lines end =
    text_of_lines-append (front_lines n m ++ arcs) end ∙ ap (λ (t : List ℕ). t ++ text_of_lines end) (text_of_lines-append (front_lines n m) arcs) in
    added ∙ ap (λ (t : List ℕ). t ++ 101 ∷ 110 ∷ 100 ∷ 10 ∷ []) was
    ∙ ap (λ k. (text_of_lines (front_lines n m) ++ text_of_lines (map arc_fields (drawn_arcs seed n k))) ++ 101 ∷ 110 ∷ 100 ∷ 10 ∷ []) all ∙ sym lines

-- ---- lines, piece by piece

behind_piece : (t0 t1 t2 p q : List ℕ) → t1 ≡ t0 ++ p → t2 ≡ t1 ++ q → t2 ≡ t0 ++ (p ++ q)
behind_piece t0 t1 t2 p q e1 e2 = e2 ∙ ap (λ (t : List ℕ). t ++ q) e1 ∙ append_assoc t0 p q

pub arc_line : (a b c d t0 t1 t2 t3 t4 t5 t6 : List ℕ) → t1 ≡ t0 ++ 97 ∷ [] → t2 ≡ t1 ++ 32 ∷ a → t3 ≡ t2 ++ 32 ∷ b → t4 ≡ t3 ++ 32 ∷ c → t5 ≡ t4 ++ 32 ∷ d → t6 ≡ t5 ++ 10 ∷ []
    → t6 ≡ t0 ++ line (codes "a" ∷ a ∷ b ∷ c ∷ d ∷ [])
arc_line a b c d t0 t1 t2 t3 t4 t5 t6 e1 e2 e3 e4 e5 e6 =
    let s5 = behind_piece t4 t5 t6 (32 ∷ d) (10 ∷ []) e5 e6 in
    let s4 = behind_piece t3 t4 t6 (32 ∷ c) (rest_of_line (d ∷ [])) e4 s5 in
    let s3 = behind_piece t2 t3 t6 (32 ∷ b) (rest_of_line (c ∷ d ∷ [])) e3 s4 in
    let s2 = behind_piece t1 t2 t6 (32 ∷ a) (rest_of_line (b ∷ c ∷ d ∷ [])) e2 s3 in
    behind_piece t0 t1 t6 (97 ∷ []) (rest_of_line (a ∷ b ∷ c ∷ d ∷ [])) e1 s2 ∙ ap (λ (t : List ℕ). t0 ++ t) (line_is (codes "a") (a ∷ b ∷ c ∷ d ∷ []))

two_then : (a b rest : List ℕ) → (a ++ 32 ∷ (b ++ 10 ∷ [])) ++ rest ≡ a ++ 32 ∷ (b ++ 10 ∷ rest)
two_then a b rest = append_assoc a (32 ∷ (b ++ 10 ∷ [])) rest ∙ ap (λ (t : List ℕ). a ++ 32 ∷ t) (append_assoc b (10 ∷ []) rest)

header_then : (a b rest : List ℕ) → line (codes "p" ∷ codes "par" ∷ a ∷ b ∷ []) ++ rest ≡ codes "p par" ++ ((32 ∷ a) ++ ((32 ∷ b) ++ (10 ∷ rest)))
header_then a b rest =
    ap (λ (t : List ℕ). t ++ rest) (sym (line_is (codes "p") (codes "par" ∷ a ∷ b ∷ []))) ∙ ap (λ (t : List ℕ). codes "p par" ++ (32 ∷ t)) (two_then a b rest)

sink_line : (a : List ℕ) → line (codes "n" ∷ a ∷ codes "t" ∷ []) ++ [] ≡ codes "n" ++ ((32 ∷ a) ++ (32 ∷ 116 ∷ 10 ∷ []))
sink_line a = append-nil (line (codes "n" ∷ a ∷ codes "t" ∷ [])) ∙ sym (line_is (codes "n") (a ∷ codes "t" ∷ []))

abbrev interval_line : List ℕ
interval_line = line (codes "i" ∷ codes "0" ∷ codes "1" ∷ codes "1000" ∷ codes "1" ∷ [])

abbrev source_line : List ℕ
source_line = line (codes "n" ∷ codes "1" ∷ codes "s" ∷ [])

abbrev between : List ℕ
between = (10 ∷ codes "i 0 1 1000 1") ++ ((10 ∷ codes "n 1 s") ++ (10 ∷ codes "n"))

pub front_text : (n m : ℕ) (t0 t1 t2 t3 t4 t5 t6 : List ℕ) → t1 ≡ t0 ++ codes "p par" → t2 ≡ t1 ++ 32 ∷ decimal n → t3 ≡ t2 ++ 32 ∷ decimal m
    → t4 ≡ t3 ++ between → t5 ≡ t4 ++ 32 ∷ decimal n → t6 ≡ t5 ++ 32 ∷ 116 ∷ 10 ∷ []
    → t6 ≡ t0 ++ text_of_lines (front_lines n m)
front_text n m t0 t1 t2 t3 t4 t5 t6 e1 e2 e3 e4 e5 e6 =
    let last : List ℕ = (32 ∷ decimal n) ++ (32 ∷ 116 ∷ 10 ∷ []) in
    let s5 = behind_piece t4 t5 t6 (32 ∷ decimal n) (32 ∷ 116 ∷ 10 ∷ []) e5 e6 in
    let s4 = behind_piece t3 t4 t6 between last e4 s5 in
    let s3 = behind_piece t2 t3 t6 (32 ∷ decimal m) (between ++ last) e3 s4 in
    let s2 = behind_piece t1 t2 t6 (32 ∷ decimal n) ((32 ∷ decimal m) ++ (between ++ last)) e2 s3 in
    let lines : text_of_lines (front_lines n m) ≡ codes "p par" ++ ((32 ∷ decimal n) ++ ((32 ∷ decimal m) ++ (between ++ last))) =
    header_then (decimal n) (decimal m) (interval_line ++ (source_line ++ (line (codes "n" ∷ decimal n ∷ codes "t" ∷ []) ++ [])))
    ∙ ap (λ (t : List ℕ). codes "p par" ++ ((32 ∷ decimal n) ++ ((32 ∷ decimal m) ++ (10 ∷ (interval_line ++ (source_line ++ t)))))) (sink_line (decimal n)) in
    behind_piece t0 t1 t6 (codes "p par") ((32 ∷ decimal n) ++ ((32 ∷ decimal m) ++ (between ++ last))) e1 s2 ∙ ap (λ (t : List ℕ). t0 ++ t) (sym lines)

-- a number that is passed on
pub comes_back : (z : ℤ) → nat_abs z ≤ billion → to_z w64 (of_z w64 z) ≡ z
comes_back z small = omega (arith, ints, small)
