-- The lines of an answer's text, one after the other.
use Rattle.std.proofs.Common.{◌≡◌, ℕ, List, [], ◌∷◌, ◌++◌, append_assoc}
use Rattle.std.specs.Prelude.{◌↔◌, codes}
use Rattle.pf_text.specs.Spelling.{line, row_line, fraction_line, side_line}
use Rattle.pf_format.proofs.Formats.{Spelling, then, marked, ended, fraction_row, side_row, flow_row}
use Rattle.pf_ratio.specs.Answer.{Parts, answer_text, parts_text, HaveShape}

abbrev pub lines : (name word : List ℕ) (count width : ℕ) → Spelling Parts
lines name word count width =
    marked (codes "o ") (marked name (marked (10 ∷ []) (then (fraction_row word) (then (side_row (codes "s") count) (ended (flow_row (codes "f") width) (line (codes "end" ∷ [])))))))

seven : (a b c d e f g : List ℕ) → a ++ (b ++ (c ++ (d ++ (e ++ (f ++ g))))) ≡ (a ++ (b ++ c)) ++ d ++ e ++ f ++ g
seven a b c d e f g = simp append_assoc

pub spelled_is : (name word : List ℕ) (count width : ℕ) (p : Parts) → (lines name word count width).text p ≡ parts_text name word p
unfolding answer_text
spelled_is name word count width p =
    seven (codes "o ") name (10 ∷ []) (fraction_line word [] p.0 []) (side_line (codes "s") [] [] p.1.0) (row_line (codes "f") [] p.1.1) (line (codes "end" ∷ []))

pub fits : (name word : List ℕ) (count width : ℕ) (p : Parts) → (lines name word count width).Is p ↔ HaveShape count width p
fits name word count width p = (
  λ f. record { ratio = f.0; chosen = f.1.0; full = f.1.1.full; each = f.1.1.each },
  λ s. (s.ratio, (s.chosen, record { full = s.full; each = s.each })),
)
