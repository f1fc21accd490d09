-- Generated networks, and summaries, with equal texts are equal.
use Rattle.std.proofs.Common.{◌≡◌, ℕ, ◌+◌, List, [], ◌∷◌, ◌++◌, get_or, Result, Ok, Err, refl, sym, ap, ◌∙◌, append_assoc, arith}
use Rattle.std.specs.Prelude.{ℤ, codes}
use Rattle.std.specs.Fmt.{decimal, signed_decimal}
use Rattle.std.specs.List.{AllByRecursion}
use Rattle.std.proofs.lemmas.List.{append-nil}
use Rattle.pf_model.specs.Network.{Network}
use Rattle.pf_text.specs.declared.TextBad.{TextBad}
use Rattle.pf_text.specs.Kinds.{Accepted, problem_of}
use Rattle.pf_text.specs.Spelling.{line, row_line}
use Rattle.pf_text.proofs.NumbersLemmas.{one_number}
use Rattle.pf_text.proofs.TextLines.{ArePlain, lines_text, same_lines, decimal_plain, signed_plain, same_decimal}
use Rattle.pf_par.specs.Text.{par}
use Rattle.pf_gen.specs.declared.summary.Summary.{Summary}
use Rattle.pf_gen.specs.Generator.{net_of, net_text}
use Rattle.pf_gen.specs.Right.{summary_text}
use Rattle.pf_gen.specs.Laws.{NetworkFromText, SummaryFromText}
use Rattle.pf_gen.proofs.Accepted.{generated_is_accepted}

-- ---- networks: both texts are read, and what a text gives is one network

abbrev accepted : Network → ℕ → Accepted Network
accepted net line = record { problem = net; rest = []; line = line }

-- the problem that was read, or another network where the text was refused
abbrev problem_or : Network → Result (Accepted Network) TextBad → Network
problem_or net (Ok read) = read.problem
problem_or net (Err bad) = net

same_problem : (r : Result (Accepted Network) TextBad) (x y : Network) (k l : ℕ) → r ≡ Ok (accepted x k) → r ≡ Ok (accepted y l) → x ≡ y
same_problem r x y k l e f = ap (problem_or x) (sym e ∙ f)

pub network_from_text : NetworkFromText
network_from_text = λ seed other n m i j low high few low' high' few' e.
    same_problem (problem_of par (net_text seed n m)) (net_of seed n m) (net_of other i j) (m + 5) (j + 5)
    (generated_is_accepted seed n m low high few) (ap (problem_of par) e ∙ generated_is_accepted other i j low' high' few')

-- ---- summaries

abbrev summary_lines : Summary → List (List (List ℕ))
summary_lines s =
    (codes "o" ∷ codes "generate" ∷ [])
    ∷ (codes "g" ∷ decimal s.nodes ∷ decimal s.arcs ∷ decimal s.segments ∷ signed_decimal s.low_value ∷ signed_decimal s.high_value ∷ []) ∷ (codes "end" ∷ []) ∷ []

three : (a b c : List ℕ) → a ++ b ++ c ≡ a ++ (b ++ (c ++ []))
three a b c = simp (append_assoc, append-nil)

text_is : (s : Summary) → summary_text s ≡ lines_text (summary_lines s)
unfolding summary_text
text_is s =
    three (line (codes "o" ∷ codes "generate" ∷ [])) (row_line (codes "g") (s.nodes ∷ s.arcs ∷ s.segments ∷ []) (s.low_value ∷ s.high_value ∷ [])) (line (codes "end" ∷ []))

lines_plain : (s : Summary) → AllByRecursion ArePlain (summary_lines s)
lines_plain s = (
  (record { some = omega arith; all = refl }, (record { some = omega arith; all = refl }, tt)),
  (
    (record { some = omega arith; all = refl }, (decimal_plain _, (decimal_plain _, (decimal_plain _, (signed_plain _, (signed_plain _, tt)))))),
    ((record { some = omega arith; all = refl }, tt), tt),
  ),
)

-- field i of the second line
abbrev field_at : ℕ → List (List (List ℕ)) → List ℕ
field_at i lines = get_or (get_or lines 1 []) i []

abbrev pub summary_of : ℕ → ℕ → ℕ → ℤ → ℤ → Summary
summary_of nodes arcs segments low high = record { nodes = nodes; arcs = arcs; segments = segments; low_value = low; high_value = high }

pub same_parts : (n n' m m' k k' : ℕ) (x x' y y' : ℤ) → n ≡ n' → m ≡ m' → k ≡ k' → x ≡ x' → y ≡ y' → summary_of n m k x y ≡ summary_of n' m' k' x' y'
same_parts n n' m m' k k' x x' y y' d e f g h = cc

pub summary_from_text : SummaryFromText
summary_from_text = λ a b sa sb e.
    let lines : summary_lines a ≡ summary_lines b = same_lines (summary_lines a) (summary_lines b) (lines_plain a) (lines_plain b) (sym (text_is a) ∙ e ∙ text_is b) in
    same_parts a.nodes b.nodes a.arcs b.arcs a.segments b.segments a.low_value b.low_value a.high_value b.high_value
    (same_decimal a.nodes b.nodes sa.nodes sb.nodes (ap (field_at 1) lines)) (same_decimal a.arcs b.arcs sa.arcs sb.arcs (ap (field_at 2) lines))
    (same_decimal a.segments b.segments sa.segments sb.segments (ap (field_at 3) lines))
    (one_number a.low_value b.low_value sa.low_value sb.low_value (ap (field_at 4) lines)) (one_number a.high_value b.high_value sa.high_value sb.high_value (ap (field_at 5) lines))
