-- The lines of thresholds, printed one after another.
use Rattle.std.proofs.Common.{◌≡◌, ℕ, ◌+◌, ◌<◌, List, [], ◌∷◌, ◌++◌, length, drop, map, add-one, arith, sym, ap, ◌∙◌}
use Rattle.std.specs.Prelude.{ℤ, pos, codes}
use Rattle.std.specs.Fmt.{decimal, signed_decimal}
use Rattle.std.proofs.Math.Seq.{drop-cons}
use Rattle.pf_model.specs.Cut.{at_arc}
use Rattle.pf_text.specs.Spelling.{head_text, label_line}
use Rattle.pf_text.proofs.SpellingLemmas.{line_is, head_then}
use Rattle.pf_model.specs.Fraction.{Fraction}
use Rattle.pf_graph.specs.WeightedGraph.{WeightedGraph}
use Rattle.pf_graph.specs.Best.{partition_at}
use Rattle.pf_reinforce.specs.declared.reinforcement.Reinforcement.{Reinforcement}
use Rattle.pf_reinforce.specs.declared.reinforcement.Reinforcement.TheVariants.{Added, Blocked}
use Rattle.pf_reinforce.specs.Answer.{Answers}
use Rattle.pf_reinforce.specs.Text.{threshold_line, thresholds_text, IsTextShape}

-- the number of the line and its price, and then the labels as a line without a word
pub threshold_pieces : (j : ℕ) (price : ℤ) (labels : List ℕ) →
    head_text (codes "t") (j ∷ []) ++ ((32 ∷ signed_decimal price) ++ label_line [] [] labels) ≡ threshold_line j price labels
threshold_pieces j price labels =
    ap (λ (rest : List ℕ). head_text (codes "t") (j ∷ []) ++ ((32 ∷ signed_decimal price) ++ rest)) (sym (line_is [] (map decimal labels)))
    ∙ head_then (codes "t") (j ∷ []) (signed_decimal price ∷ map decimal labels)

-- the next threshold, and those after it
pub thresholds_text_at : (prices : List ℤ) (partitions : List (List ℕ)) (j : ℕ) → j < length prices → length partitions ≡ length prices →
    thresholds_text j (drop j prices) (drop j partitions)
    ≡ threshold_line (j + 1) (at_arc prices j) (partition_at partitions j) ++ thresholds_text (j + 1) (drop (j + 1) prices) (drop (j + 1) partitions)
thresholds_text_at prices partitions j low count =
    let next : drop j prices ≡ at_arc prices j ∷ drop (j + 1) prices = rw add-one (drop-cons prices j (pos 0) low) in
    let beside : drop j partitions ≡ partition_at partitions j ∷ drop (j + 1) partitions = rw add-one (drop-cons partitions j [] (omega (arith, low, count))) in
    ap (λ (ps : List ℤ). thresholds_text j ps (drop j partitions)) next
    ∙ ap (λ (ls : List (List ℕ)). thresholds_text j (at_arc prices j ∷ drop (j + 1) prices) ls) beside

-- an answer has the shape that is printed
pub text_shape : (g : WeightedGraph) (x : Fraction) (answer : Reinforcement) → Answers g x answer → IsTextShape answer
text_shape g x (Added a) means = means.shape.count
text_shape g x (Blocked labels) means = tt
