-- Answers of the right shape with equal texts are equal.
use Rattle.std.proofs.Common.{◌≡◌, ℕ, ◌+◌, ◌≤◌, ◌^◌, List, [], ◌∷◌, ◌++◌, length, get_or, map, refl, sym, ap, ◌∙◌, append_assoc, arith}
use Rattle.std.specs.Prelude.{ℤ, codes}
use Rattle.std.specs.List.{AllByRecursion}
use Rattle.std.specs.Fmt.{decimal, signed_decimal}
use Rattle.std.proofs.lemmas.List.{append_cancel_left}
use Rattle.std.proofs.lemmas.List.Elements.{recursion_from_All}
use Rattle.pf_model.specs.Fraction.{Fraction}
use Rattle.pf_model.specs.Answer.{IsWithinSize}
use Rattle.pf_text.specs.Spelling.{line, row_line, fraction_line, label_line, table_text}
use Rattle.pf_text.proofs.SameParts.{within_digits}
use Rattle.pf_text.proofs.NumbersLemmas.{one_number}
use Rattle.pf_text.proofs.TextLines.{signed_plain}
use Rattle.pf_format.specs.Format.{HasOneReading}
use Rattle.pf_format.specs.LineLaws.{labels_plain, line_one, label_row_one, flow_rows_one}
use Rattle.pf_format.proofs.Formats.{Spelling, then, fraction_row, flow_row}
use Rattle.pf_format.proofs.ItemLaws.{number_row_one, count_left}
use Rattle.pf_graph.specs.WeightedGraph.{WeightedGraph}
use Rattle.pf_graph.specs.Labels.{IsPartition}
use Rattle.pf_graph.specs.Limits.{IsWithinLimits}
use Rattle.pf_graph.proofs.LineLabels.{labels_of_partition}
use Rattle.pf_strength.proofs.TextLemmas.{row_of_sized, rows_of_sized}
use Rattle.pf_reinforce.specs.declared.reinforcement.Reinforcement.{Reinforcement}
use Rattle.pf_reinforce.specs.declared.reinforcement.Reinforcement.TheVariants.{Added, Blocked}
use Rattle.pf_reinforce.specs.Reinforcement.{AddedAnswer}
use Rattle.pf_reinforce.specs.Answer.{IsSizedAdded, IsReinforcementShape}
use Rattle.pf_reinforce.specs.Text.{threshold_line, thresholds_text, added_text, blocked_text, reinforcement_text}

-- ---- partitions and thresholds

part_one : (n : ℕ) → n ≤ 500 → HasOneReading (label_line (codes "s") []) (IsPartition n)
part_one n few x y rest later a b e =
    label_row_one (codes "s") [] n n (omega (arith, few)) x y rest later (labels_of_partition n x a) (labels_of_partition n y b) e

same_threshold : (n : ℕ) → n ≤ 500 → (x y : ℤ × List ℕ) → IsWithinSize (2 ^ 104) x.0 × IsPartition n x.1 → IsWithinSize (2 ^ 104) y.0 × IsPartition n y.1 →
    signed_decimal x.0 ∷ map decimal x.1 ≡ signed_decimal y.0 ∷ map decimal y.1 → x ≡ y
same_threshold n few (s, p) (t, q) a b e =
    let price : signed_decimal s ≡ signed_decimal t = cc in
    let labels : map decimal p ≡ map decimal q = cc in
    let here = one_number s t (within_digits (2 ^ 104) s (omega arith) a.0) (within_digits (2 ^ 104) t (omega arith) b.0) price in
    let back = (part_one n few p q [] [] a.1 b.1 (ap (λ (fields : List (List ℕ)). line (codes "s" ∷ fields) ++ []) labels)).value in
    cc

threshold_one : (n j : ℕ) → n ≤ 500 → HasOneReading (λ (p : ℤ × List ℕ). threshold_line j p.0 p.1) (λ p. IsWithinSize (2 ^ 104) p.0 × IsPartition n p.1)
threshold_one n j few =
    line_one (codes "t") (j ∷ []) (λ (p : ℤ × List ℕ). signed_decimal p.0 ∷ map decimal p.1) (λ p. IsWithinSize (2 ^ 104) p.0 × IsPartition n p.1)
    (λ p. (signed_plain p.0, labels_plain p.1)) (same_threshold n few)

record AreSameThresholds (a b : List ℤ) (ps qs : List (List ℕ)) (x y : List ℕ) : Type 0 where
  prices : a ≡ b
  parts : ps ≡ qs
  behind : x ≡ y

-- the first byte
abbrev mark : List ℕ → ℕ
mark text = get_or text 0 0

same_thresholds : (n j : ℕ) (a : List ℤ) (ps : List (List ℕ)) (b : List ℤ) (qs : List (List ℕ)) (x y : List ℕ) → n ≤ 500 → length ps ≡ length a → length qs ≡ length b →
    AllByRecursion (IsWithinSize (2 ^ 104)) a → AllByRecursion (IsPartition n) ps → AllByRecursion (IsWithinSize (2 ^ 104)) b → AllByRecursion (IsPartition n) qs →
    (mark x ≡ 116 → ⊥) → (mark y ≡ 116 → ⊥) → thresholds_text j a ps ++ x ≡ thresholds_text j b qs ++ y → AreSameThresholds a b ps qs x y
same_thresholds n j [] [] [] [] x y few full full' sa sp sb sq mx my e = record { prices = refl; parts = refl; behind = e }
same_thresholds n j [] [] [] (q ∷ qs) x y few full full' sa sp sb sq mx my e = absurd (omega (arith, full'))
same_thresholds n j [] [] (t ∷ b) [] x y few full full' sa sp sb sq mx my e = absurd (omega (arith, full'))
same_thresholds n j [] [] (t ∷ b) (q ∷ qs) x y few full full' sa sp sb sq mx my e = absurd (mx (ap mark e))
same_thresholds n j [] (p ∷ ps) b qs x y few full full' sa sp sb sq mx my e = absurd (omega (arith, full))
same_thresholds n j (s ∷ a) [] b qs x y few full full' sa sp sb sq mx my e = absurd (omega (arith, full))
same_thresholds n j (s ∷ a) (p ∷ ps) [] [] x y few full full' sa sp sb sq mx my e = absurd (my (sym (ap mark e)))
same_thresholds n j (s ∷ a) (p ∷ ps) [] (q ∷ qs) x y few full full' sa sp sb sq mx my e = absurd (omega (arith, full'))
same_thresholds n j (s ∷ a) (p ∷ ps) (t ∷ b) [] x y few full full' sa sp sb sq mx my e = absurd (omega (arith, full'))
same_thresholds n j (s ∷ a) (p ∷ ps) (t ∷ b) (q ∷ qs) x y few full full' sa sp sb sq mx my e =
    let first = threshold_one n (j + 1) few (s, p) (t, q) (thresholds_text (j + 1) a ps ++ x) (thresholds_text (j + 1) b qs ++ y) (sa.0, sp.0) (sb.0, sq.0)
    (sym (append_assoc (threshold_line (j + 1) s p) (thresholds_text (j + 1) a ps) x) ∙ e ∙ append_assoc (threshold_line (j + 1) t q) (thresholds_text (j + 1) b qs) y) in
    let later = same_thresholds n (j + 1) a ps b qs x y few (omega (arith, full)) (omega (arith, full')) sa.1 sp.1 sb.1 sq.1 mx my first.left in
    record {
      prices = ap (λ (z : ℤ × List ℕ). z.0 ∷ a) first.value ∙ ap (λ (zs : List ℤ). t ∷ zs) later.prices;
      parts = ap (λ (z : ℤ × List ℕ). z.1 ∷ ps) first.value ∙ ap (λ (zs : List (List ℕ)). q ∷ zs) later.parts;
      behind = later.behind;
    }

-- ---- whole texts

abbrev begin : List ℕ
begin = line (codes "o" ∷ codes "reinforce" ∷ [])

abbrev end : List ℕ
end = line (codes "end" ∷ [])

abbrev Front : Type 0
Front = Fraction × (ℤ × (List ℤ × List ℤ))

-- the level, the cost, what is added and the vector
abbrev front : ℕ → Spelling Front
front width =
    let c : Spelling ℤ = record { text = λ x. row_line (codes "c") [] (x ∷ []); Is = IsWithinSize (2 ^ 127); one = number_row_one (codes "c") [] } in
    then (fraction_row (codes "d")) (then c
    (then (flow_row (codes "x") width) (flow_row (codes "y") width)))

abbrev front_fields : AddedAnswer → Front
front_fields a = (a.level, (a.cost, (a.added, a.vector)))

-- the splits, and what stands behind them
abbrev splits_end : AddedAnswer → List ℕ
splits_end a = table_text (codes "r") 1 a.splits ++ end

-- the lines after the vector
abbrev back : AddedAnswer → List ℕ
back a = row_line (codes "k") (length a.thresholds ∷ []) [] ++ (thresholds_text 0 a.thresholds a.parts ++ splits_end a)

-- the lines after the first
abbrev lines_of : Reinforcement → List ℕ
lines_of (Added a) =
    (fraction_line (codes "d") [] a.level [] ++ (row_line (codes "c") [] (a.cost ∷ []) ++ (row_line (codes "x") [] a.added ++ row_line (codes "y") [] a.vector))) ++ back a
lines_of (Blocked labels) = line (codes "none" ∷ []) ++ (label_line (codes "s") [] labels ++ end)

nine : (a b c d e f g h i : List ℕ) → (a ++ b ++ c ++ d ++ e) ++ (f ++ g ++ h ++ i) ≡ a ++ ((b ++ (c ++ (d ++ e))) ++ (f ++ (g ++ (h ++ i))))
nine a b c d e f g h i = simp append_assoc

four : (a b c d : List ℕ) → a ++ b ++ c ++ d ≡ a ++ (b ++ (c ++ d))
four a b c d = simp append_assoc

text_is : (answer : Reinforcement) → reinforcement_text answer ≡ begin ++ lines_of answer
unfolding added_text blocked_text
text_is (Added a) =
    nine begin (fraction_line (codes "d") [] a.level []) (row_line (codes "c") [] (a.cost ∷ [])) (row_line (codes "x") [] a.added) (row_line (codes "y") [] a.vector)
    (row_line (codes "k") (length a.thresholds ∷ []) []) (thresholds_text 0 a.thresholds a.parts) (table_text (codes "r") 1 a.splits) end
text_is (Blocked labels) = four begin (line (codes "none" ∷ [])) (label_line (codes "s") [] labels) end

not_threshold : (a : AddedAnswer) → mark (splits_end a) ≡ 116 → ⊥
not_threshold a e = by a.splits e
  where
    by : (rows : List (List ℤ)) → mark (table_text (codes "r") 1 rows ++ end) ≡ 116 → ⊥
    by [] f = omega (arith, f)
    by (row ∷ rows) f = omega (arith, f)

abbrev added_of : Fraction → ℤ → List ℤ → List ℤ → List ℤ → List (List ℕ) → List (List ℤ) → AddedAnswer
added_of level cost added vector thresholds parts splits =
    record { level = level; cost = cost; added = added; vector = vector; thresholds = thresholds; parts = parts; splits = splits }

abbrev answer_of : Front → List ℤ → List (List ℕ) → List (List ℤ) → AddedAnswer
answer_of f thresholds parts splits = added_of f.0 f.1.0 f.1.1.0 f.1.1.1 thresholds parts splits

same_answer : (f f' : Front) (t t' : List ℤ) (p p' : List (List ℕ)) (r r' : List (List ℤ)) → f ≡ f' → t ≡ t' → p ≡ p' → r ≡ r' → answer_of f t p r ≡ answer_of f' t' p' r'
same_answer f f' t t' p p' r r' ef et ep er = rw (ef, et, ep, er) refl

one_added : (g : WeightedGraph) (a b : AddedAnswer) → IsWithinLimits g → IsSizedAdded g a → IsSizedAdded g b → lines_of (Added a) ≡ lines_of (Added b) → a ≡ b
one_added g a b limits sa sb e =
    let width = length g.ends in
    let fits : (c : AddedAnswer) → IsSizedAdded g c → (front width).Is (front_fields c) = λ c s. (s.level, (s.cost, (row_of_sized g c.added width refl s.added, row_of_sized g c.vector width refl s.vector))) in
    let first = (front width).one (front_fields a) (front_fields b) (back a) (back b) (fits a sa) (fits b sb) e in
    let counted = count_left (codes "k") (length a.thresholds) (length b.thresholds) (thresholds_text 0 a.thresholds a.parts ++ splits_end a) (thresholds_text 0 b.thresholds b.parts ++ splits_end b) first.left in
    let sized = IsWithinSize (2 ^ 104) in
    let both = same_thresholds g.nodes 0 a.thresholds a.parts b.thresholds b.parts (splits_end a) (splits_end b) limits.nodes sa.count sb.count
    (recursion_from_All sized a.thresholds sa.thresholds) (recursion_from_All (IsPartition g.nodes) a.parts sa.parts)
    (recursion_from_All sized b.thresholds sb.thresholds) (recursion_from_All (IsPartition g.nodes) b.parts sb.parts)
    (not_threshold a) (not_threshold b) counted in
    let splits = flow_rows_one (codes "r") 1 width g.nodes a.splits b.splits end end
    (record { full = sa.rows; each = rows_of_sized g a.splits width refl sa.splits }) (record { full = sb.rows; each = rows_of_sized g b.splits width refl sb.splits }) both.behind in
    same_answer (front_fields a) (front_fields b) a.thresholds b.thresholds a.parts b.parts a.splits b.splits first.value both.prices both.parts splits.value

-- the second line is that of a level, or `none`
same_by : (g : WeightedGraph) (a b : Reinforcement) → IsWithinLimits g → IsReinforcementShape g a → IsReinforcementShape g b → lines_of a ≡ lines_of b → a ≡ b
same_by g (Added a) (Added b) limits sa sb lines = ap Added (one_added g a b limits sa sb lines)
same_by g (Added a) (Blocked labels) limits sa sb lines = absurd (let byte = ap mark lines in omega (arith, byte))
same_by g (Blocked labels) (Added b) limits sa sb lines = absurd (let byte = ap mark lines in omega (arith, byte))
same_by g (Blocked labels) (Blocked labels') limits sa sb lines =
    let behind = append_cancel_left (line (codes "none" ∷ [])) (label_line (codes "s") [] labels ++ end) (label_line (codes "s") [] labels' ++ end) lines in
    ap Blocked (part_one g.nodes limits.nodes labels labels' end end sa sb behind).value

pub one_answer : (g : WeightedGraph) (a b : Reinforcement) → IsWithinLimits g → IsReinforcementShape g a → IsReinforcementShape g b →
    reinforcement_text a ≡ reinforcement_text b → a ≡ b
one_answer g a b limits sa sb e = same_by g a b limits sa sb (append_cancel_left begin (lines_of a) (lines_of b) (sym (text_is a) ∙ e ∙ text_is b))
