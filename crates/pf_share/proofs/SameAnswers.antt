-- Answers of the right shape with equal texts are equal.
use Rattle.std.proofs.Common.{◌≡◌, ℕ, ◌+◌, ◌<◌, ◌^◌, List, [], ◌∷◌, ◌++◌, length, get_or, drop, map, refl, sym, ap, ◌∙◌, subst, append_assoc, arith}
use Rattle.std.specs.Prelude.{◌≢◌, ℤ, pos, nat_abs, All, codes}
use Rattle.std.specs.List.{AllByRecursion}
use Rattle.std.specs.Fmt.{decimal, signed_decimal}
use Rattle.std.proofs.lemmas.Int.{ints}
use Rattle.std.proofs.lemmas.List.{get_or_default}
use Rattle.std.proofs.lemmas.List.Elements.{recursion_from_All}
use Rattle.pf_model.specs.Fraction.{Fraction}
use Rattle.pf_model.specs.Answer.{IsWithinSize, IsFractionShape}
use Rattle.pf_model.specs.Cut.{at_arc}
use Rattle.pf_model.specs.Limits.{capacity_bound}
use Rattle.pf_text.specs.Spelling.{line}
use Rattle.pf_text.proofs.NumbersLemmas.{one_number}
use Rattle.pf_text.proofs.TextLines.{ArePlain, same_line, decimal_plain, signed_plain, numbers_plain}
use Rattle.pf_share.specs.Problem.{ShareProblem}
use Rattle.pf_share.specs.Certificate.{SharesAnswer}
use Rattle.pf_share.specs.Text.{levels_text, shares_lines}
use Rattle.pf_share.specs.Right.{IsSharesShape}
use Rattle.pf_share.specs.Laws.{SharesFromText}
use Rattle.pf_text.proofs.SameParts.{same_fraction}
use Rattle.pf_share.proofs.TextLemmas.{same_answer, row_of_groups, level_lines, front_lines, last_lines, flow_lines, node_lines, later_lines, all_lines}
use Rattle.pf_model.proofs.Facts.{cons_same, same_front}

-- ---- parts

abbrev HasDigits : ℤ → Type 0
HasDigits x = nat_abs x < 10 ^ 64

same_numbers : (a b : List ℤ) → AllByRecursion HasDigits a → AllByRecursion HasDigits b → map signed_decimal a ≡ map signed_decimal b → a ≡ b
same_numbers [] [] sa sb e = refl
same_numbers [] (y ∷ b) sa sb e = absurd cc
same_numbers (x ∷ a) [] sa sb e = absurd cc
same_numbers (x ∷ a) (y ∷ b) sa sb e =
    let first : signed_decimal x ≡ signed_decimal y = cc in
    let later : map signed_decimal a ≡ map signed_decimal b = cc in
    cons_same x y a b (one_number x y sa.0 sb.0 first) (same_numbers a b sa.1 sb.1 later)

-- ---- the levels

-- the first byte
abbrev mark : List ℕ → ℕ
mark text = get_or text 0 0

abbrev level_fields : ℕ → Fraction → List (List ℕ)
level_fields j level = codes "l" ∷ decimal j ∷ signed_decimal level.p ∷ signed_decimal level.q ∷ []

level_plain : (j : ℕ) (level : Fraction) → ArePlain (level_fields j level)
level_plain j level = (record { some = omega arith; all = refl }, (decimal_plain j, (signed_plain _, (signed_plain _, tt))))

levels_then : (j : ℕ) (level : Fraction) (levels : List Fraction) (rest : List ℕ) →
    levels_text j (level ∷ levels) ++ rest ≡ line (level_fields (j + 1) level) ++ (levels_text (j + 1) levels ++ rest)
levels_then j level levels rest = append_assoc (line (level_fields (j + 1) level)) (levels_text (j + 1) levels) rest

first_of_levels : (j : ℕ) (level : Fraction) (levels : List Fraction) (rest : List ℕ) → mark (levels_text j (level ∷ levels) ++ rest) ≡ 108
first_of_levels j level levels rest = refl

record AreSameLevels (a b : List Fraction) (rest rest' : List ℕ) : Type 0 where
  levels : a ≡ b
  behind : rest ≡ rest'

abbrev field_at : ℕ → List (List ℕ) → List ℕ
field_at i fields = get_or fields i []

same_levels : (j : ℕ) (a b : List Fraction) (rest rest' : List ℕ) → AllByRecursion IsFractionShape a → AllByRecursion IsFractionShape b →
    mark rest ≢ 108 → mark rest' ≢ 108 → levels_text j a ++ rest ≡ levels_text j b ++ rest' → AreSameLevels a b rest rest'
same_levels j [] [] rest rest' sa sb other other' e = record { levels = refl; behind = e }
same_levels j [] (y ∷ b) rest rest' sa sb other other' e = absurd (other (ap mark e ∙ first_of_levels j y b rest'))
same_levels j (x ∷ a) [] rest rest' sa sb other other' e = absurd (other' (sym (ap mark e) ∙ first_of_levels j x a rest))
same_levels j (x ∷ a) (y ∷ b) rest rest' sa sb other other' e =
    let first = same_line (level_fields (j + 1) x) (level_fields (j + 1) y) _ _ (level_plain (j + 1) x) (level_plain (j + 1) y)
    (sym (levels_then j x a rest) ∙ e ∙ levels_then j y b rest') in
    let here = same_fraction x y sa.0 sb.0 (ap (field_at 2) first.same_parts) (ap (field_at 3) first.same_parts) in
    let back = same_levels (j + 1) a b rest rest' sa.1 sb.1 other other' first.same_rest in
    record { levels = cons_same x y a b here back.levels; behind = back.behind }

groups_mark : (groups : List ℤ) (rest : List ℕ) → mark (row_of_groups groups rest) ≢ 108
groups_mark [] rest same = let byte : 109 ≡ 108 = same in omega (arith, byte)
groups_mark (g ∷ groups) rest same = let byte : 109 ≡ 108 = same in omega (arith, byte)

-- ---- the whole answer

few_digits : (p : ShareProblem) (a : SharesAnswer) → IsSharesShape p a → length a.levels < 10 ^ 64 → All HasDigits a.groups
few_digits p a shape few = λ i d low.
    let full = shape.groups.full in
    let there : i < p.nodes = omega (arith, low, full) in
    let l = shape.groups.low i there in
    let h = shape.groups.high i there in
    let same : get_or a.groups i d ≡ at_arc a.groups i = get_or_default a.groups i d (pos 0) low in
    omega (arith, ints, l, h, same, few)

flow_digits : (flow : List ℤ) → All (IsWithinSize capacity_bound) flow → All HasDigits flow
flow_digits flow each = λ i d low. let s = each i d low in let l = s.low in let h = s.high in omega (arith, ints, l, h)

pub one_answer : SharesFromText
one_answer p a b sa sb few e =
    let word : ArePlain (codes "o" ∷ codes "share" ∷ []) = (record { some = omega arith; all = refl }, (record { some = omega arith; all = refl }, tt)) in
    let plain : (n : ℕ) → ArePlain (codes "k" ∷ decimal n ∷ []) = λ n. (record { some = omega arith; all = refl }, (decimal_plain n, tt)) in
    let row : (numbers : List ℤ) → ArePlain (codes "m" ∷ map signed_decimal numbers) = λ numbers. (record { some = omega arith; all = refl }, numbers_plain numbers) in
    let last : (numbers : List ℤ) → ArePlain (codes "f" ∷ map signed_decimal numbers) = λ numbers. (record { some = omega arith; all = refl }, numbers_plain numbers) in
    let whole = sym (all_lines p a []) ∙ ap (λ (t : List ℕ). t ++ []) e ∙ all_lines p b [] in
    let first = same_line (codes "o" ∷ codes "share" ∷ []) (codes "o" ∷ codes "share" ∷ []) (later_lines p a []) (later_lines p b []) word word whole in
    let front = sym (front_lines a.levels a.groups (node_lines p a [])) ∙ first.same_rest ∙ front_lines b.levels b.groups (node_lines p b []) in
    let count = same_line (codes "k" ∷ decimal (length a.levels) ∷ []) (codes "k" ∷ decimal (length b.levels) ∷ []) (level_lines a.levels a.groups (node_lines p a []))
    (level_lines b.levels b.groups (node_lines p b [])) (plain (length a.levels)) (plain (length b.levels)) front in
    let levels = same_levels 0 a.levels b.levels (row_of_groups a.groups (node_lines p a [])) (row_of_groups b.groups (node_lines p b []))
    (recursion_from_All IsFractionShape a.levels sa.levels) (recursion_from_All IsFractionShape b.levels sb.levels) (groups_mark a.groups (node_lines p a []))
    (groups_mark b.groups (node_lines p b [])) count.same_rest in
    let few' : length b.levels < 10 ^ 64 = subst (λ (l : List Fraction). length l < 10 ^ 64) levels.levels few in
    let middle = same_line (codes "m" ∷ map signed_decimal a.groups) (codes "m" ∷ map signed_decimal b.groups) (node_lines p a []) (node_lines p b []) (row a.groups) (row b.groups) levels.behind in
    let groups = same_numbers a.groups b.groups (recursion_from_All HasDigits a.groups (few_digits p a sa few)) (recursion_from_All HasDigits b.groups (few_digits p b sb few'))
    (ap (λ (fields : List (List ℕ)). drop 1 fields) middle.same_parts) in
    let nodes : shares_lines a.levels 0 p.weights a.groups ++ flow_lines a.flow [] ≡ shares_lines a.levels 0 p.weights a.groups ++ flow_lines b.flow [] =
    middle.same_rest ∙ ap (λ (l : List Fraction). shares_lines l 0 p.weights b.groups ++ flow_lines b.flow []) (sym levels.levels)
    ∙ ap (λ (g : List ℤ). shares_lines a.levels 0 p.weights g ++ flow_lines b.flow []) (sym groups) in
    let arcs = same_line (codes "f" ∷ map signed_decimal a.flow) (codes "f" ∷ map signed_decimal b.flow) (last_lines []) (last_lines []) (last a.flow) (last b.flow)
    (same_front (shares_lines a.levels 0 p.weights a.groups) (flow_lines a.flow []) (flow_lines b.flow []) nodes) in
    let flow = same_numbers a.flow b.flow (recursion_from_All HasDigits a.flow (flow_digits a.flow sa.flow)) (recursion_from_All HasDigits b.flow (flow_digits b.flow sb.flow))
    (ap (λ (fields : List (List ℕ)). drop 1 fields) arcs.same_parts) in
    same_answer a.levels b.levels a.groups b.groups a.flow b.flow levels.levels groups flow
