-- The parts of the text of an answer, one after the other.
use Rattle.std.proofs.Common.{◌≡◌, ℕ, ◌≤◌, List, [], ◌∷◌, ◌++◌, length, append_assoc, arith, ap, sym, subst, ◌∙◌, length-append}
use Rattle.std.specs.Prelude.{ℤ, All, codes}
use Rattle.pf_model.specs.Fraction.{Fraction}
use Rattle.pf_model.specs.Answer.{IsFractionShape}
use Rattle.pf_text.specs.Spelling.{line, row_line}
use Rattle.pf_lines.specs.Taking.{IsFlowRow}
use Rattle.pf_share.specs.Problem.{ShareProblem}
use Rattle.pf_share.specs.Certificate.{SharesAnswer}
use Rattle.pf_share.specs.Right.{IsGroupsShape, IsSharesShape}
use Rattle.pf_share.specs.Taken.{front_text, front_of, IsFrontShape}
use Rattle.pf_share.specs.Text.{levels_text, shares_lines, shares_text}
use Rattle.pf_share.proofs.ShareLines.{levels_bytes}

abbrev pub answer_of : List Fraction → List ℤ → List ℤ → SharesAnswer
answer_of levels groups flow = record { levels = levels; groups = groups; flow = flow }

pub same_answer : (levels levels' : List Fraction) (groups groups' flow flow' : List ℤ) → levels ≡ levels' → groups ≡ groups' → flow ≡ flow' →
    answer_of levels groups flow ≡ answer_of levels' groups' flow'
same_answer levels levels' groups groups' flow flow' e f g = cc

-- ---- the number of levels, the levels, and the groups

abbrev pub row_of_groups : List ℤ → List ℕ → List ℕ
row_of_groups groups rest = row_line (codes "m") [] groups ++ rest

abbrev pub level_lines : List Fraction → List ℤ → List ℕ → List ℕ
level_lines levels groups rest = levels_text 0 levels ++ row_of_groups groups rest

three : (a b c rest : List ℕ) → (a ++ (b ++ c)) ++ rest ≡ a ++ (b ++ (c ++ rest))
three a b c rest = simp append_assoc

pub front_lines : (levels : List Fraction) (groups : List ℤ) (rest : List ℕ) →
    front_text levels groups ++ rest ≡ row_line (codes "k") (length levels ∷ []) [] ++ level_lines levels groups rest
front_lines levels groups rest = three (row_line (codes "k") (length levels ∷ []) []) (levels_text 0 levels) (row_line (codes "m") [] groups) rest

pub levels_are_few : (levels : List Fraction) (groups : List ℤ) (rest : List ℕ) → length levels ≤ length (level_lines levels groups rest)
levels_are_few levels groups rest =
    let bytes = levels_bytes 0 levels in
    omega (arith, bytes, length-append (levels_text 0 levels) (row_of_groups groups rest))

pub front_taken : (old a b new : List ℕ) (count : ℕ) (levels : List Fraction) (groups : List ℤ) → old ≡ row_line (codes "k") (count ∷ []) [] ++ a →
    a ≡ levels_text 0 levels ++ b → b ≡ row_line (codes "m") [] groups ++ new → length levels ≡ count → old ≡ front_text levels groups ++ new
front_taken old a b new count levels groups first second third full =
    let e : a ≡ level_lines levels groups new = second ∙ ap (λ (t : List ℕ). levels_text 0 levels ++ t) third in
    first ∙ ap (λ (t : List ℕ). row_line (codes "k") (count ∷ []) [] ++ t) e
    ∙ ap (λ (n : ℕ). row_line (codes "k") (n ∷ []) [] ++ level_lines levels groups new) (sym full)
    ∙ sym (front_lines levels groups new)

pub groups_shape : (p : ShareProblem) (count : ℕ) (levels : List Fraction) (groups : List ℤ) → count ≡ length levels → IsFrontShape p (front_of levels groups) → IsGroupsShape p count groups
groups_shape p count levels groups e shape = let P : ℕ → Type 0 = λ n. IsGroupsShape p n groups in subst P (sym e) shape.groups

pub front_shape : (p : ShareProblem) (count : ℕ) (levels : List Fraction) (groups : List ℤ) → length levels ≡ count → All IsFractionShape levels → IsGroupsShape p count groups →
    IsFrontShape p (front_of levels groups)
front_shape p count levels groups full each shape =
    let P : ℕ → Type 0 = λ n. IsGroupsShape p n groups in
    record { levels = each; groups = subst P (sym full) shape }

-- ---- the whole answer

-- what stands after the numbers on the arcs, after the shares, after the groups, and after the first line
abbrev pub last_lines : List ℕ → List ℕ
last_lines rest = line (codes "end" ∷ []) ++ rest

abbrev pub flow_lines : List ℤ → List ℕ → List ℕ
flow_lines flow rest = row_line (codes "f") [] flow ++ last_lines rest

abbrev pub node_lines : ShareProblem → SharesAnswer → List ℕ → List ℕ
node_lines p a rest = shares_lines a.levels 0 p.weights a.groups ++ flow_lines a.flow rest

abbrev pub later_lines : ShareProblem → SharesAnswer → List ℕ → List ℕ
later_lines p a rest = front_text a.levels a.groups ++ node_lines p a rest

seven : (a b c d e f g rest : List ℕ) → (a ++ b ++ c ++ d ++ e ++ f ++ g) ++ rest ≡ a ++ ((b ++ (c ++ d)) ++ (e ++ (f ++ (g ++ rest))))
seven a b c d e f g rest = simp append_assoc

pub all_lines : (p : ShareProblem) (a : SharesAnswer) (rest : List ℕ) → shares_text p a ++ rest ≡ line (codes "o" ∷ codes "share" ∷ []) ++ later_lines p a rest
unfolding shares_text
all_lines p a rest =
    seven (line (codes "o" ∷ codes "share" ∷ [])) (row_line (codes "k") (length a.levels ∷ []) []) (levels_text 0 a.levels) (row_line (codes "m") [] a.groups)
    (shares_lines a.levels 0 p.weights a.groups) (row_line (codes "f") [] a.flow) (line (codes "end" ∷ [])) rest

-- what was taken piece by piece
pub text_taken : (p : ShareProblem) (old a b c d new : List ℕ) (levels : List Fraction) (groups flow : List ℤ) → old ≡ line (codes "o" ∷ codes "share" ∷ []) ++ a →
    a ≡ front_text levels groups ++ b → b ≡ shares_lines levels 0 p.weights groups ++ c → c ≡ row_line (codes "f") [] flow ++ d → d ≡ line (codes "end" ∷ []) ++ new →
    old ≡ shares_text p (answer_of levels groups flow) ++ new
text_taken p old a b c d new levels groups flow first second third fourth fifth =
    let answer = answer_of levels groups flow in
    let e : c ≡ flow_lines flow new = fourth ∙ ap (λ (t : List ℕ). row_line (codes "f") [] flow ++ t) fifth in
    let f : b ≡ node_lines p answer new = third ∙ ap (λ (t : List ℕ). shares_lines levels 0 p.weights groups ++ t) e in
    let g : a ≡ later_lines p answer new = second ∙ ap (λ (t : List ℕ). front_text levels groups ++ t) f in
    first ∙ ap (λ (t : List ℕ). line (codes "o" ∷ codes "share" ∷ []) ++ t) g ∙ sym (all_lines p answer new)

pub front_of_shape : (p : ShareProblem) (a : SharesAnswer) → IsSharesShape p a → IsFrontShape p (front_of a.levels a.groups)
front_of_shape p a shape = record { levels = shape.levels; groups = shape.groups }

pub flow_of_shape : (p : ShareProblem) (a : SharesAnswer) (width : ℕ) → width ≡ length p.ends → IsSharesShape p a → IsFlowRow width a.flow
flow_of_shape p a width e shape = record { full = shape.flow_full ∙ sym e; each = shape.flow }

pub whole_shape : (p : ShareProblem) (front : SharesAnswer) (flow : List ℤ) (width : ℕ) → width ≡ length p.ends → IsFrontShape p front → IsFlowRow width flow →
    IsSharesShape p (answer_of front.levels front.groups flow)
whole_shape p front flow width e shape numbers = record {
  levels = shape.levels;
  groups = shape.groups;
  flow_full = numbers.full ∙ e;
  flow = numbers.each;
}

-- the shares after the groups that were taken are those of the answer
pub behind_front : (p : ShareProblem) (a front : SharesAnswer) (b rest : List ℕ) → front ≡ front_of a.levels a.groups → b ≡ node_lines p a rest →
    b ≡ shares_lines front.levels 0 p.weights front.groups ++ flow_lines a.flow rest
behind_front p a front b rest same there =
    there ∙ ap (λ (x : SharesAnswer). shares_lines x.levels 0 p.weights x.groups ++ flow_lines a.flow rest) (sym same)

pub whole_same : (a front : SharesAnswer) (flow : List ℤ) → front ≡ front_of a.levels a.groups → flow ≡ a.flow → answer_of front.levels front.groups flow ≡ a
whole_same a front flow same equal =
    same_answer front.levels a.levels front.groups a.groups flow a.flow (ap (λ (x : SharesAnswer). x.levels) same) (ap (λ (x : SharesAnswer). x.groups) same) equal

pub front_same : (levels levels' : List Fraction) (groups groups' flow : List ℤ) → levels ≡ levels' → groups ≡ groups' → flow ≡ [] →
    answer_of levels groups flow ≡ front_of levels' groups'
front_same levels levels' groups groups' flow e f none = same_answer levels levels' groups groups' flow [] e f none
