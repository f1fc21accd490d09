-- Answers of the right shape with equal texts are equal.
use Rattle.std.proofs.Common.{◌≡◌, ℕ, ◌<◌, ◌^◌, List, [], ◌∷◌, ◌++◌, length, get_or, drop, map, refl, sym, ap, ◌∙◌, append_assoc, arith}
use Rattle.std.specs.Prelude.{ℤ, Bool, codes}
use Rattle.std.specs.List.{AllByRecursion}
use Rattle.std.specs.Fmt.{signed_decimal}
use Rattle.std.proofs.lemmas.List.{append-nil}
use Rattle.std.proofs.lemmas.List.Elements.{recursion_from_All}
use Rattle.pf_model.specs.Fraction.{Fraction}
use Rattle.pf_model.specs.Network.{Network, IsNetworkCut}
use Rattle.pf_model.specs.Answer.{Point, IsWithinSize, IsFlowShape, IsPointShape}
use Rattle.pf_text.specs.Spelling.{line}
use Rattle.pf_par.specs.Answers.{point_fields, cut_fields, point_text}
use Rattle.pf_text.proofs.SameParts.{same_fraction, same_numbers}
use Rattle.pf_text.proofs.TextLines.{ArePlain, lines_text, same_lines, signed_plain, numbers_plain, side_plain, same_side}

-- ---- parts

pub same_flow : (net : Network) (a b : List ℤ) → IsFlowShape net a → IsFlowShape net b → map signed_decimal a ≡ map signed_decimal b → a ≡ b
same_flow net a b sa sb e = same_numbers a b (recursion_from_All (IsWithinSize (2 ^ 104)) a sa.each) (recursion_from_All (IsWithinSize (2 ^ 104)) b sb.each) e

pub some_node : (net : Network) (side : List Bool) → IsNetworkCut net side → 0 < length side
some_node net [] cut = absurd (let h = cut.with_source in cc)
some_node net (b ∷ side) cut = omega arith

pub point_plain : (net : Network) (at : Fraction) (flow : List ℤ) → ArePlain (point_fields net at flow)
point_plain net at flow = (signed_plain _, (signed_plain _, (signed_plain _, tt)))

pub cut_plain : (net : Network) (side : List Bool) → 0 < length side → ArePlain (cut_fields net side)
cut_plain net side some = (signed_plain _, (signed_plain _, (side_plain side some, tt)))

-- ---- a point

abbrev point_lines : Network → Point → List (List (List ℕ))
point_lines net point =
    (codes "o" ∷ codes "at" ∷ []) ∷ (codes "b" ∷ point_fields net point.at point.flow) ∷ (codes "s" ∷ cut_fields net point.side)
    ∷ (codes "f" ∷ map signed_decimal point.flow) ∷ (codes "end" ∷ []) ∷ []

pub five : (a b c d e : List ℕ) → a ++ b ++ c ++ d ++ e ≡ a ++ (b ++ (c ++ (d ++ (e ++ []))))
five a b c d e = simp (append_assoc, append-nil)

point_text_is : (net : Network) (point : Point) → point_text net point ≡ lines_text (point_lines net point)
unfolding point_text
point_text_is net point =
    five (line (codes "o" ∷ codes "at" ∷ [])) (line (codes "b" ∷ point_fields net point.at point.flow)) (line (codes "s" ∷ cut_fields net point.side))
    (line (codes "f" ∷ map signed_decimal point.flow)) (line (codes "end" ∷ []))

point_lines_plain : (net : Network) (point : Point) → IsPointShape net point → AllByRecursion ArePlain (point_lines net point)
point_lines_plain net point shape = (
  (record { some = omega arith; all = refl }, (record { some = omega arith; all = refl }, tt)),
  (
    (record { some = omega arith; all = refl }, point_plain net point.at point.flow),
    (
      (record { some = omega arith; all = refl }, cut_plain net point.side (some_node net point.side shape.side)),
      (
        (record { some = omega arith; all = refl }, numbers_plain point.flow),
        ((record { some = omega arith; all = refl }, tt), tt),
      ),
    ),
  ),
)

abbrev point_of : Fraction → List Bool → List ℤ → Point
point_of at side flow = record { at = at; side = side; flow = flow }

point_of_parts : (at at' : Fraction) (side side' : List Bool) (flow flow' : List ℤ) → at ≡ at' → side ≡ side' → flow ≡ flow'
    → point_of at side flow ≡ point_of at' side' flow'
point_of_parts at at' side side' flow flow' e f g = cc

-- a field of a line
abbrev pub field_at : ℕ → ℕ → List (List (List ℕ)) → List ℕ
field_at i j lines = get_or (get_or lines i []) j []

pub same_point : (net : Network) (a b : Point) → IsPointShape net a → IsPointShape net b → point_text net a ≡ point_text net b → a ≡ b
same_point net a b sa sb e =
    let lines : point_lines net a ≡ point_lines net b =
    same_lines (point_lines net a) (point_lines net b) (point_lines_plain net a sa) (point_lines_plain net b sb) (sym (point_text_is net a) ∙ e ∙ point_text_is net b) in
    let at = same_fraction a.at b.at sa.at sb.at (ap (field_at 1 1) lines) (ap (field_at 1 2) lines) in
    let side = same_side a.side b.side (ap (field_at 2 3) lines) in
    let flow = same_flow net a.flow b.flow sa.flow sb.flow (ap (λ (ls : List (List (List ℕ))). drop 1 (get_or ls 3 [])) lines) in
    point_of_parts a.at b.at a.side b.side a.flow b.flow at side flow

-- ---- lists of lines

-- the first byte of the first field of the first line
abbrev pub mark : List (List (List ℕ)) → ℕ
mark lines = get_or (field_at 0 0 lines) 0 0

pub all_plain : (a b : List (List (List ℕ))) → AllByRecursion ArePlain a → AllByRecursion ArePlain b → AllByRecursion ArePlain (a ++ b)
all_plain [] b pa pb = pb
all_plain (parts ∷ a) b pa pb = (pa.0, all_plain a b pa.1 pb)

pub end_plain : AllByRecursion ArePlain ((codes "end" ∷ []) ∷ [])
end_plain = ((record { some = omega arith; all = refl }, tt), tt)
