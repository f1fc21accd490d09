-- Texts of points and cuts, taken from the front.
use Rattle.std.proofs.Common.{◌≡◌, ℕ, ◌^◌, Bool, true, false, List, [], ◌∷◌, ◌++◌, sym, refl, ap, ◌∙◌, append_assoc, arith, to_z, of_z, ◌-◌}
use Rattle.std.specs.Prelude.{ℤ, pos, neg_ℤ, ◌≤ℤ◌, ◌↔◌, IsTrue, codes}
use Rattle.std.specs.Int.{w128}
use Rattle.std.proofs.lemmas.Int.{ints}
use Rattle.std.specs.Fmt.{signed_decimal}
use Rattle.pf_model.specs.Network.{Network, IsNetworkCut, cut_a, cut_b}
use Rattle.pf_text.specs.Spelling.{head_text, side_text, rest_of_line}
use Rattle.pf_lines.proofs.RowsTaken.{line_rest}
use Rattle.pf_lines.specs.Taking.{Stops}
use Rattle.pf_lines.specs.declared.taking.Valued.{Valued}
use Rattle.pf_net.specs.Limits.{IsBuilt}
use Rattle.pf_par.proofs.CutBounds.{constant_size, slope_size}
use Rattle.pf_par.specs.Answers.{cut_fields}
use Rattle.pf_par.specs.Outline.{cut_line}
use Rattle.pf_par.specs.declared.outline.Segment.{Segment}

-- ---- cuts

-- the line of a cut is its head, and the rest
pub cut_line_parts : (net : Network) (i : ℕ) (side : List Bool) (rest : List ℕ) → cut_line net i side ++ rest ≡ head_text (codes "s") (i ∷ []) ++ (rest_of_line (cut_fields net side) ++ rest)
cut_line_parts net i side rest = line_rest (codes "s") (i ∷ []) (cut_fields net side) rest

-- the rest of the line: the constant, the slope and the side
pub cut_parts : (net : Network) (side : List Bool) (rest : List ℕ)
    → rest_of_line (cut_fields net side) ++ rest ≡ (32 ∷ signed_decimal (cut_a net side)) ++ ((32 ∷ signed_decimal (cut_b net side)) ++ (rest_of_line (side_text side ∷ []) ++ rest))
cut_parts net side rest = by (32 ∷ signed_decimal (cut_a net side)) (32 ∷ signed_decimal (cut_b net side)) (rest_of_line (side_text side ∷ []))
  where
    by : (a b nodes : List ℕ) → (a ++ (b ++ nodes)) ++ rest ≡ a ++ (b ++ (nodes ++ rest))
    by a b nodes = simp append_assoc

-- what the calls took, and a test that tells whether it is a cut with its line
pub cut_taken : (net : Network) (side : List Bool) (a b : ℤ) (old first second new : List ℕ) → a ≡ cut_a net side → b ≡ cut_b net side
    → old ≡ (32 ∷ signed_decimal a) ++ first → first ≡ (32 ∷ signed_decimal b) ++ second → second ≡ rest_of_line (side_text side ∷ []) ++ new
    → old ≡ rest_of_line (cut_fields net side) ++ new
cut_taken net side a b old first second new same_a same_b e f g =
    e
    ∙ ap (λ (text : List ℕ). (32 ∷ signed_decimal a) ++ text) (f ∙ ap (λ (text : List ℕ). (32 ∷ signed_decimal b) ++ text) g)
    ∙ ap (λ (n : ℤ). (32 ∷ signed_decimal n) ++ ((32 ∷ signed_decimal b) ++ (rest_of_line (side_text side ∷ []) ++ new))) same_a
    ∙ ap (λ (n : ℤ). (32 ∷ signed_decimal (cut_a net side)) ++ ((32 ∷ signed_decimal n) ++ (rest_of_line (side_text side ∷ []) ++ new))) same_b
    ∙ sym (cut_parts net side new)

-- what the two numbers and what is left are, where the line of a cut stands there
pub record IsLineOf (net : Network) (side : List Bool) (rest : List ℕ) (x y : ℤ) (left : List ℕ) : Type 0 where
  pub a : x ≡ cut_a net side
  pub b : y ≡ cut_b net side
  pub behind : left ≡ rest_of_line (side_text side ∷ []) ++ rest

-- what a call that takes any number with 128 signed bits says
abbrev pub FindsNumber : List ℕ → (ℤ → List ℕ → Type 0) → Type 0
FindsNumber old P = (n : ℤ) (rest : List ℕ) → neg_ℤ (pos (2 ^ 127)) ≤ℤ n → n ≤ℤ pos (2 ^ 127 - 1) → Stops rest → old ≡ (32 ∷ signed_decimal n) ++ rest → P n rest

pub first_number : (net : Network) (side : List Bool) (rest old : List ℕ) (P : ℤ → List ℕ → Type 0) → IsBuilt net → FindsNumber old P → old ≡ rest_of_line (cut_fields net side) ++ rest
    → P (cut_a net side) ((32 ∷ signed_decimal (cut_b net side)) ++ (rest_of_line (side_text side ∷ []) ++ rest))
first_number net side rest old P built found e =
    let size = constant_size net side built in
    found (cut_a net side) ((32 ∷ signed_decimal (cut_b net side)) ++ (rest_of_line (side_text side ∷ []) ++ rest)) (omega (arith, ints, size.low)) (omega (arith, ints, size.high)) refl (e ∙ cut_parts net side rest)

pub second_number : (net : Network) (side : List Bool) (rest mid : List ℕ) (P : ℤ → List ℕ → Type 0) → IsBuilt net → FindsNumber mid P
    → mid ≡ (32 ∷ signed_decimal (cut_b net side)) ++ (rest_of_line (side_text side ∷ []) ++ rest) → P (cut_b net side) (rest_of_line (side_text side ∷ []) ++ rest)
second_number net side rest mid P built found e =
    let slope = slope_size net side built in
    found (cut_b net side) (rest_of_line (side_text side ∷ []) ++ rest) (omega (arith, ints, slope.low)) (omega (arith, ints, slope.high)) refl e

pub both_numbers : (net : Network) (side : List Bool) (rest old mid left : List ℕ) (x y : ℤ) → IsBuilt net → FindsNumber old (λ n later. (x ≡ n) × (mid ≡ later)) → FindsNumber mid (λ n later. (y ≡ n) × (left ≡ later))
    → old ≡ rest_of_line (cut_fields net side) ++ rest → IsLineOf net side rest x y left
both_numbers net side rest old mid left x y built first second e =
    let a = first_number net side rest old (λ n later. (x ≡ n) × (mid ≡ later)) built first e in
    let b = second_number net side rest mid (λ n later. (y ≡ n) × (left ≡ later)) built second a.1 in
    record { a = a.0; b = b.0; behind = b.1 }

-- numbers that went to bits and back are the ones of the cut, and a test tells it
fits : (x : ℤ) → neg_ℤ (pos (2 ^ 127)) ≤ℤ x → x ≤ℤ pos (2 ^ 127 - 1) → to_z w128 (of_z w128 x) ≡ x
fits x low high = omega (arith, ints, low, high)

-- the test says that the side is a cut with these two numbers
abbrev pub IsTold : Network → List Bool → Bool → ℤ → ℤ → Type 0
IsTold net side test a b = IsTrue test ↔ (IsNetworkCut net side × (to_z w128 (of_z w128 a) ≡ cut_a net side) × (to_z w128 (of_z w128 b) ≡ cut_b net side))

-- the number has 128 signed bits
pub record IsWide (x : ℤ) : Type 0 where
  pub low : neg_ℤ (pos (2 ^ 127)) ≤ℤ x
  pub high : x ≤ℤ pos (2 ^ 127 - 1)

pub told : (net : Network) (side : List Bool) (test : Bool) (a b : ℤ) → IsWide a → IsWide b → IsTold net side test a b → test ≡ true → IsNetworkCut net side × (a ≡ cut_a net side) × (b ≡ cut_b net side)
told net side test a b wide_a wide_b tells is =
    let t = tells.0 is in
    (t.0, sym (fits a wide_a.low wide_a.high) ∙ t.1, sym (fits b wide_b.low wide_b.high) ∙ t.2)

pub not_told : (net : Network) (side : List Bool) (test : Bool) (a b : ℤ) → IsNetworkCut net side → a ≡ cut_a net side → b ≡ cut_b net side → IsWide a → IsWide b → IsTold net side test a b → test ≡ false → ⊥
not_told net side test a b cut same_a same_b wide_a wide_b tells is =
    let yes : test ≡ true = tells.1 (cut, fits a wide_a.low wide_a.high ∙ same_a, fits b wide_b.low wide_b.high ∙ same_b) in
    cc

-- ---- segments, and the number of cuts

abbrev segment_of : List Bool → Valued → Segment
segment_of side point = record { side = side; point = point }

of_side_and_point : (side side' : List Bool) (point point' : Valued) → side ≡ side' → point ≡ point' → segment_of side point ≡ segment_of side' point'
of_side_and_point side side' point point' e f = cc

pub same_segment : (side : List Bool) (point : Valued) (segment : Segment) → side ≡ segment.side → point ≡ segment.point → ◌≡◌ {A = Segment} (record { side = side; point = point }) segment
same_segment side point segment e f = of_side_and_point side segment.side point segment.point e f
