-- The numbers of a summary.
use Rattle.std.proofs.Common.{◌≡◌, ℕ, ◌+◌, ◌<◌, ◌≤◌, Bool, List, [], length, Result, Ok, Err, sym, ap, ◌∙◌, arith}
use Rattle.std.specs.Prelude.{ℤ, ◌≤ℤ◌, ◌<ℤ◌}
use Rattle.std.proofs.lemmas.Int.{ints}
use Rattle.pf_model.specs.Fraction.{Fraction, IsParameter, IsAtMost, IsBelow, IsEqual}
use Rattle.pf_model.specs.Cut.{IsLeast}
use Rattle.pf_model.specs.Network.{Network, IsMonotone, network_at, ends_of}
use Rattle.pf_model.specs.Digraph.{Digraph}
use Rattle.pf_net.specs.Limits.{digraph_of}
use Rattle.std.proofs.lemmas.List.{length-map}
use Rattle.pf_model.specs.Curve.{IsCurve, point_at, cut_at}
use Rattle.pf_model.proofs.Certificate.{at_most_trans}
use Rattle.pf_text.specs.declared.TextBad.{TextBad}
use Rattle.pf_text.specs.Lines.{lines_from}
use Rattle.pf_text.specs.Kinds.{Accepted, problem_of_lines, problem_of}
use Rattle.pf_par.specs.Text.{par}
use Rattle.pf_gen.specs.Generator.{net_of, net_text}
use Rattle.pf_gen.proofs.Accepted.{generated_is_accepted}

-- ---- the ends of the interval

equal_most : (m n : ℤ) → m ≡ n → m ≤ℤ n
equal_most m n e = omega (arith, ints, e)

less_most : (m n : ℤ) → m <ℤ n → m ≤ℤ n
less_most m n h = omega (arith, ints, h)

equal_at_most : (x y : Fraction) → IsEqual x y → IsAtMost x y
equal_at_most x y e = equal_most _ _ e

equal_at_least : (x y : Fraction) → IsEqual x y → IsAtMost y x
equal_at_least x y e = equal_most _ _ (sym e)

below_at_most : (x y : Fraction) → IsBelow x y → IsAtMost x y
below_at_most x y h = less_most _ _ h

-- the first cut is least at the low end
pub low_least : (net : Network) (points : List Fraction) (cuts : List (List Bool)) → IsMonotone net → IsCurve net points cuts → IsLeast (network_at net net.low) (cut_at cuts 0)
low_least net points cuts m c =
    let d = c.division in
    let first : IsParameter (point_at net points 0) = d.parameters 0 (let n = d.count in omega (arith, n)) in
    let second : IsParameter (point_at net points 1) = d.parameters 1 (let n = d.count in let some = d.some in omega (arith, n, some)) in
    c.least 0 d.some net.low m.low (equal_at_most (point_at net points 0) net.low d.low)
    (at_most_trans net.low (point_at net points 0) (point_at net points 1) m.low first second (equal_at_least (point_at net points 0) net.low d.low)
    (below_at_most (point_at net points 0) (point_at net points 1) (d.rise 0 d.some)))

-- the last cut is least at the high end
pub high_least : (net : Network) (points : List Fraction) (cuts : List (List Bool)) (i : ℕ) → i + 1 ≡ length cuts → IsMonotone net → IsCurve net points cuts
    → IsLeast (network_at net net.high) (cut_at cuts i)
high_least net points cuts i last m c =
    let d = c.division in
    let n = d.count in
    let at_end : IsEqual (point_at net points (i + 1)) net.high = rw last d.high in
    let low : i < length cuts = omega (arith, last) in
    let before : IsParameter (point_at net points i) = d.parameters i (omega (arith, n, last)) in
    let end : IsParameter (point_at net points (i + 1)) = d.parameters (i + 1) (omega (arith, n, last)) in
    c.least i low net.high m.high
    (at_most_trans (point_at net points i) (point_at net points (i + 1)) net.high before end m.high (below_at_most (point_at net points i) (point_at net points (i + 1)) (d.rise i low))
    (equal_at_most (point_at net points (i + 1)) net.high at_end))
    (equal_at_least (point_at net points (i + 1)) net.high at_end)

-- ---- the text is read

pub drawn_judged : (seed n m : ℕ) (text : List ℕ) → 3 ≤ n → n ≤ 1000 → m ≤ 10000 → text ≡ net_text seed n m
    → problem_of_lines par (lines_from 1 text) ≡ Ok (record { problem = net_of seed n m; rest = []; line = m + 5 })
unfolding problem_of
drawn_judged seed n m text low high few is = rw is (generated_is_accepted seed n m low high few)

-- so it is the network that was drawn, and no refusal
pub drawn_read : (judged : Result (Accepted Network) TextBad) (read drawn : Accepted Network) → judged ≡ Ok read → judged ≡ Ok drawn → read.problem ≡ drawn.problem
drawn_read judged read drawn e f = let same : read ≡ drawn = cc in ap (λ (a : Accepted Network). a.problem) same

pub never_refused : (judged : Result (Accepted Network) TextBad) (bad : TextBad) (drawn : Accepted Network) → judged ≡ Err bad → judged ≡ Ok drawn → ⊥
never_refused judged bad drawn e f = absurd (cc)

-- the number of arcs, by the frame
pub summary_arcs : (net : Network) (frame : Digraph) (count : ℕ) → frame ≡ digraph_of net → count ≡ length frame.ends → count ≡ length net.arcs
summary_arcs net frame count same is = is ∙ ap (λ (g : Digraph). length g.ends) same ∙ length-map net.arcs ends_of
