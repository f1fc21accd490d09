-- The groups of the nodes, taken from a text.
use Rattle.std.proofs.Common.{◌≡◌, ℕ, ◌<◌, List, get_or, arith, sym, ◌∙◌}
use Rattle.std.specs.Prelude.{ℤ, pos}
use Rattle.std.proofs.lemmas.Int.{ints}
use Rattle.std.proofs.lemmas.List.{get_or_default}
use Rattle.pf_model.specs.Cut.{at_arc}
use Rattle.pf_lines.specs.Taking.{IsRow}
use Rattle.pf_share.specs.Problem.{ShareProblem}
use Rattle.pf_share.specs.Right.{IsGroupsShape}
use Rattle.pf_share.specs.Taken.{AreGrouped}

pub row_of_groups : (p : ShareProblem) (nodes count : ℕ) (groups : List ℤ) → nodes ≡ p.nodes → IsGroupsShape p count groups → IsRow nodes (pos 0) (pos count) groups
row_of_groups p nodes count groups e shape =
    let full = shape.full in
    record {
      full = shape.full ∙ sym e;
      each = λ i d low.
          let there : i < p.nodes = omega (arith, low, full) in
          let l = shape.low i there in
          let h = shape.high i there in
          let same : get_or groups i d ≡ at_arc groups i = get_or_default groups i d (pos 0) low in
          record { low = omega (arith, ints, l, same); high = omega (arith, ints, h, same) };
    }

pub grouped_of : (p : ShareProblem) (count : ℕ) (groups : List ℤ) → IsGroupsShape p count groups → AreGrouped p groups p.nodes
grouped_of p count groups shape = record { each = λ v low. record { above = shape.sources v low } }
