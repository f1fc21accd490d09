-- A network has one summary, and a seed one right text.
use Rattle.std.proofs.Common.{◌≡◌, ℕ, ◌+◌, ◌≤◌, Bool, List, [], length, sym, ap, ◌∙◌}
use Rattle.pf_model.specs.Network.{Network, IsMonotone, network_at}
use Rattle.pf_model.proofs.Unique.{curve_unique, least_value_unique}
use Rattle.pf_par.proofs.ParLaw.{accepted_is_monotone}
use Rattle.pf_gen.specs.declared.summary.Summary.{Summary}
use Rattle.pf_gen.specs.Generator.{net_of, net_text}
use Rattle.pf_gen.specs.Right.{Summarizes, summary_text, IsRightSummary}
use Rattle.pf_gen.proofs.Accepted.{generated_is_accepted}
use Rattle.pf_gen.proofs.SameAnswers.{same_parts}

pub one_summary : (net : Network) (a b : Summary) → IsMonotone net → Summarizes net a → Summarizes net b → a ≡ b
one_summary net a b m sa sb =
    let cuts = (curve_unique net sa.points sb.points sa.cuts sb.cuts m sa.curve sb.curve).same_cuts in
    same_parts a.nodes b.nodes a.arcs b.arcs a.segments b.segments a.low_value b.low_value a.high_value b.high_value
    (sa.nodes ∙ sym sb.nodes) (sa.arcs ∙ sym sb.arcs) (sa.segments ∙ ap (λ (sides : List (List Bool)). length sides) cuts ∙ sym sb.segments)
    (least_value_unique (network_at net net.low) a.low_value b.low_value sa.low_value sb.low_value)
    (least_value_unique (network_at net net.high) a.high_value b.high_value sa.high_value sb.high_value)

drawn_is_monotone : (seed n m : ℕ) → 3 ≤ n → n ≤ 1000 → m ≤ 10000 → IsMonotone (net_of seed n m)
drawn_is_monotone seed n m low high few =
    accepted_is_monotone (net_text seed n m) (record { problem = net_of seed n m; rest = []; line = m + 5 }) (generated_is_accepted seed n m low high few)

pub one_summary_text : (seed n m : ℕ) (text other : List ℕ) → 3 ≤ n → n ≤ 1000 → m ≤ 10000 →
    IsRightSummary seed n m text → IsRightSummary seed n m other → text ≡ other
one_summary_text seed n m text other low high few a b =
    a.text_is ∙ ap summary_text (one_summary (net_of seed n m) a.summary b.summary (drawn_is_monotone seed n m low high few) a.of b.of) ∙ sym b.text_is
