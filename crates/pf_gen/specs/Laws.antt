-- What holds of every generated text, and of the text of every summary.
use Rattle.std.specs.Prelude.{◌≡◌, ℕ, ◌+◌, ◌<◌, ◌≤◌, ◌^◌, nat_abs, List, [], Ok}
use Rattle.pf_model.specs.Network.{Network, IsMonotone}
use Rattle.pf_text.specs.Kinds.{problem_of}
use Rattle.pf_par.specs.Text.{par}
use Rattle.pf_gen.specs.declared.summary.Summary.{Summary}
use Rattle.pf_gen.specs.Generator.{net_of, net_text}
use Rattle.pf_gen.specs.Right.{Summarizes, summary_text, IsRightSummary}

-- it is accepted as a text of the kind `par`, gives the network that was drawn, and has nothing after its last line
abbrev pub GeneratedIsAccepted : Type 0
GeneratedIsAccepted = (seed n m : ℕ) → 3 ≤ n → n ≤ 1000 → m ≤ 10000 →
    problem_of par (net_text seed n m) ≡ Ok (record { problem = net_of seed n m; rest = []; line = m + 5 })

-- equal texts are of equal networks, whatever the seeds
abbrev pub NetworkFromText : Type 0
NetworkFromText = (seed other n m i j : ℕ) → 3 ≤ n → n ≤ 1000 → m ≤ 10000 → 3 ≤ i → i ≤ 1000 → j ≤ 10000 →
    net_text seed n m ≡ net_text other i j → net_of seed n m ≡ net_of other i j

-- the numbers have at most 64 digits
pub record IsSummaryShape (s : Summary) : Type 0 where
  pub nodes : s.nodes < 10 ^ 64
  pub arcs : s.arcs < 10 ^ 64
  pub segments : s.segments < 10 ^ 64
  pub low_value : nat_abs s.low_value < 10 ^ 64
  pub high_value : nat_abs s.high_value < 10 ^ 64

-- summaries of this shape with equal texts are equal
abbrev pub SummaryFromText : Type 0
SummaryFromText = (a b : Summary) → IsSummaryShape a → IsSummaryShape b → summary_text a ≡ summary_text b → a ≡ b

-- there is one summary of a monotone network, and so one right text for each seed
abbrev pub SummaryIsUnique : Type 0
SummaryIsUnique = (net : Network) (a b : Summary) → IsMonotone net → Summarizes net a → Summarizes net b → a ≡ b

abbrev pub SummaryTextIsUnique : Type 0
SummaryTextIsUnique = (seed n m : ℕ) (text other : List ℕ) → 3 ≤ n → n ≤ 1000 → m ≤ 10000 →
    IsRightSummary seed n m text → IsRightSummary seed n m other → text ≡ other
