-- What is read off a curve of the network.
use Rattle.std.specs.Prelude.{◌≡◌, ℕ, suc, ◌+◌, ◌<◌, ℤ, Bool, List, length}
use Rattle.pf_model.specs.Fraction.{Fraction}
use Rattle.pf_model.specs.Answer.{Curve}
use Rattle.pf_model.specs.Curve.{point_at, cut_at, flow_at}
use Rattle.pf_select.specs.Problem.{SelectionProblem, price_at, selection_at}
use Rattle.pf_select.specs.Certificate.{ScheduleAnswer, charges_at}
use Rattle.pf_select.specs.Reduction.{sink_node, select_net, selection_of, charges_of}

-- the points inside the interval, numbered from 1, as far as the count
pub record ArePrices (p : SelectionProblem) (points prices : List Fraction) (count : ℕ) : Type 0 where
  pub full : length prices ≡ count
  pub each : (j : ℕ) → j < count → price_at prices (suc j) ≡ point_at (select_net p) points (suc j)

-- the parts outside each cut
pub record AreSelections (p : SelectionProblem) (cuts selections : List (List Bool)) (count : ℕ) : Type 0 where
  pub full : length selections ≡ count
  pub each : (j : ℕ) → j < count → selection_at selections j ≡ selection_of p (cut_at cuts j)

-- the numbers on the arcs of needs, of the flows at the points inside
pub record AreCarried (p : SelectionProblem) (flows charges : List (List ℤ)) (count : ℕ) : Type 0 where
  pub full : length charges ≡ count
  pub each : (j : ℕ) → j < count → charges_at charges j ≡ charges_of p (flow_at flows (suc j))

-- all three
pub record IsCarriedBack (p : SelectionProblem) (curve : Curve) (answer : ScheduleAnswer) : Type 0 where
  pub prices : ArePrices p curve.points answer.prices (length answer.prices)
  pub count : suc (length answer.prices) ≡ length curve.cuts
  pub selections : AreSelections p curve.cuts answer.selections (length curve.cuts)
  pub charges : AreCarried p curve.flows answer.charges (length answer.prices)

-- each cut has a truth value for each node, and each flow a number for each arc
pub record AreWide (p : SelectionProblem) (cuts : List (List Bool)) : Type 0 where
  pub each : (j : ℕ) → j < length cuts → length (cut_at cuts j) ≡ suc (sink_node p)

pub record AreAllWide (p : SelectionProblem) (flows : List (List ℤ)) : Type 0 where
  pub each : (j : ℕ) → j < length flows → length (flow_at flows j) ≡ length p.costs + (length p.needs + length p.gains)
