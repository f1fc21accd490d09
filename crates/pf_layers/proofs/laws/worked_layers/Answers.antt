use Rattle.pf_layers.proofs.Examples.{edges_numbers, edges_forgotten, bare_layers, item_numbers}
use Rattle.pf_layers.proofs.laws.worked_layers.Goals as goal

pub returns : goal.returns
returns c = record { numbers = edges_numbers; forgotten = edges_forgotten; bare = bare_layers; items = item_numbers }
