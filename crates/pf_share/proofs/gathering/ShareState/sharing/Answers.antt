use Rattle.std.proofs.Common.{ℕ, Option, ap}
use Rattle.pf_share.specs.Text.{end_by}
use Rattle.pf_share.proofs.gathering.ShareState.sharing.Goals as goal

pub from_vecs-requires : goal.from_vecs-requires
from_vecs-requires c =
    c.requires _ (ap (λ (o : Option ℕ). end_by o c.args.self.weights.items c.args.self.ends.items c.args.self.capacities.items) c.in-Some.is)
