use Rattle.std.proofs.Common.{arith}
use Rattle.pf_trees.proofs.WorkedOut.{triangle_blocked}
use Rattle.pf_trees.proofs.laws.three_vertices.Goals as goal

pub returns : goal.returns
returns c = record {
  blocked = triangle_blocked;
  let_through = λ b. let e = b.fewer in omega (arith, e);
}
