use Rattle.std.proofs.Common.{◌≡◌, length, arith}
use Rattle.pf_trees.proofs.Whole.{few_edges, trees_whole, blocks_whole}
use Rattle.pf_trees.proofs.finding.find.Goals as goal

pub returns-then-m-total : goal.returns-then-m-total
returns-then-m-total c =
    let full : length c.apart.new.labels ≡ c.args.n = omega (arith, c.apart.auto.labels, c.deref_mut.ensures.len, c.in_ok-groups.ensures.len) in
    let len : c.in_ok-groups.groups.len ≡ length c.apart.new.labels = omega (arith, full, c.in_ok-groups.ensures.len) in
    blocks_whole c.args.n c.args.k c.args.ends.now c.in_ok-groups.groups.len c.apart.new.labels _ len
    (few_edges c.args.n c.args.k c.args.ends.now c.apart.new.labels c.requires.two full c.apart.ensures c.if-m-total.true)

pub returns-then-found : goal.returns-then-found
returns-then-found c =
    let len : c.in_ok-numbers.numbers.len ≡ length c.decide-found.new.numbers = omega (arith, c.decide-found.auto.numbers, c.deref_mut-11.ensures.len, c.in_ok-numbers.ensures.len) in
    trees_whole c.args.n c.args.k c.args.ends.now c.in_ok-numbers.numbers.len c.decide-found.new.numbers _ len (c.decide-found.ensures.trees c.if-found.true)

pub returns-else-found : goal.returns-else-found
returns-else-found c =
    let len : c.in_ok-groups.groups.len ≡ length c.decide-found.new.groups = omega (arith, c.decide-found.auto.groups, c.deref_mut-10.ensures.len, c.in_ok-groups.ensures.len) in
    blocks_whole c.args.n c.args.k c.args.ends.now c.in_ok-groups.groups.len c.decide-found.new.groups _ len (c.decide-found.ensures.blocked c.if-found.false)
