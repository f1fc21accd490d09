use Rattle.pf_trees.proofs.writing.print_partition.Goals as goal

pub returns : goal.returns
returns g c = rw (c.crossing_edges-count.ensures, c.labels-labels.ensures.value) at c.print_blocked.ensures
