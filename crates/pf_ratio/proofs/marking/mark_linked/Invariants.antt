use Rattle.std.proofs.Common.{◌≡◌, ◌+◌, ◌-◌, List, Bool, length, false}
use Rattle.std.specs.Prelude.{if◌then◌else◌}
use Rattle.pf_model.specs.Cut.{IsContained, size}
use Rattle.pf_ratio.specs.Marking.{KeepsLinks}
use Rattle.pf_ratio.proofs.marking.mark_linked.Given as goal

abbrev pub invariant-rounds : goal.invariant-rounds
invariant-rounds g l = record {
  full : length l.marks ≡ length l.fn.marks;
  more : IsContained l.fn.marks l.marks;
  least : (other : List Bool) → KeepsLinks (g.L.Links.link l.links) (g.L.Links.count l.links) other → IsContained l.fn.marks other → IsContained l.marks other;
  kept : l.changed ≡ false → KeepsLinks (g.L.Links.link l.links) (g.L.Links.count l.links) l.marks;
}

abbrev pub decreases-rounds : goal.decreases-rounds
decreases-rounds g l = (length l.marks - size l.marks) + (if l.changed then 1 else 0)
