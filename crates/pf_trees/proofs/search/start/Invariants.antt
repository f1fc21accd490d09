use Rattle.std.proofs.Common.{◌≡◌, ℕ, ◌<◌, ◌≤◌, length, true}
use Rattle.pf_model.specs.Cut.{has}
use Rattle.pf_trees.specs.Slots.{at}
use Rattle.pf_trees.specs.Tables.{IsBegun}
use Rattle.pf_trees.proofs.search.start.Given as goal

abbrev pub invariant-later : goal.invariant-later
invariant-later l = record {
  begun : IsBegun l.total l.place l.room l.put;
  roots : (x : ℕ) → l.middle ≤ x → x < l.x → l.total ≤ at l.place x → has l.room.mark.now x ≡ true;
}

abbrev pub invariant-edges : goal.invariant-edges
invariant-edges l = record {
  begun : IsBegun l.total l.place l.room l.put;
  later : (x : ℕ) → l.middle ≤ x → x < length l.place → l.total ≤ at l.place x → has l.room.mark.now x ≡ true;
  roots : (x : ℕ) → x < l.x → l.total ≤ at l.place x → has l.room.mark.now x ≡ true;
}
