use Rattle.std.proofs.Common.{◌≡◌, ℕ, ◌+◌, ◌-◌, ◌<◌, List, length, false}
use Rattle.std.specs.Prelude.{ℤ, if◌then◌else◌}
use Rattle.pf_model.specs.Cut.{at_arc, size}
use Rattle.pf_model.specs.Fraction.{Fraction}
use Rattle.pf_select.specs.Problem.{product_at, part_at}
use Rattle.pf_select.specs.Dropping.{HasSlacks, IsForced, HasCheap, KeepsNeed}
use Rattle.pf_select.proofs.dropping.mark_dropped.Given as goal

abbrev pub invariant-rounds : goal.invariant-rounds
invariant-rounds l = record {
  parts_full : length l.parts ≡ length l.fn.parts;
  products_full : length l.products ≡ length l.fn.products;
  forced : (x : Fraction) (by_products : List ℤ) → HasSlacks l.catalogue x l.charges l.on_parts by_products → IsForced l.catalogue x l.charges l.parts l.products;
  cheap : HasCheap l.on_parts (length l.catalogue.costs) l.parts;
  kept : l.changed ≡ false → (k : ℕ) → k < length l.catalogue.needs →
      KeepsNeed (product_at l.catalogue k) (part_at l.catalogue k) (at_arc l.charges k) l.parts l.products;
}

abbrev pub decreases-rounds : goal.decreases-rounds
decreases-rounds l = ((length l.parts - size l.parts) + (length l.products - size l.products)) + (if l.changed then 1 else 0)
