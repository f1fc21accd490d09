use Rattle.std.proofs.Common.{◌≡◌, ◌++◌, map, take}
use Rattle.std.specs.Prelude.{pos}
use Rattle.pf_select.specs.Reduction.{product_arcs}
use Rattle.pf_select.proofs.network.push_products.Given as goal

abbrev pub invariant-products : goal.invariant-products
invariant-products l = l.arcs.items ≡ l.fn.arcs.items ++ product_arcs l.sink l.parts 0 (map pos (take l.j l.gains))
