use Rattle.pf_closure.proofs.Examples.{dear_item, equal_items, smaller_closure, cheap_item, wrong_routing, cheap_numbers, cheap_line}
use Rattle.pf_closure.proofs.laws.two_items.Goals as goal

pub returns : goal.returns
returns c = record {
  dear = dear_item;
  equal = equal_items;
  cheap = cheap_item;
  smaller = smaller_closure;
  wrong = wrong_routing;
  numbers = cheap_numbers;
  line = cheap_line;
}
