-- A network seen from the other end of its interval, with the parameter negated.
use Rattle.std.specs.Prelude.{neg_ℤ, List, map, reverse}
use Rattle.pf_model.specs.declared.AffineArc.{AffineArc}
use Rattle.pf_model.specs.declared.Sense.{Sense}
use Rattle.pf_model.specs.declared.Sense.TheVariants.{Rising, Falling}
use Rattle.pf_model.specs.Fraction.{Fraction}
use Rattle.pf_model.specs.Network.{Network}

abbrev pub negative : Fraction → Fraction
negative x = record { p = neg_ℤ x.p; q = x.q }

abbrev pub other_sense : Sense → Sense
other_sense Rising = Falling
other_sense Falling = Rising

abbrev pub mirror_arc : AffineArc → AffineArc
mirror_arc arc = record { tail = arc.tail; head = arc.head; a = arc.a; b = neg_ℤ arc.b }

-- the interval from minus its high end to minus its low one, each slope negated, and the other sense
abbrev pub mirror : Network → Network
mirror net = record {
  nodes = net.nodes;
  source = net.source;
  sink = net.sink;
  sense = other_sense net.sense;
  low = negative net.high;
  high = negative net.low;
  arcs = map mirror_arc net.arcs;
}

-- the points of a curve, negated and in reverse order
abbrev pub turned_points : List Fraction → List Fraction
turned_points points = reverse (map negative points)
