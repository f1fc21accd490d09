-- Networks worked by hand, with their curves.
use Rattle.std.specs.Prelude.{◌≡◌, ℕ, ℤ, pos, negsuc, Bool, true, false, List, [], ◌∷◌}
use Rattle.pf_model.specs.declared.AffineArc.{AffineArc}
use Rattle.pf_model.specs.declared.Sense.TheVariants.{Rising, Falling}
use Rattle.pf_model.specs.Fraction.{Fraction}
use Rattle.pf_model.specs.Line.{AffineLine}
use Rattle.pf_model.specs.Cut.{capacity}
use Rattle.pf_model.specs.Flow.{IsFlow, value}
use Rattle.pf_model.specs.Network.{Network, network_at, line_of}
use Rattle.pf_model.specs.Curve.{CertifiesCurve}

abbrev pub arc : ℕ → ℕ → ℤ → ℤ → AffineArc
arc u v a b = record { tail = u; head = v; a = a; b = b }

abbrev pub at : ℕ → ℕ → Fraction
at p q = record { p = pos p; q = pos q }

abbrev pub line : ℤ → ℤ → AffineLine
line a b = record { a = a; b = b }

-- sides of three nodes
abbrev pub s100 : List Bool
s100 = true ∷ (false ∷ (false ∷ []))

abbrev pub s110 : List Bool
s110 = true ∷ (true ∷ (false ∷ []))

abbrev pub s111 : List Bool
s111 = true ∷ (true ∷ (true ∷ []))

-- the numbers on two arcs
abbrev pub pair : ℕ → ℕ → List ℤ
pair x y = pos x ∷ (pos y ∷ [])

-- three nodes in a row: the first arc rises from 0, the second stays at 4
abbrev pub rising_row : ℤ → Network
rising_row slope = record {
  nodes = 3;
  source = 0;
  sink = 2;
  sense = Rising;
  low = at 0 1;
  high = at 10 1;
  arcs = arc 0 1 (pos 0) slope ∷ (arc 1 2 (pos 4) (pos 0) ∷ []);
}

-- with the slope 1 the first arc is the narrower one up to 4, and with the slope 3 up to 4/3
abbrev pub RisingRow : Type 0
RisingRow = CertifiesCurve (rising_row (pos 1)) (at 0 1 ∷ (at 4 1 ∷ (at 10 1 ∷ []))) (s100 ∷ (s110 ∷ []))
    (pair 0 0 ∷ (pair 4 4 ∷ (pair 4 4 ∷ [])))

abbrev pub SteepRow : Type 0
SteepRow = CertifiesCurve (rising_row (pos 3)) (at 0 1 ∷ (at 4 3 ∷ (at 10 1 ∷ []))) (s100 ∷ (s110 ∷ []))
    (pair 0 0 ∷ (pair 12 12 ∷ (pair 4 4 ∷ [])))

-- a breakpoint at 5, a flow that loses a unit on the way, the sink in a cut, or no breakpoint at all: no certificate
abbrev pub WrongBreakpoint : Type 0
WrongBreakpoint = CertifiesCurve (rising_row (pos 1)) (at 0 1 ∷ (at 5 1 ∷ (at 10 1 ∷ []))) (s100 ∷ (s110 ∷ []))
    (pair 0 0 ∷ (pair 4 4 ∷ (pair 4 4 ∷ []))) → ⊥

abbrev pub WrongFlow : Type 0
WrongFlow = CertifiesCurve (rising_row (pos 1)) (at 0 1 ∷ (at 4 1 ∷ (at 10 1 ∷ []))) (s100 ∷ (s110 ∷ []))
    (pair 0 0 ∷ (pair 4 3 ∷ (pair 4 4 ∷ []))) → ⊥

abbrev pub WrongCut : Type 0
WrongCut = CertifiesCurve (rising_row (pos 1)) (at 0 1 ∷ (at 4 1 ∷ (at 10 1 ∷ []))) (s100 ∷ (s111 ∷ []))
    (pair 0 0 ∷ (pair 4 4 ∷ (pair 4 4 ∷ []))) → ⊥

abbrev pub NoBreakpoint : Type 0
NoBreakpoint = CertifiesCurve (rising_row (pos 3)) (at 0 1 ∷ (at 10 1 ∷ [])) (s110 ∷ []) (pair 0 0 ∷ (pair 4 4 ∷ [])) → ⊥

-- the second arc is shut: the cut before it is least throughout, and the one before the first arc at 0 alone
abbrev pub shut_row : Network
shut_row = record {
  nodes = 3;
  source = 0;
  sink = 2;
  sense = Rising;
  low = at 0 1;
  high = at 5 1;
  arcs = arc 0 1 (pos 0) (pos 1) ∷ (arc 1 2 (pos 0) (pos 0) ∷ []);
}

abbrev pub ShutRow : Type 0
ShutRow = CertifiesCurve shut_row (at 0 1 ∷ (at 5 1 ∷ [])) (s110 ∷ []) (pair 0 0 ∷ (pair 0 0 ∷ []))

abbrev pub WrongShutRow : Type 0
WrongShutRow = CertifiesCurve shut_row (at 0 1 ∷ (at 5 1 ∷ [])) (s100 ∷ []) (pair 0 0 ∷ (pair 0 0 ∷ [])) → ⊥

-- the first arc falls from 10, the second stays at 4: each cut is the smallest at its left point
abbrev pub falling_row : Network
falling_row = record {
  nodes = 3;
  source = 0;
  sink = 2;
  sense = Falling;
  low = at 0 1;
  high = at 10 1;
  arcs = arc 0 1 (pos 10) (negsuc 0) ∷ (arc 1 2 (pos 4) (pos 0) ∷ []);
}

abbrev pub FallingRow : Type 0
FallingRow = CertifiesCurve falling_row (at 0 1 ∷ (at 6 1 ∷ (at 10 1 ∷ []))) (s110 ∷ (s100 ∷ []))
    (pair 4 4 ∷ (pair 4 4 ∷ (pair 0 0 ∷ [])))

-- five nodes and seven arcs, with breakpoints at 10/3 and 5
abbrev pub five_nodes : Network
five_nodes = record {
  nodes = 5;
  source = 0;
  sink = 4;
  sense = Rising;
  low = at 0 1;
  high = at 8 1;
  arcs = arc 0 1 (pos 2) (pos 1) ∷ (arc 0 2 (pos 0) (pos 2) ∷ (arc 1 3 (pos 5) (pos 0) ∷ (arc 2 3 (pos 4) (pos 0)
      ∷ (arc 1 2 (pos 1) (pos 0) ∷ (arc 3 4 (pos 14) (negsuc 0) ∷ (arc 2 4 (pos 3) (pos 0) ∷ []))))));
}

abbrev pub s10000 : List Bool
s10000 = true ∷ (false ∷ (false ∷ (false ∷ (false ∷ []))))

abbrev pub s11100 : List Bool
s11100 = true ∷ (true ∷ (true ∷ (false ∷ (false ∷ []))))

abbrev pub s11110 : List Bool
s11110 = true ∷ (true ∷ (true ∷ (true ∷ (false ∷ []))))

abbrev pub FirstLine : Type 0
FirstLine = line_of five_nodes s10000 ≡ line (pos 2) (pos 3)

abbrev pub SecondLine : Type 0
SecondLine = line_of five_nodes s11100 ≡ line (pos 12) (pos 0)

abbrev pub ThirdLine : Type 0
ThirdLine = line_of five_nodes s11110 ≡ line (pos 17) (negsuc 0)

-- a flow at 10/3 in thirds, and its value, which is the capacity of both neighbouring cuts
abbrev pub flow_at_first_break : List ℤ
flow_at_first_break = pos 16 ∷ (pos 20 ∷ (pos 15 ∷ (pos 12 ∷ (pos 1 ∷ (pos 27 ∷ (pos 9 ∷ []))))))

pub record IsFirstBreak (x : Fraction) : Type 0 where
  pub flow_is : IsFlow (network_at five_nodes x) flow_at_first_break
  pub value_is : value (network_at five_nodes x) flow_at_first_break ≡ pos 36
  pub left : capacity (network_at five_nodes x) s10000 ≡ pos 36
  pub right : capacity (network_at five_nodes x) s11100 ≡ pos 36

-- a flow at 5, with the given number on the arc from node 1 to node 2
abbrev pub flow_at_second_break : ℕ → List ℤ
flow_at_second_break z = pos 5 ∷ (pos 7 ∷ (pos 5 ∷ (pos 4 ∷ (pos z ∷ (pos 9 ∷ (pos 3 ∷ []))))))

abbrev pub FiveNodes : ℕ → Type 0
FiveNodes z = CertifiesCurve five_nodes (at 0 1 ∷ (at 10 3 ∷ (at 5 1 ∷ (at 8 1 ∷ [])))) (s10000 ∷ (s11100 ∷ (s11110 ∷ [])))
    ((pos 2 ∷ (pos 0 ∷ (pos 2 ∷ (pos 0 ∷ (pos 0 ∷ (pos 2 ∷ (pos 0 ∷ [])))))))
    ∷ (flow_at_first_break
    ∷ (flow_at_second_break z
    ∷ ((pos 5 ∷ (pos 4 ∷ (pos 5 ∷ (pos 1 ∷ (pos 0 ∷ (pos 6 ∷ (pos 3 ∷ []))))))) ∷ []))))

abbrev pub WrongFiveNodes : Type 0
WrongFiveNodes = FiveNodes 1 → ⊥
