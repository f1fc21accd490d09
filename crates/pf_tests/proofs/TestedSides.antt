-- The two sides of the test.
use Rattle.std.proofs.Common.{◌≡◌, zero, suc, [], ◌∷◌, List, Bool, true, false, refl, sym, ap}
use Rattle.pf_model.specs.Cut.{IsContained, has}
use Rattle.pf_model.specs.Network.{Network}
use Rattle.pf_piece.specs.Piece.{AreNested}

abbrev pub s11100 : List Bool
s11100 = true ∷ (true ∷ (true ∷ (false ∷ (false ∷ []))))

abbrev pub s11110 : List Bool
s11110 = true ∷ (true ∷ (true ∷ (true ∷ (false ∷ []))))

contained : IsContained s11100 s11110
contained zero e = e
contained (suc zero) e = e
contained (suc (suc zero)) e = e
contained (suc (suc (suc zero))) e = refl
contained (suc (suc (suc (suc v)))) e = e

pub nested_here : (net : Network) → net.nodes ≡ 5 → net.source ≡ 0 → net.sink ≡ 4 → AreNested net s11100 s11110
nested_here net e f g = record {
  small_cut = record { full = sym e; with_source = ap (has s11100) f; without_sink = ap (has s11100) g };
  large_cut = record { full = sym e; with_source = ap (has s11110) f; without_sink = ap (has s11110) g };
  contained = contained;
}
