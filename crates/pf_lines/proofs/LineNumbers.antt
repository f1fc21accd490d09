-- The numbers of a line as code has them.
use Rattle.std.proofs.Common.{◌≡◌, ◌≤◌, ◌^◌, arith, to_z, of_z, w64, ℕ, List, get_or}
use Rattle.std.specs.Prelude.{ℤ, nat_abs, pos}
use Rattle.std.proofs.lemmas.Int.{ints}

pub back : (z : ℤ) → nat_abs z ≤ 2 ^ 33 → to_z w64 (of_z w64 z) ≡ z
back z h = omega (arith, ints, h)

abbrev pub bits : ℤ → ℤ
bits z = to_z w64 (of_z w64 z)

abbrev pub at : List ℤ → ℕ → ℤ
at numbers i = get_or numbers i (pos 0)
