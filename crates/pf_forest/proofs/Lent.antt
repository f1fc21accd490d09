-- A list that was lent and has its length, and a number that was read from one.
use Rattle.std.proofs.Common.{◌≡◌, ℕ, ◌++◌, ◌<◌, List, length, take, drop, get_or, sym, ◌∙◌}
use Rattle.std.specs.Prelude.{ℤ, pos}
use Rattle.std.proofs.lemmas.List.{get_or_default}
use Rattle.pf_model.specs.Cut.{at_arc}
use Rattle.pf_model.proofs.Facts.{lent_back}

pub lent : {A : Type 0} (len : ℕ) (old new : List A) → len ≡ length old → length new ≡ length old → take len (new ++ drop (length new) old) ≡ new
lent len old new e f = lent_back len new (drop (length new) old) (e ∙ sym f)

pub number_read : (xs : List ℤ) (i : ℕ) (x : ℤ) → x ≡ get_or xs i x → i < length xs → x ≡ at_arc xs i
number_read xs i x e low = e ∙ get_or_default xs i x (pos 0) low
