-- The rows of a sweep are determined by the network and the number of steps.
use Rattle.std.proofs.Common.{◌≡◌, ℕ, suc, ◌<◌, List, [], ◌∷◌, length, get_or, refl, sym, ap, ◌∙◌, subst, arith}
use Rattle.pf_model.specs.Fraction.{Fraction}
use Rattle.pf_model.specs.Cut.{IsLeastValue, IsLeastSize}
use Rattle.pf_model.specs.Network.{Network, network_at}
use Rattle.pf_model.specs.Answer.{Row}
use Rattle.pf_model.proofs.Facts.{cons_same}
use Rattle.pf_model.proofs.Unique.{least_value_unique, least_size_unique}
use Rattle.pf_sweep.specs.Parameters.{sweep_parameter}
use Rattle.pf_sweep.specs.Rows.{IsRightRow, AreRows, row_at}
use Rattle.pf_sweep.specs.Text.{sweep_text, IsRightSweep}
use Rattle.pf_sweep.proofs.SameRows.{row_of_parts}

one_row : (net : Network) (x : Fraction) (a b : Row) → IsRightRow net x a → IsRightRow net x b → a ≡ b
one_row net x a b ra rb =
    let same : a.at ≡ b.at = ra.parameter ∙ sym rb.parameter in
    let P : Fraction → Type 0 = λ y. IsLeastValue (network_at net y) a.value in
    let Q : Fraction → Type 0 = λ y. IsLeastSize (network_at net y) a.size in
    row_of_parts a.at.p b.at.p a.at.q b.at.q a.value b.value a.size b.size
    (ap (λ (y : Fraction). y.p) same) (ap (λ (y : Fraction). y.q) same)
    (least_value_unique (network_at net b.at) a.value b.value (subst P same ra.value) rb.value)
    (least_size_unique (network_at net b.at) a.size b.size (subst Q same ra.size) rb.size)

same_list : (d : Row) (xs ys : List Row) → length xs ≡ length ys → ((j : ℕ) → j < length xs → get_or xs j d ≡ get_or ys j d) → xs ≡ ys
same_list d [] [] e h = refl
same_list d [] (y ∷ ys) e h = absurd (omega (arith, e))
same_list d (x ∷ xs) [] e h = absurd (omega (arith, e))
same_list d (x ∷ xs) (y ∷ ys) e h =
    let first : x ≡ y = h 0 (omega arith) in
    cons_same x y xs ys first (same_list d xs ys (omega (arith, e)) (λ j low. h (suc j) (omega (arith, low))))

pub one_list : (net : Network) (k : ℕ) (a b : List Row) → AreRows net k a → AreRows net k b → a ≡ b
one_list net k a b ra rb =
    let e = ra.count_is in
    let f = rb.count_is in
    same_list _ a b (e ∙ sym f)
    (λ j low. one_row net (sweep_parameter net k j) (row_at net a j) (row_at net b j) (ra.each j low) (rb.each j (omega (arith, low, e, f))))

pub one_text : (k : ℕ) (net : Network) (text other : List ℕ) → IsRightSweep k net text → IsRightSweep k net other → text ≡ other
one_text k net text other a b = a.text_is ∙ ap sweep_text (one_list net k a.rows b.rows a.right b.right) ∙ sym b.text_is
