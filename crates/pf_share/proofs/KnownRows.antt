-- A line of two numbers that are known.
use Rattle.std.proofs.Common.{◌≡◌, ℕ, List, [], ◌∷◌, ◌++◌, ap, sym, ◌∙◌, append_assoc}
use Rattle.std.specs.Prelude.{ℤ, codes}
use Rattle.std.specs.Fmt.{signed_decimal}
use Rattle.std.proofs.lemmas.List.{append-nil}
use Rattle.pf_text.specs.Spelling.{spaced, head_text, row_line}
use Rattle.pf_lines.proofs.RowsTaken.{line_taken}

-- what stands after the first of them
abbrev pub second_field : ℤ → List ℕ → List ℕ
second_field q rest = (32 ∷ signed_decimal q) ++ (10 ∷ rest)

pub two_fields : (p q : ℤ) (rest : List ℕ) → spaced (signed_decimal p ∷ signed_decimal q ∷ []) ++ (10 ∷ rest) ≡ (32 ∷ signed_decimal p) ++ second_field q rest
two_fields p q rest = by (signed_decimal p) (signed_decimal q)
  where
    by : (a b : List ℕ) → ((32 ∷ a) ++ ((32 ∷ b) ++ [])) ++ (10 ∷ rest) ≡ (32 ∷ a) ++ ((32 ∷ b) ++ (10 ∷ rest))
    by a b = ap (λ (t : List ℕ). ((32 ∷ a) ++ t) ++ (10 ∷ rest)) (append-nil (32 ∷ b)) ∙ append_assoc (32 ∷ a) (32 ∷ b) (10 ∷ rest)

both_taken : (p q : ℤ) (t1 t2 t3 : List ℕ) → t1 ≡ (32 ∷ signed_decimal p) ++ t2 → t2 ≡ (32 ∷ signed_decimal q) ++ t3 →
    t1 ≡ spaced (signed_decimal p ∷ signed_decimal q ∷ []) ++ t3
both_taken p q t1 t2 t3 first second = first ∙ ap (λ (t : List ℕ). (32 ∷ signed_decimal p) ++ t) second ∙ by (signed_decimal p) (signed_decimal q)
  where
    by : (a b : List ℕ) → (32 ∷ a) ++ ((32 ∷ b) ++ t3) ≡ ((32 ∷ a) ++ ((32 ∷ b) ++ [])) ++ t3
    by a b = sym (ap (λ (t : List ℕ). ((32 ∷ a) ++ t) ++ t3) (append-nil (32 ∷ b)) ∙ append_assoc (32 ∷ a) (32 ∷ b) t3)

pub known_taken : (v : ℕ) (p q : ℤ) (t0 t1 t2 t3 t4 : List ℕ) → t0 ≡ head_text (codes "x") (v ∷ []) ++ t1 → t1 ≡ (32 ∷ signed_decimal p) ++ t2 →
    t2 ≡ (32 ∷ signed_decimal q) ++ t3 → t3 ≡ (10 ∷ []) ++ t4 → t0 ≡ row_line (codes "x") (v ∷ []) (p ∷ q ∷ []) ++ t4
known_taken v p q t0 t1 t2 t3 t4 first second third feed =
    line_taken (codes "x") (v ∷ []) (signed_decimal p ∷ signed_decimal q ∷ []) t0 t1 t3 t4 first (both_taken p q t1 t2 t3 second third) feed
