-- The numbers of a line of each form, and what its rules make of them.
use Rattle.std.proofs.Common.{◌≡◌, ℕ, ◌<◌, ◌^◌, not, List, [], ◌∷◌, Some, Ok, refl, ap, ◌∙◌, arith}
use Rattle.std.specs.Prelude.{ℤ, is_some}
use Rattle.std.proofs.lemmas.Int.{ints}
use Rattle.pf_model.specs.declared.Sense.{Sense}
use Rattle.pf_model.specs.Fraction.{Fraction, is_below}
use Rattle.pf_text.specs.declared.RuleKind.TheVariants.{Repeated, Interval}
use Rattle.pf_text.specs.Kinds.{Fits, broken_if}
use Rattle.pf_par.specs.Text.{Given, fraction, node_count, node_index, interval_form, interval_rules, sense_or_rising, arc_form, arc_rules, arc_rules_by}
use Rattle.pf_par.specs.Rules.{IsEnd}
use Rattle.pf_lines.proofs.LineNumbers.{at, back, bits}

end_back : (p q : ℤ) → IsEnd p q → (bits p ≡ p) × (bits q ≡ q)
end_back p q is =
    let p_low = is.p_low in
    let p_high = is.p_high in
    let q_low = is.q_low in
    let q_high = is.q_high in
    (back p (omega (arith, ints, p_low, p_high)), back q (omega (arith, ints, q_low, q_high)))

end_of_bits : (p q : ℤ) → IsEnd p q → IsEnd (bits p) (bits q)
end_of_bits p q is = let b = end_back p q is in rw (b.0, b.1) is

fraction_of_bits : (p q : ℤ) → IsEnd p q → fraction (bits p) (bits q) ≡ fraction p q
fraction_of_bits p q is = let b = end_back p q is in rw (b.0, b.1) refl

-- the numbers of an interval as code has them, and what the rules make of them
pub record IsInterval (numbers : List ℤ) : Type 0 where
  pub low : IsEnd (bits (at numbers 0)) (bits (at numbers 1))
  pub high : IsEnd (bits (at numbers 2)) (bits (at numbers 3))
  pub rules : (given : Given) (low high : Fraction) → low ≡ fraction (bits (at numbers 0)) (bits (at numbers 1)) → high ≡ fraction (bits (at numbers 2)) (bits (at numbers 3))
      → interval_rules numbers given
      ≡ broken_if (is_some given.interval) Repeated (broken_if (not (is_below low high)) Interval (Ok (record given { interval = Some (record { low = low; high = high }) })))

pub interval_numbers : (numbers : List ℤ) → Fits interval_form.patterns numbers → IsInterval numbers
interval_numbers [] f = absurd f
interval_numbers (lp ∷ []) f = absurd f.2
interval_numbers (lp ∷ lq ∷ []) f = absurd f.2.2
interval_numbers (lp ∷ lq ∷ hp ∷ []) f = absurd f.2.2.2
interval_numbers (lp ∷ lq ∷ hp ∷ hq ∷ []) f =
    let low : IsEnd lp lq = record { p_low = f.0; p_high = f.1; q_low = f.2.0; q_high = f.2.1 } in
    let high : IsEnd hp hq = record { p_low = f.2.2.0; p_high = f.2.2.1; q_low = f.2.2.2.0; q_high = f.2.2.2.1 } in
    record {
      low = end_of_bits lp lq low;
      high = end_of_bits hp hq high;
      rules = λ given l h is_low is_high. rw (is_low ∙ fraction_of_bits lp lq low, is_high ∙ fraction_of_bits hp hq high) refl;
    }
interval_numbers (lp ∷ lq ∷ hp ∷ hq ∷ n ∷ numbers) f = absurd f.2.2.2.2

-- what the rules make of an arc, by its numbers as code has them
pub arc_numbers : (n : ℕ) (header_numbers numbers : List ℤ) (given : Given) (sense : Sense) (tail head : ℕ) → sense ≡ sense_or_rising given.sense → node_count header_numbers ≡ n → n < 2 ^ 32 → Fits (arc_form header_numbers).patterns numbers
    → tail ≡ node_index (bits (at numbers 0)) → head ≡ node_index (bits (at numbers 1))
    → arc_rules numbers given
    ≡ arc_rules_by sense given.interval given.source given.sink (record { tail = tail; head = head; a = bits (at numbers 2); b = bits (at numbers 3) }) given
arc_numbers n header_numbers [] given sense tail head said is small f t h = absurd f
arc_numbers n header_numbers (u ∷ []) given sense tail head said is small f t h = absurd f.2
arc_numbers n header_numbers (u ∷ v ∷ []) given sense tail head said is small f t h = absurd f.2.2
arc_numbers n header_numbers (u ∷ v ∷ a ∷ []) given sense tail head said is small f t h = absurd f.2.2.2
arc_numbers n header_numbers (u ∷ v ∷ a ∷ b ∷ []) given sense tail head said is small f t h =
    let u_low = f.0 in
    let u_high = f.1 in
    let v_low = f.2.0 in
    let v_high = f.2.1 in
    let a_low = f.2.2.0 in
    let a_high = f.2.2.1 in
    let b_low = f.2.2.2.0 in
    let b_high = f.2.2.2.1 in
    rw (
      said,
      t ∙ ap node_index (back u (omega (arith, ints, u_low, u_high, is, small))),
      h ∙ ap node_index (back v (omega (arith, ints, v_low, v_high, is, small))),
      back a (omega (arith, ints, a_low, a_high)),
      back b (omega (arith, ints, b_low, b_high)),
    )
    refl
arc_numbers n header_numbers (u ∷ v ∷ a ∷ b ∷ m ∷ numbers) given sense tail head said is small f t h = absurd f.2.2.2.2
