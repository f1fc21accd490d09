-- Where the difference of two constants, divided by the difference of the slopes, is the one meeting of two lines.
use Rattle.std.proofs.Common.{◌≡◌, arith, ap, sym, ◌∙◌}
use Rattle.std.specs.Prelude.{ℤ, ◌+ℤ◌, ◌*ℤ◌, ◌<ℤ◌, pos}
use Rattle.std.proofs.lemmas.Int.{ints}
use Rattle.pf_model.specs.Fraction.{Fraction, IsParameter, IsEqual}
use Rattle.pf_model.specs.Line.{AffineLine, IsMeeting}
use Rattle.pf_model.proofs.Integers.{add_mul, mul_comm, mul_assoc, mul_most_inverse}

cancel : (k x y : ℤ) → pos 0 <ℤ k → k *ℤ x ≡ k *ℤ y → x ≡ y
cancel k x y h e =
    let up = mul_most_inverse k x y h (omega (arith, ints, e)) in
    let down = mul_most_inverse k y x h (omega (arith, ints, e)) in
    omega (arith, ints, up, down)

-- two lines at a parameter p / q: by how much the constants differ, and by how much the slopes
differ : (a b a' b' p q across up : ℤ) → a ≡ a' +ℤ across → b' ≡ b +ℤ up →
    (a *ℤ q ≡ (a' *ℤ q) +ℤ (across *ℤ q)) × (b' *ℤ p ≡ (b *ℤ p) +ℤ (up *ℤ p))
differ a b a' b' p q across up first second =
    (ap (λ n. n *ℤ q) first ∙ add_mul a' across q, ap (λ n. n *ℤ p) second ∙ add_mul b up p)

-- two parameters that are the same quotient are equal
same_quotient : (across up p q p' q' : ℤ) → pos 0 <ℤ up → p *ℤ up ≡ across *ℤ q → up *ℤ p' ≡ across *ℤ q' → p' *ℤ q ≡ p *ℤ q'
same_quotient across up p q p' q' h e f =
    let left : up *ℤ (p' *ℤ q) ≡ across *ℤ (q' *ℤ q) =
    sym (mul_assoc up p' q) ∙ ap (λ n. n *ℤ q) f ∙ mul_assoc across q' q in
    let right : up *ℤ (p *ℤ q') ≡ across *ℤ (q *ℤ q') =
    sym (mul_assoc up p q') ∙ ap (λ n. n *ℤ q') (mul_comm up p ∙ e) ∙ mul_assoc across q q' in
    cancel up (p' *ℤ q) (p *ℤ q') h (left ∙ ap (λ n. across *ℤ n) (mul_comm q' q) ∙ sym right)

pub meeting : (first second : AffineLine) (x : Fraction) (across up : ℤ) → pos 0 <ℤ up → first.a ≡ second.a +ℤ across → second.b ≡ first.b +ℤ up →
    IsParameter x → IsEqual x (record { p = across; q = up }) → IsMeeting first second x
meeting first second x across up rise constants slopes parameter quotient =
    let here = differ first.a first.b second.a second.b x.p x.q across up constants slopes in
    record {
      parameter = parameter;
      same_value = let turned = mul_comm x.p up in omega (arith, ints, here.0, here.1, turned, quotient);
      only = λ y py e.
          let there = differ first.a first.b second.a second.b y.p y.q across up constants slopes in
          let same : up *ℤ y.p ≡ across *ℤ y.q = omega (arith, ints, there.0, there.1, e) in
          same_quotient across up x.p x.q y.p y.q rise quotient same;
    }

pub meeting_turned : (first second : AffineLine) (x : Fraction) → IsMeeting first second x → IsMeeting second first x
meeting_turned first second x m = record {
  parameter = m.parameter;
  same_value = sym m.same_value;
  only = λ y py e. m.only y py (sym e);
}
