use Rattle.std.proofs.Common.{arith, ap₂}
use Rattle.std.specs.Prelude.{ℤ}
use Rattle.std.proofs.lemmas.Int.{ints}
use Rattle.pf_model.specs.declared.AffineArc.{AffineArc}
use Rattle.pf_net.proofs.mirrored.mirrored.Goals as goal

pub returns : goal.returns
returns c =
    let a_low = c.requires.a_low in
    let a_high = c.requires.a_high in
    let b_low = c.requires.b_low in
    let b_high = c.requires.b_high in
    let f : ℤ → ℤ → AffineArc = λ m n. record { tail = c.args.arc.now.tail; head = c.args.arc.now.head; a = m; b = n } in
    ap₂ f (omega (arith, ints, a_low, a_high)) (omega (arith, ints, b_low, b_high))
