-- Answers of one shape with equal texts are equal.
use Rattle.std.proofs.Common.{ℕ, List, refl}
use Rattle.pf_format.specs.Format.{HasOneReading}
use Rattle.pf_format.proofs.Formats.{made_one}
use Rattle.pf_ratio.specs.Answer.{parts_text, HaveShape}
use Rattle.pf_ratio.proofs.TextLemmas.{lines, spelled_is, fits}

pub one_text : (name word : List ℕ) (count width : ℕ) → HasOneReading (parts_text name word) (HaveShape count width)
one_text name word count width =
    let f = lines name word count width in
    made_one (parts_text name word) (HaveShape count width) f.text f.Is (λ x. x) (λ x. x)
    (record { same = spelled_is name word count width; shape = λ p. (fits name word count width p).0; back = λ p. (fits name word count width p).1; there = λ p. refl }) f.one
