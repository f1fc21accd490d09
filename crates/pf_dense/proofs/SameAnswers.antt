-- Answers of the right shape with equal texts are equal.
use Rattle.std.proofs.Common.{◌≡◌, ℕ, List, length, Bool, true, refl, sym, ◌∙◌, subst}
use Rattle.std.specs.Prelude.{◌↔◌, codes}
use Rattle.pf_format.proofs.Formats.{IsMadeOf, made_one, same_value}
use Rattle.pf_ratio.specs.Answer.{Parts, parts_text, HaveShape}
use Rattle.pf_ratio.proofs.SameAnswers.{one_text}
use Rattle.pf_graph.specs.WeightedGraph.{WeightedGraph, IsWeightedGraph}
use Rattle.pf_dense.specs.Answer.{DenseAnswer, IsDenseShape, of_parts}
use Rattle.pf_dense.specs.Certificate.{CertifiesDense}
use Rattle.pf_dense.specs.Text.{dense_text}
use Rattle.pf_dense.specs.Right.{IsRightDense, IsCertifiedDense}
use Rattle.pf_dense.proofs.Soundness.{certificate_proves}

abbrev pub parts_of : DenseAnswer → Parts
parts_of answer = (answer.density, (answer.chosen, answer.charges))

pub made : (g : WeightedGraph) (count width : ℕ) → count ≡ g.nodes → width ≡ length g.ends → IsMadeOf dense_text (IsDenseShape g) (parts_text (codes "densest") (codes "d")) (HaveShape count width) of_parts parts_of
unfolding dense_text
made g count width n m = rw (n, m) (record { same = λ parts. refl; shape = λ parts fits. fits; back = λ parts shape. shape; there = λ answer. refl })

pub one_answer : (g : WeightedGraph) (a b : DenseAnswer) → IsDenseShape g a → IsDenseShape g b → dense_text a ≡ dense_text b → a ≡ b
one_answer g =
    let one = one_text (codes "densest") (codes "d") g.nodes (length g.ends) in
    same_value dense_text (IsDenseShape g) (made_one dense_text (IsDenseShape g) (parts_text (codes "densest") (codes "d")) (HaveShape g.nodes (length g.ends)) of_parts parts_of (made g g.nodes (length g.ends) refl refl) one)

-- ---- certified texts

abbrev Holds : WeightedGraph → DenseAnswer → Type 0
Holds g answer = CertifiesDense g answer.density answer.chosen answer.charges

-- the text is that of an answer of the right shape: it is certified where that answer is
pub certified_text : (g : WeightedGraph) (text : List ℕ) (answer : DenseAnswer) (holds : Bool) → IsDenseShape g answer → text ≡ dense_text answer
    → ((holds ≡ true) ↔ CertifiesDense g answer.density answer.chosen answer.charges) → (holds ≡ true) ↔ IsCertifiedDense g text
certified_text g text answer holds shape text_is exact = (
  λ told. record { answer = answer; shape = shape; certificate = exact.0 told; text_is = text_is },
  λ c. exact.1 (subst (Holds g) (one_answer g c.answer answer c.shape shape (sym c.text_is ∙ text_is)) c.certificate),
)

pub certified_is_right : (g : WeightedGraph) (text : List ℕ) → IsWeightedGraph g → IsCertifiedDense g text ↔ IsRightDense g text
certified_is_right g text graph = (
  λ c. record {
    answer = c.answer;
    shape = c.shape;
    best = certificate_proves g c.answer.density c.answer.chosen c.answer.charges graph c.certificate;
    certificate = c.certificate;
    text_is = c.text_is;
  },
  λ r. record { answer = r.answer; shape = r.shape; certificate = r.certificate; text_is = r.text_is },
)
