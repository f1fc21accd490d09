-- Formats as values of proofs, and whole texts.
use Rattle.std.proofs.Common.{◌≡◌, ℕ, List, [], ◌++◌, length, Result, Ok, Err, sym, ap, ◌∙◌}
use Rattle.std.specs.Prelude.{◌↔◌, ℤ, Bool, IsErrAnd}
use Rattle.std.proofs.lemmas.List.{append-nil}
use Rattle.pf_model.specs.Fraction.{Fraction}
use Rattle.pf_model.specs.Answer.{IsFractionShape}
use Rattle.pf_text.specs.Spelling.{row_line, fraction_line, side_line, table_text}
use Rattle.pf_lines.specs.declared.errors.AnswerBad.{AnswerBad}
use Rattle.pf_lines.specs.declared.errors.AnswerBad.TheVariants.{NotText}
use Rattle.pf_lines.specs.Taking.{IsFlowRow}
use Rattle.pf_io.specs.Printing.{Adds}
use Rattle.pf_io.specs.declared.device.Failed.{Failed}
use Rattle.pf_io.specs.declared.device.Sink.{Ghosts}
use Rattle.pf_io.specs.declared.printer.Printer.{Printer}
use Rattle.pf_format.specs.Format.{Reads, ReadsWhole, HasOneReading}
use Rattle.pf_format.specs.Shapes.{AreFlowRows}
use Rattle.pf_format.specs.PairLaws.{pair_one, marked_one, ended_one}
use Rattle.pf_format.specs.LineLaws.{fraction_row_one, side_row_one, flow_row_one, flow_rows_one}

-- ---- formats made of formats

pub record Spelling (X : Type 0) : Type 1 where
  pub text : X → List ℕ
  pub Is : X → Type 0
  pub one : HasOneReading text Is

abbrev pub then : {X Y : Type 0} → Spelling X → Spelling Y → Spelling (X × Y)
then f g = record { text = λ p. f.text p.0 ++ g.text p.1; Is = λ p. f.Is p.0 × g.Is p.1; one = pair_one f.text f.Is g.text g.Is f.one g.one }

abbrev pub marked : {X : Type 0} → List ℕ → Spelling X → Spelling X
marked word f = record { text = λ x. word ++ f.text x; Is = f.Is; one = marked_one word f.text f.Is f.one }

abbrev pub ended : {X : Type 0} → Spelling X → List ℕ → Spelling X
ended f word = record { text = λ x. f.text x ++ word; Is = f.Is; one = ended_one word f.text f.Is f.one }

abbrev pub fraction_row : List ℕ → Spelling Fraction
fraction_row word = record { text = λ at. fraction_line word [] at []; Is = IsFractionShape; one = fraction_row_one word [] }

abbrev pub side_row : List ℕ → ℕ → Spelling (List Bool)
side_row word nodes = record { text = side_line word [] []; Is = λ side. length side ≡ nodes; one = side_row_one word [] nodes }

abbrev pub flow_row : List ℕ → ℕ → Spelling (List ℤ)
flow_row word width = record { text = row_line word []; Is = IsFlowRow width; one = flow_row_one word [] width }

abbrev pub flow_rows : (word : List ℕ) (first count width : ℕ) → Spelling (List (List ℤ))
flow_rows word first count width = record { text = table_text word first; Is = AreFlowRows count width; one = flow_rows_one word first width count }

-- ---- whole texts

pub whole_read : {X : Type 0} {text : X → List ℕ} {Is : X → Type 0} {old left whole : List ℕ} {x : X} → old ≡ whole → Reads text Is old left (Ok x) → left ≡ [] → ReadsWhole text Is whole (Ok x)
whole_read {X} {text} {Is} {old} {left} {whole} {x} begun r none = record {
  shape = r.shape;
  spelled = sym begun ∙ r.taken ∙ ap (λ (t : List ℕ). text x ++ t) none ∙ append-nil (text x);
  refused = λ e. absurd cc;
}

pub whole_refused : {X : Type 0} {text : X → List ℕ} {Is : X → Type 0} {old left whole : List ℕ} {bad : AnswerBad} (result : Result X AnswerBad) → old ≡ whole → Reads text Is old left (Err bad)
    → IsErrAnd result (λ b. b ≡ bad) → ReadsWhole text Is whole result
whole_refused (Ok x) begun r exit = absurd exit
whole_refused {X} {text} {Is} {old} {left} {whole} {bad} (Err b) begun r exit = record {
  shape = tt;
  spelled = tt;
  refused = λ e x is there.
      let told : b ≡ NotText = cc in
      r.refused (ap Err (sym exit ∙ told)) x [] is (begun ∙ there ∙ sym (append-nil (text x)));
}

-- something is left after the value
pub whole_longer : {X : Type 0} {text : X → List ℕ} {Is : X → Type 0} {old left whole : List ℕ} {x : X} (result : Result X AnswerBad) → HasOneReading text Is → old ≡ whole
    → Reads text Is old left (Ok x) → (left ≡ [] → ⊥) → IsErrAnd result (λ b. b ≡ NotText) → ReadsWhole text Is whole result
whole_longer (Ok y) one begun r found exit = absurd exit
whole_longer {X} {text} {Is} {old} {left} {whole} {x} (Err b) one begun r found exit = record {
  shape = tt;
  spelled = tt;
  refused = λ e y is there.
      let same = one x y left [] r.shape is (sym r.taken ∙ begun ∙ there ∙ sym (append-nil (text y))) in
      absurd (found same.left);
}

-- the text and the shape, said in another way
pub whole_as : {X : Type 0} {text spelling : X → List ℕ} {Is Fits : X → Type 0} {whole : List ℕ} (result : Result X AnswerBad) → ReadsWhole spelling Fits whole result → ((x : X) → spelling x ≡ text x) → ((x : X) → Fits x ↔ Is x)
    → ReadsWhole text Is whole result
whole_as (Ok x) r same fits = record { shape = (fits x).0 r.shape; spelled = r.spelled ∙ same x; refused = λ e. absurd cc }
whole_as (Err bad) r same fits = record { shape = tt; spelled = tt; refused = λ e x is there. r.refused e x ((fits x).1 is) (there ∙ sym (same x)) }

-- values whose texts are equal are equal
pub same_value : {X : Type 0} (text : X → List ℕ) (Is : X → Type 0) → HasOneReading text Is → (x y : X) → Is x → Is y → text x ≡ text y → x ≡ y
same_value text Is one x y a b e = (one x y [] [] a b (ap (λ (t : List ℕ). t ++ []) e)).value

-- what was printed, spelled in another way
pub adds_as : {K T : Type 0} {S : Ghosts K} {old new : Printer K S} {a b : List ℕ} {r : Result T Failed} → Adds {T = T} old new a r → a ≡ b → Adds {T = T} old new b r
adds_as {K} {T} {S} {old} {new} {a} {b} {r} p e = rw (← e) p

-- ---- values that are made of parts

-- The parts of values have a format: a value is spelled as its parts are, and has its shape where they have theirs.
pub record IsMadeOf {X Y : Type 0} (text : X → List ℕ) (Is : X → Type 0) (spelling : Y → List ℕ) (Fits : Y → Type 0) (of : Y → X) (parts : X → Y) : Type 0 where
  pub same : (y : Y) → spelling y ≡ text (of y)
  pub shape : (y : Y) → Fits y → Is (of y)
  pub back : (y : Y) → Is (of y) → Fits y
  pub there : (x : X) → of (parts x) ≡ x

pub made_one : {X Y : Type 0} (text : X → List ℕ) (Is : X → Type 0) (spelling : Y → List ℕ) (Fits : Y → Type 0) (of : Y → X) (parts : X → Y) → IsMadeOf text Is spelling Fits of parts
    → HasOneReading spelling Fits → HasOneReading text Is
made_one {X} text Is spelling Fits of parts made one x x' rest later a b e =
    let fits : (z : X) → Is z → Fits (parts z) = λ z is. made.back (parts z) (rw (made.there z) is) in
    let here : (z : X) → spelling (parts z) ≡ text z = λ z. made.same (parts z) ∙ ap text (made.there z) in
    let s = one (parts x) (parts x') rest later (fits x a) (fits x' b) (ap (λ (t : List ℕ). t ++ rest) (here x) ∙ e ∙ ap (λ (t : List ℕ). t ++ later) (sym (here x'))) in
    record { value = sym (made.there x) ∙ ap of s.value ∙ made.there x'; left = s.left }

-- a reader that makes the value of the parts that it read
pub made_whole : {X Y : Type 0} {text : X → List ℕ} {Is : X → Type 0} {spelling : Y → List ℕ} {Fits : Y → Type 0} {of : Y → X} {parts : X → Y} {whole : List ℕ} {y : Y} {x : X}
    → ReadsWhole spelling Fits whole (Ok y) → x ≡ of y → IsMadeOf text Is spelling Fits of parts → ReadsWhole text Is whole (Ok x)
made_whole {X} {Y} {text} {Is} {spelling} {Fits} {of} {parts} {whole} {y} {x} r e made = rw e (record {
  shape = made.shape y r.shape;
  spelled = r.spelled ∙ made.same y;
  refused = λ bad. absurd cc;
})

-- and its exit where they are refused
pub made_refused : {X Y : Type 0} {text : X → List ℕ} {Is : X → Type 0} {spelling : Y → List ℕ} {Fits : Y → Type 0} {of : Y → X} {parts : X → Y} {whole : List ℕ} {bad : AnswerBad}
    (result : Result X AnswerBad) → ReadsWhole spelling Fits whole (Err bad) → IsErrAnd result (λ b. b ≡ bad) → IsMadeOf text Is spelling Fits of parts → ReadsWhole text Is whole result
made_refused (Ok x) r exit made = absurd exit
made_refused {X} {Y} {text} {Is} {spelling} {Fits} {of} {parts} {whole} {bad} (Err b) r exit made = record {
  shape = tt;
  spelled = tt;
  refused = λ e x is there.
      let told : b ≡ NotText = cc in
      let is_of : Is (of (parts x)) = rw (made.there x) is in
      r.refused (ap Err (sym exit ∙ told)) (parts x) (made.back (parts x) is_of) (there ∙ ap text (sym (made.there x)) ∙ sym (made.same (parts x)));
}
