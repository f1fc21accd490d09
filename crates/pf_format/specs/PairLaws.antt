-- Words, and pieces one after another, have one reading.
use Rattle.std.proofs.Common.{ℕ, List, ◌++◌, refl, sym, ◌∙◌, append_assoc}
use Rattle.std.proofs.lemmas.List.{append_cancel_left}
use Rattle.pf_format.specs.Format.{HasOneReading}

pub word_one : (bytes : List ℕ) → HasOneReading {X = Unit {0}} (λ u. bytes) (λ u. Unit {0})
word_one bytes u v rest later a b e = record { value = refl; left = append_cancel_left bytes rest later e }

pub pair_one : {X Y : Type 0} (f : X → List ℕ) (A : X → Type 0) (g : Y → List ℕ) (B : Y → Type 0) → HasOneReading f A → HasOneReading g B
    → HasOneReading (λ (p : X × Y). f p.0 ++ g p.1) (λ p. A p.0 × B p.1)
pair_one f A g B f_one g_one (x, y) (x', y') rest later a b e =
    let first = f_one x x' (g y ++ rest) (g y' ++ later) a.0 b.0 (sym (append_assoc (f x) (g y) rest) ∙ e ∙ append_assoc (f x') (g y') later) in
    let second = g_one y y' rest later a.1 b.1 first.left in
    let same = first.value in
    let same' = second.value in
    record { value = cc; left = second.left }

-- a word, and a piece after it
pub marked_one : {X : Type 0} (word : List ℕ) (f : X → List ℕ) (A : X → Type 0) → HasOneReading f A → HasOneReading (λ x. word ++ f x) A
marked_one word f A one x y rest later a b e =
    one x y rest later a b (append_cancel_left word (f x ++ rest) (f y ++ later) (sym (append_assoc word (f x) rest) ∙ e ∙ append_assoc word (f y) later))

-- a piece, and a word after it
pub ended_one : {X : Type 0} (word : List ℕ) (f : X → List ℕ) (A : X → Type 0) → HasOneReading f A → HasOneReading (λ x. f x ++ word) A
ended_one word f A one x y rest later a b e =
    let s = one x y (word ++ rest) (word ++ later) a b (sym (append_assoc (f x) word rest) ∙ e ∙ append_assoc (f y) word later) in
    record { value = s.value; left = append_cancel_left word rest later s.left }

-- what follows from a value, and the value after it
pub derived_one : {X Y : Type 0} (f : X → List ℕ) (A : X → Type 0) (d : Y → X) (g : Y → List ℕ) (B : Y → Type 0) → HasOneReading f A → HasOneReading g B
    → HasOneReading (λ y. f (d y) ++ g y) (λ y. A (d y) × B y)
derived_one f A d g B f_one g_one x y rest later a b e =
    let first = f_one (d x) (d y) (g x ++ rest) (g y ++ later) a.0 b.0 (sym (append_assoc (f (d x)) (g x) rest) ∙ e ∙ append_assoc (f (d y)) (g y) later) in
    g_one x y rest later a.1 b.1 first.left
