use Rattle.std.proofs.Common.{◌≡◌, ◌≤◌, ◌++◌, ◌∷◌, length, ap, ◌∙◌, refl, arith}
use Rattle.std.specs.Prelude.{pos}
use Rattle.std.specs.Fmt.{decimal}
use Rattle.std.proofs.lemmas.Int.{ints}
use Rattle.std.proofs.lemmas.List.{length-append}
use Rattle.pf_lines.proofs.RowsTaken.{count_parts}
use Rattle.pf_lines.proofs.taking.take_count.Goals as goal

pub returns-in_err-take_word-clause-found : goal.returns-in_err-take_word-clause-found
returns-in_err-take_word-clause-found c = λ count rest some few there.
    absurd (c.in_err-take_word.ensures.found ((32 ∷ decimal count) ++ (10 ∷ rest)) (there ∙ count_parts c.args.word.now count rest))

pub returns-in_err-count-clause-found : goal.returns-in_err-count-clause-found
returns-in_err-count-clause-found c = λ count rest some few there.
    let word : c.take_word.new.text ≡ (32 ∷ decimal count) ++ (10 ∷ rest) = c.in_ok-take_word.ensures.found ((32 ∷ decimal count) ++ (10 ∷ rest)) (there ∙ count_parts c.args.word.now count rest) in
    let left : c.rest-most.result.now ≡ c.take_word.new.text = c.rest-most.ensures in
    let most : count ≤ length c.rest-most.result.now = omega (arith, few, ap length left, ap length word, length-append (32 ∷ decimal count) (10 ∷ rest)) in
    absurd (c.in_err-count.ensures.found (pos count) (10 ∷ rest) (omega (arith, ints, some)) (omega (arith, ints, most)) refl word)

pub returns-in_err-take_word-2-clause-found : goal.returns-in_err-take_word-2-clause-found
returns-in_err-take_word-2-clause-found c = λ count rest some few there.
    let word : c.take_word.new.text ≡ (32 ∷ decimal count) ++ (10 ∷ rest) = c.in_ok-take_word.ensures.found ((32 ∷ decimal count) ++ (10 ∷ rest)) (there ∙ count_parts c.args.word.now count rest) in
    let left : c.rest-most.result.now ≡ c.take_word.new.text = c.rest-most.ensures in
    let most : count ≤ length c.rest-most.result.now = omega (arith, few, ap length left, ap length word, length-append (32 ∷ decimal count) (10 ∷ rest)) in
    let number = c.in_ok-count.ensures.found (pos count) (10 ∷ rest) (omega (arith, ints, some)) (omega (arith, ints, most)) refl word in
    absurd (c.in_err-take_word-2.ensures.found rest number.1)

pub returns-clause-found : goal.returns-clause-found
returns-clause-found c = λ count rest some few there.
    let word : c.take_word.new.text ≡ (32 ∷ decimal count) ++ (10 ∷ rest) = c.in_ok-take_word.ensures.found ((32 ∷ decimal count) ++ (10 ∷ rest)) (there ∙ count_parts c.args.word.now count rest) in
    let left : c.rest-most.result.now ≡ c.take_word.new.text = c.rest-most.ensures in
    let most : count ≤ length c.rest-most.result.now = omega (arith, few, ap length left, ap length word, length-append (32 ∷ decimal count) (10 ∷ rest)) in
    let number = c.in_ok-count.ensures.found (pos count) (10 ∷ rest) (omega (arith, ints, some)) (omega (arith, ints, most)) refl word in
    let is : c.in_ok-count.count ≡ pos count = number.0 in
    (omega (arith, ints, is, most), c.in_ok-take_word-2.ensures.found rest number.1)
