-- What words and texts ask for: worked rows, by computation alone.
use Rattle.std.proofs.Common.{◌≡◌, ℕ, List, [], ◌∷◌, ◌++◌, Some, None, refl}
use Rattle.std.specs.Prelude.{pos, codes}
use Rattle.pf_model.specs.Fraction.{lowest}
use Rattle.pf_text.specs.declared.TextBad.TheVariants.{Syntax, WrongKind}
use Rattle.pf_text.specs.declared.Refusal.TheVariants.{Text, Outside}
use Rattle.pf_text.specs.Lines.{raw_lines, fields, lines_from}
use Rattle.pf_text.specs.Numbers.{natural_of, whole_of}
use Rattle.pf_text.specs.Kinds.{header, step, end_line}
use Rattle.pf_par.specs.Text.{par}
use Rattle.pf_text.specs.Words.{parameter_of}
use Rattle.pf_text.proofs.Rows.{text}
use Rattle.pf_par.proofs.Rows.{two_lines, two}
use Rattle.pf_top.specs.Job.{at, trees, reinforce, named, answer, check, reads, draws}
use Rattle.pf_top.specs.declared.words.Name.TheVariants.{Curve}
use Rattle.pf_top.specs.Asked.{usage, refused, accepted, drawn, level_of, command_of, asked}

-- a parameter, and the same with a leading zero and not in lowest terms
at_four : asked (codes "at" ∷ codes "4/1" ∷ []) (text two_lines)
    ≡ accepted (answer (at (record { p = pos 4; q = pos 1 }))) two []
unfolding text raw_lines fields lines_from natural_of whole_of header step end_line par lowest parameter_of command_of asked
at_four = refl

at_eight_halves : asked (codes "at" ∷ codes "08/2" ∷ []) (text two_lines)
    ≡ accepted (answer (at (record { p = pos 4; q = pos 1 }))) two []
unfolding text raw_lines fields lines_from natural_of whole_of header step end_line par lowest parameter_of command_of asked
at_eight_halves = refl

-- a parameter above the interval, and one below it
at_eleven : asked (codes "at" ∷ codes "11/1" ∷ []) (text two_lines)
    ≡ refused Outside
unfolding text raw_lines fields lines_from natural_of whole_of header step end_line par lowest parameter_of command_of asked
at_eleven = refl

at_less : asked (codes "at" ∷ codes "-1/1" ∷ []) (text two_lines)
    ≡ refused Outside
unfolding text raw_lines fields lines_from natural_of whole_of header step end_line par lowest parameter_of command_of asked
at_less = refl

-- words of no form
at_no_fraction : asked (codes "at" ∷ codes "4" ∷ []) (text two_lines)
    ≡ usage
unfolding text raw_lines fields lines_from natural_of whole_of header step end_line par lowest parameter_of command_of asked
at_no_fraction = refl

at_no_denominator : asked (codes "at" ∷ codes "4/0" ∷ []) (text two_lines)
    ≡ usage
unfolding text raw_lines fields lines_from natural_of whole_of header step end_line par lowest parameter_of command_of asked
at_no_denominator = refl

no_command : asked (codes "ate" ∷ codes "4/1" ∷ []) (text two_lines)
    ≡ usage
unfolding text raw_lines fields lines_from natural_of whole_of header step end_line par lowest parameter_of command_of asked
no_command = refl

no_words : asked [] (text two_lines)
    ≡ usage
unfolding text raw_lines fields lines_from natural_of whole_of header step end_line par lowest parameter_of command_of asked
no_words = refl

-- a line after the end
line_behind : asked (codes "at" ∷ codes "4/1" ∷ []) (text two_lines ++ text (codes "x" ∷ []))
    ≡ refused (Text (Syntax 8))
unfolding text raw_lines fields lines_from natural_of whole_of header step end_line par lowest parameter_of command_of asked
line_behind = refl

-- a comment after the end
comment_behind : asked (codes "at" ∷ codes "4/1" ∷ []) (text two_lines ++ text (codes "c x" ∷ []))
    ≡ accepted (answer (at (record { p = pos 4; q = pos 1 }))) two (text (codes "c x" ∷ []))
unfolding text raw_lines fields lines_from natural_of whole_of header step end_line par lowest parameter_of command_of asked
comment_behind = refl

-- the text of an answer after the problem, also one that is no comment
answer_behind : asked (codes "check" ∷ codes "curve" ∷ []) (text two_lines ++ text (codes "o curve" ∷ []))
    ≡ accepted (check (named Curve)) two (text (codes "o curve" ∷ []))
unfolding text raw_lines fields lines_from natural_of whole_of header step end_line par lowest parameter_of command_of asked
answer_behind = refl

no_answer_behind : asked (codes "check" ∷ codes "curve" ∷ []) (text two_lines)
    ≡ accepted (check (named Curve)) two []
unfolding text raw_lines fields lines_from natural_of whole_of header step end_line par lowest parameter_of command_of asked
no_answer_behind = refl

check_alone : asked (codes "check" ∷ []) (text two_lines)
    ≡ usage
unfolding text raw_lines fields lines_from natural_of whole_of header step end_line par lowest parameter_of command_of asked
check_alone = refl

check_of_a_point : asked (codes "check" ∷ codes "at" ∷ []) (text two_lines)
    ≡ usage
unfolding text raw_lines fields lines_from natural_of whole_of header step end_line par lowest parameter_of command_of asked
check_of_a_point = refl

-- a refused line comes before a parameter outside
outside_of_refused : asked (codes "at" ∷ codes "11/1" ∷ []) (text (codes "p graph 2 1" ∷ []))
    ≡ refused (Text (WrongKind 1))
unfolding text raw_lines fields lines_from natural_of whole_of header step end_line par lowest parameter_of command_of asked
outside_of_refused = refl

-- numbers of trees, from 1 to 500
two_trees : command_of (codes "trees" ∷ codes "02" ∷ []) ≡ Some (reads (answer (trees 2)))
unfolding natural_of command_of
two_trees = refl

no_trees : command_of (codes "trees" ∷ codes "0" ∷ []) ≡ None
unfolding natural_of command_of
no_trees = refl

too_many_trees : command_of (codes "trees" ∷ codes "501" ∷ []) ≡ None
unfolding natural_of command_of
too_many_trees = refl

-- levels: two texts of digits, and no sign
one_half : command_of (codes "reinforce" ∷ codes "02/4" ∷ []) ≡ Some (reads (answer (reinforce (record { p = pos 1; q = pos 2 }))))
unfolding natural_of lowest level_of command_of
one_half = refl

level_zero : command_of (codes "reinforce" ∷ codes "0/7" ∷ []) ≡ Some (reads (answer (reinforce (record { p = pos 0; q = pos 1 }))))
unfolding natural_of lowest level_of command_of
level_zero = refl

no_level_below_zero : command_of (codes "reinforce" ∷ codes "-1/1" ∷ []) ≡ None
unfolding natural_of lowest level_of command_of
no_level_below_zero = refl

no_signed_level : command_of (codes "reinforce" ∷ codes "-0/1" ∷ []) ≡ None
unfolding natural_of lowest level_of command_of
no_signed_level = refl

no_level_over_zero : command_of (codes "reinforce" ∷ codes "1/0" ∷ []) ≡ None
unfolding natural_of lowest level_of command_of
no_level_over_zero = refl

past_the_last_level : command_of (codes "reinforce" ∷ codes "1000000001/1" ∷ []) ≡ None
unfolding natural_of lowest level_of command_of
past_the_last_level = refl

no_level_without_slash : command_of (codes "reinforce" ∷ codes "2" ∷ []) ≡ None
unfolding natural_of lowest level_of command_of
no_level_without_slash = refl

-- seeds, below 2^64: whatever the bytes
seven : (bytes : List ℕ) → asked (codes "generate" ∷ codes "007" ∷ []) bytes ≡ drawn 7
unfolding natural_of command_of asked
seven bytes = refl

last_seed : command_of (codes "generate" ∷ codes "18446744073709551615" ∷ []) ≡ Some (draws 18446744073709551615)
unfolding natural_of command_of
last_seed = refl

past_the_last_seed : command_of (codes "generate" ∷ codes "18446744073709551616" ∷ []) ≡ None
unfolding natural_of command_of
past_the_last_seed = refl

no_seed_below_zero : command_of (codes "generate" ∷ codes "-0" ∷ []) ≡ None
unfolding natural_of command_of
no_seed_below_zero = refl
