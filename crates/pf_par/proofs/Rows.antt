-- Texts read to their networks or refused at their lines, and answer texts: worked rows, by computation alone.
use Rattle.std.proofs.Common.{◌≡◌, ℕ, List, [], ◌∷◌, ◌++◌, map, true, false, Ok, Err, refl}
use Rattle.std.specs.Prelude.{pos, neg_ℤ, codes}
use Rattle.std.specs.Fmt.{digits}
use Rattle.pf_model.specs.declared.Sense.TheVariants.{Rising, Falling}
use Rattle.pf_model.specs.Fraction.{lowest}
use Rattle.pf_model.specs.Network.{Network}
use Rattle.pf_text.specs.declared.TextBad.TheVariants.{Syntax, Range, Count, WrongKind, Rule, NoEnd}
use Rattle.pf_text.specs.declared.RuleKind.TheVariants.{Repeated, Missing, Ends, Interval, Monotone, Negative}
use Rattle.pf_text.specs.Lines.{raw_lines, fields, lines_from}
use Rattle.pf_text.specs.Numbers.{natural_of, whole_of}
use Rattle.pf_text.specs.Kinds.{header, step, end_line, problem_of}
use Rattle.pf_par.specs.Text.{par}
use Rattle.pf_par.specs.Answers.{point_text, curve_text}
use Rattle.pf_text.proofs.Rows.{text}

-- two arcs in a row, the first of which grows with the parameter
abbrev pub two_lines : List (List ℕ)
two_lines = codes "p par 3 2" ∷ codes "i 0 1 10 1" ∷ codes "n 1 s" ∷ codes "n 3 t" ∷ codes "a 1 2 0 1" ∷ codes "a 2 3 4 0" ∷ codes "end" ∷ []

abbrev pub two : Network
two = record {
  nodes = 3;
  source = 0;
  sink = 2;
  sense = Rising;
  low = record { p = pos 0; q = pos 1 };
  high = record { p = pos 10; q = pos 1 };
  arcs = record { tail = 0; head = 1; a = pos 0; b = pos 1 } ∷ record { tail = 1; head = 2; a = pos 4; b = pos 0 } ∷ [];
}

-- the greatest coefficients
abbrev large : Network
large = record two {
  high = record { p = pos 1000000000; q = pos 1 };
  arcs = record { tail = 0; head = 1; a = pos 0; b = pos 1000000000 } ∷ record { tail = 1; head = 2; a = pos 1000000000; b = pos 0 } ∷ [];
}

pub two_is_read : problem_of par (text two_lines)
    ≡ Ok (record { problem = two; rest = []; line = 7 })
unfolding text raw_lines fields lines_from natural_of whole_of header step end_line problem_of par lowest
two_is_read = refl

-- with carriage returns, a comment, a blank line and a leading zero
two_is_read_otherwise : problem_of par (text (map (λ line. line ++ 13 ∷ []) (codes "c made by hand" ∷ codes "p par 3 2" ∷ [] ∷ codes "i 0 1 010 1" ∷ codes "n 1 s" ∷ codes "n 3 t" ∷ codes "a 1 2 0 1" ∷ codes "a 2 3 4 0" ∷ codes "end" ∷ [])))
    ≡ Ok (record { problem = two; rest = []; line = 9 })
unfolding text raw_lines fields lines_from natural_of whole_of header step end_line problem_of par lowest
two_is_read_otherwise = refl

-- tabs, spaces in front and after, minus signs before zeros, an interval that is not in lowest terms
two_is_read_with_blanks : problem_of par (text (codes "p par 03 02" ∷ codes "i -0 5 20 2" ∷ (9 ∷ codes " n  1 s ") ∷ codes "n 3 t" ∷ codes "a 1 2 -000 1" ∷ codes "c a 2 3 9 0" ∷ codes "a 2 3 4 0" ∷ codes "end" ∷ codes "o at" ∷ []))
    ≡ Ok (record { problem = two; rest = text (codes "o at" ∷ []); line = 8 })
unfolding text raw_lines fields lines_from natural_of whole_of header step end_line problem_of par lowest
two_is_read_with_blanks = refl

large_is_read : problem_of par (text (codes "p par 3 2" ∷ codes "i 0 1 1000000000 1" ∷ codes "n 1 s" ∷ codes "n 3 t" ∷ codes "a 1 2 0 1000000000" ∷ codes "a 2 3 1000000000 0" ∷ codes "end" ∷ []))
    ≡ Ok (record { problem = large; rest = []; line = 7 })
unfolding text raw_lines fields lines_from natural_of whole_of header step end_line problem_of par lowest
large_is_read = refl

-- a number past its range
large_coefficient : problem_of par (text (codes "p par 3 2" ∷ codes "i 0 1 1000000000 1" ∷ codes "n 1 s" ∷ codes "n 3 t" ∷ codes "a 1 2 0 1000000001" ∷ codes "a 2 3 1000000000 0" ∷ codes "end" ∷ []))
    ≡ Err (Range 5)
unfolding text raw_lines fields lines_from natural_of whole_of header step end_line problem_of par lowest
large_coefficient = refl

-- a capacity below 0 at the high end
negative_capacity : problem_of par (text (codes "p par 3 1" ∷ codes "i 0 1 6 1" ∷ codes "n 1 s" ∷ codes "n 3 t" ∷ codes "a 2 3 5 -1" ∷ codes "end" ∷ []))
    ≡ Err (Rule 5 Negative)
unfolding text raw_lines fields lines_from natural_of whole_of header step end_line problem_of par lowest
negative_capacity = refl

-- a falling arc out of the source
falling_source_arc : problem_of par (text (codes "p par 3 1" ∷ codes "i 0 1 6 1" ∷ codes "n 1 s" ∷ codes "n 3 t" ∷ codes "a 1 2 9 -1" ∷ codes "end" ∷ []))
    ≡ Err (Rule 5 Monotone)
unfolding text raw_lines fields lines_from natural_of whole_of header step end_line problem_of par lowest
falling_source_arc = refl

-- no line `end`
no_end : problem_of par (text (codes "p par 3 2" ∷ codes "i 0 1 10 1" ∷ codes "n 1 s" ∷ codes "n 3 t" ∷ codes "a 1 2 0 1" ∷ codes "a 2 3 4 0" ∷ []))
    ≡ Err NoEnd
unfolding text raw_lines fields lines_from natural_of whole_of header step end_line problem_of par lowest
no_end = refl

-- the empty text has no line
no_line : problem_of par []
    ≡ Err NoEnd
unfolding text raw_lines fields lines_from natural_of whole_of header step end_line problem_of par lowest
no_line = refl

-- an arc too few
too_few_arcs : problem_of par (text (codes "p par 3 3" ∷ codes "i 0 1 10 1" ∷ codes "n 1 s" ∷ codes "n 3 t" ∷ codes "a 1 2 0 1" ∷ codes "a 2 3 4 0" ∷ codes "end" ∷ []))
    ≡ Err (Count 7)
unfolding text raw_lines fields lines_from natural_of whole_of header step end_line problem_of par lowest
too_few_arcs = refl

-- an arc too many
too_many_arcs : problem_of par (text (codes "p par 3 1" ∷ codes "i 0 1 10 1" ∷ codes "n 1 s" ∷ codes "n 3 t" ∷ codes "a 1 2 0 1" ∷ codes "a 2 3 4 0" ∷ codes "end" ∷ []))
    ≡ Err (Count 6)
unfolding text raw_lines fields lines_from natural_of whole_of header step end_line problem_of par lowest
too_many_arcs = refl

-- a text of another kind
wrong_kind : problem_of par (text (codes "p graph 2 1" ∷ codes "e 1 2 4" ∷ codes "end" ∷ []))
    ≡ Err (WrongKind 1)
unfolding text raw_lines fields lines_from natural_of whole_of header step end_line problem_of par lowest
wrong_kind = refl

-- a header without its numbers, a header of another word, and a second header
short_header : problem_of par (text (codes "p par" ∷ []))
    ≡ Err (Syntax 1)
unfolding text raw_lines fields lines_from natural_of whole_of header step end_line problem_of par lowest
short_header = refl

other_header : problem_of par (text (codes "q par 3 2" ∷ []))
    ≡ Err (Syntax 1)
unfolding text raw_lines fields lines_from natural_of whole_of header step end_line problem_of par lowest
other_header = refl

second_header : problem_of par (text (codes "p par 3 2" ∷ codes "p par 3 2" ∷ codes "i 0 1 10 1" ∷ codes "n 1 s" ∷ codes "n 3 t" ∷ codes "a 1 2 0 1" ∷ codes "a 2 3 4 0" ∷ codes "end" ∷ []))
    ≡ Err (Syntax 2)
unfolding text raw_lines fields lines_from natural_of whole_of header step end_line problem_of par lowest
second_header = refl

-- an arc before the sink
sink_missing : problem_of par (text (codes "p par 3 2" ∷ codes "i 0 1 10 1" ∷ codes "n 1 s" ∷ codes "a 1 2 0 1" ∷ codes "n 3 t" ∷ codes "a 2 3 4 0" ∷ codes "end" ∷ []))
    ≡ Err (Rule 4 Missing)
unfolding text raw_lines fields lines_from natural_of whole_of header step end_line problem_of par lowest
sink_missing = refl

-- the sink at the source
same_ends : problem_of par (text (codes "p par 3 2" ∷ codes "i 0 1 10 1" ∷ codes "n 1 s" ∷ codes "n 1 t" ∷ codes "a 1 2 0 1" ∷ codes "a 2 3 4 0" ∷ codes "end" ∷ []))
    ≡ Err (Rule 4 Ends)
unfolding text raw_lines fields lines_from natural_of whole_of header step end_line problem_of par lowest
same_ends = refl

-- an interval without inside
empty_interval : problem_of par (text (codes "p par 3 2" ∷ codes "i 10 1 10 1" ∷ codes "n 1 s" ∷ codes "n 3 t" ∷ codes "a 1 2 0 1" ∷ codes "a 2 3 4 0" ∷ codes "end" ∷ []))
    ≡ Err (Rule 2 Interval)
unfolding text raw_lines fields lines_from natural_of whole_of header step end_line problem_of par lowest
empty_interval = refl

-- a line that is not listed
unknown_line : problem_of par (text (codes "p par 3 2" ∷ codes "i 0 1 10 1" ∷ codes "n 1 s" ∷ codes "n 3 t" ∷ codes "e 1 2 0 1" ∷ codes "a 2 3 4 0" ∷ codes "end" ∷ []))
    ≡ Err (Syntax 5)
unfolding text raw_lines fields lines_from natural_of whole_of header step end_line problem_of par lowest
unknown_line = refl

-- a second source
second_source : problem_of par (text (codes "p par 3 2" ∷ codes "i 0 1 10 1" ∷ codes "n 1 s" ∷ codes "n 1 s" ∷ codes "n 3 t" ∷ codes "a 1 2 0 1" ∷ codes "a 2 3 4 0" ∷ codes "end" ∷ []))
    ≡ Err (Rule 4 Repeated)
unfolding text raw_lines fields lines_from natural_of whole_of header step end_line problem_of par lowest
second_source = refl

-- the count is tested before the rules, and the range before the count
count_before_missing : problem_of par (text (codes "p par 3 0" ∷ codes "a 1 2 0 1" ∷ codes "end" ∷ []))
    ≡ Err (Count 2)
unfolding text raw_lines fields lines_from natural_of whole_of header step end_line problem_of par lowest
count_before_missing = refl

range_before_count : problem_of par (text (codes "p par 3 0" ∷ codes "a 1 4 0 1" ∷ codes "end" ∷ []))
    ≡ Err (Range 2)
unfolding text raw_lines fields lines_from natural_of whole_of header step end_line problem_of par lowest
range_before_count = refl

syntax_before_range : problem_of par (text (codes "p par 3 0" ∷ codes "a 1 4 0 x" ∷ codes "end" ∷ []))
    ≡ Err (Syntax 2)
unfolding text raw_lines fields lines_from natural_of whole_of header step end_line problem_of par lowest
syntax_before_range = refl

-- an arc that falls with the parameter, in a text that says so
abbrev pub falls : Network
falls = record two {
  sense = Falling;
  arcs = record { tail = 0; head = 1; a = pos 10; b = neg_ℤ (pos 1) } ∷ record { tail = 1; head = 2; a = pos 4; b = pos 0 } ∷ [];
}

falls_is_read : problem_of par (text (codes "p par 3 2" ∷ codes "i 0 1 10 1" ∷ codes "d falling" ∷ codes "n 1 s" ∷ codes "n 3 t" ∷ codes "a 1 2 10 -1" ∷ codes "a 2 3 4 0" ∷ codes "end" ∷ []))
    ≡ Ok (record { problem = falls; rest = []; line = 8 })
unfolding text raw_lines fields lines_from natural_of whole_of header step end_line problem_of par lowest
falls_is_read = refl

-- a text that says what holds where it says nothing
said_is_read : problem_of par (text (codes "p par 3 2" ∷ codes "d rising" ∷ codes "i 0 1 10 1" ∷ codes "n 1 s" ∷ codes "n 3 t" ∷ codes "a 1 2 0 1" ∷ codes "a 2 3 4 0" ∷ codes "end" ∷ []))
    ≡ Ok (record { problem = two; rest = []; line = 8 })
unfolding text raw_lines fields lines_from natural_of whole_of header step end_line problem_of par lowest
said_is_read = refl

-- the same arc where the text does not say that it falls, and one that rises where it does
not_said : problem_of par (text (codes "p par 3 2" ∷ codes "i 0 1 10 1" ∷ codes "n 1 s" ∷ codes "n 3 t" ∷ codes "a 1 2 10 -1" ∷ codes "a 2 3 4 0" ∷ codes "end" ∷ []))
    ≡ Err (Rule 5 Monotone)
unfolding text raw_lines fields lines_from natural_of whole_of header step end_line problem_of par lowest
not_said = refl

rises_in_falling : problem_of par (text (codes "p par 3 2" ∷ codes "i 0 1 10 1" ∷ codes "d falling" ∷ codes "n 1 s" ∷ codes "n 3 t" ∷ codes "a 1 2 0 1" ∷ codes "a 2 3 4 0" ∷ codes "end" ∷ []))
    ≡ Err (Rule 6 Monotone)
unfolding text raw_lines fields lines_from natural_of whole_of header step end_line problem_of par lowest
rises_in_falling = refl

-- a sense after an arc, a second one, and another word
sense_behind_arcs : problem_of par (text (codes "p par 3 2" ∷ codes "i 0 1 10 1" ∷ codes "n 1 s" ∷ codes "n 3 t" ∷ codes "a 1 2 10 0" ∷ codes "a 2 3 4 0" ∷ codes "d falling" ∷ codes "end" ∷ []))
    ≡ Err (Rule 7 Repeated)
unfolding text raw_lines fields lines_from natural_of whole_of header step end_line problem_of par lowest
sense_behind_arcs = refl

second_sense : problem_of par (text (codes "p par 3 2" ∷ codes "d falling" ∷ codes "d falling" ∷ codes "i 0 1 10 1" ∷ codes "n 1 s" ∷ codes "n 3 t" ∷ codes "a 1 2 10 -1" ∷ codes "a 2 3 4 0" ∷ codes "end" ∷ []))
    ≡ Err (Rule 3 Repeated)
unfolding text raw_lines fields lines_from natural_of whole_of header step end_line problem_of par lowest
second_sense = refl

other_sense_word : problem_of par (text (codes "p par 3 2" ∷ codes "i 0 1 10 1" ∷ codes "d down" ∷ codes "n 1 s" ∷ codes "n 3 t" ∷ codes "a 1 2 10 -1" ∷ codes "a 2 3 4 0" ∷ codes "end" ∷ []))
    ≡ Err (Syntax 3)
unfolding text raw_lines fields lines_from natural_of whole_of header step end_line problem_of par lowest
other_sense_word = refl

-- the answer to `at 08/2`
point_is_printed : point_text two (record { at = lowest (record { p = pos 8; q = pos 2 }); side = true ∷ false ∷ false ∷ []; flow = pos 4 ∷ pos 4 ∷ [] })
    ≡ text (codes "o at" ∷ codes "b 4 1 4" ∷ codes "s 0 1 100" ∷ codes "f 4 4" ∷ codes "end" ∷ [])
unfolding text digits lowest point_text
point_is_printed = refl

-- the whole least-cut function
curve_is_printed : curve_text two (record {
  points = record { p = pos 0; q = pos 1 } ∷ record { p = pos 4; q = pos 1 } ∷ record { p = pos 10; q = pos 1 } ∷ [];
  cuts = (true ∷ false ∷ false ∷ []) ∷ (true ∷ true ∷ false ∷ []) ∷ [];
  flows = (pos 0 ∷ pos 0 ∷ []) ∷ (pos 4 ∷ pos 4 ∷ []) ∷ (pos 4 ∷ pos 4 ∷ []) ∷ [];
})
    ≡ text (codes "o curve" ∷ codes "k 2" ∷ codes "b 0 0 1 0" ∷ codes "s 1 0 1 100" ∷ codes "b 1 4 1 4" ∷ codes "s 2 4 0 110" ∷ codes "b 2 10 1 4" ∷ codes "f 0 0 0" ∷ codes "f 1 4 4" ∷ codes "f 2 4 4" ∷ codes "end" ∷ [])
unfolding text digits lowest curve_text
curve_is_printed = refl
