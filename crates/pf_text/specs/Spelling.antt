-- How lines are spelled: fields with one space between them, and a line feed after each line.
use Rattle.std.specs.Prelude.{ℕ, ℤ, Bool, if◌then◌else◌, ◌+◌, List, [], ◌∷◌, ◌++◌, map}
use Rattle.std.specs.List.{join_with_byte}
use Rattle.std.specs.Fmt.{decimal, signed_decimal}
use Rattle.pf_model.specs.Fraction.{Fraction}

-- a line of these fields
abbrev pub line : List (List ℕ) → List ℕ
line fields = join_with_byte 32 fields ++ 10 ∷ []

-- fields, each with a space in front
abbrev pub spaced : List (List ℕ) → List ℕ
spaced [] = []
spaced (field ∷ fields) = (32 ∷ field) ++ spaced fields

-- what stands after the first field of a line: the other fields, each with a space in front, and the line feed
abbrev pub rest_of_line : List (List ℕ) → List ℕ
rest_of_line [] = 10 ∷ []
rest_of_line (field ∷ fields) = (32 ∷ field) ++ rest_of_line fields

-- one character for each node: `1` in, `0` out
abbrev pub side_text : List Bool → List ℕ
side_text [] = []
side_text (inside ∷ others) = (if inside then 49 else 48) ∷ side_text others

-- the two numbers of a fraction, each with a space in front
abbrev pub fraction_text : Fraction → List ℕ
fraction_text at = (32 ∷ signed_decimal at.p) ++ (32 ∷ signed_decimal at.q)

-- numbers, each with a space in front
abbrev pub numbers_text : List ℤ → List ℕ
numbers_text numbers = spaced (map signed_decimal numbers)

-- what a line begins with: its word, and the numbers that it is known by, as the number of a cut
abbrev pub head : List ℕ → List ℕ → List (List ℕ)
head word indices = word ∷ map decimal indices

-- the same as bytes
abbrev pub head_text : List ℕ → List ℕ → List ℕ
head_text word indices = word ++ spaced (map decimal indices)

-- a line of numbers
abbrev pub row_line : List ℕ → List ℕ → List ℤ → List ℕ
row_line word indices numbers = line (head word indices ++ map signed_decimal numbers)

-- rows of numbers, each on a line with the word, and numbered one after the other from j on
abbrev pub table_text : List ℕ → ℕ → List (List ℤ) → List ℕ
table_text word j [] = []
table_text word j (row ∷ rows) = row_line word (j ∷ []) row ++ table_text word (j + 1) rows

-- a line of a fraction, and numbers
abbrev pub fraction_line : List ℕ → List ℕ → Fraction → List ℤ → List ℕ
fraction_line word indices at numbers = row_line word indices (at.p ∷ at.q ∷ numbers)

-- a line of numbers, and a side
abbrev pub side_line : List ℕ → List ℕ → List ℤ → List Bool → List ℕ
side_line word indices numbers side = line (head word indices ++ (map signed_decimal numbers ++ (side_text side ∷ [])))

-- a line of labels
abbrev pub label_line : List ℕ → List ℕ → List ℕ → List ℕ
label_line word indices labels = line (head word indices ++ map decimal labels)
