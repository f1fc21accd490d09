-- What holds of all answers.
use Rattle.std.specs.Prelude.{◌≡◌, ℕ, List}
use Rattle.pf_top.specs.Job.{Row, ProblemOf, check}
use Rattle.pf_top.specs.Asked.{IsRight}

-- for each problem and each text after it there is one right verdict, whatever is checked
abbrev pub VerdictIsUnique : Type 0
VerdictIsUnique = (row : Row) (problem : ProblemOf row) (rest text other : List ℕ) → IsRight (check row) problem rest text → IsRight (check row) problem rest other →
    text ≡ other
