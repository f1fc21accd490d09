-- The header's numbers, whatever is asked.
use Rattle.std.specs.Prelude.{List, [], ◌∷◌, pos}
use Rattle.pf_text.specs.Kinds.{FieldPattern, number}

abbrev pub widest_header : List FieldPattern
widest_header = number (pos 1) (pos 500) ∷ number (pos 0) (pos 5000) ∷ []
