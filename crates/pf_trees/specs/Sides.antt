-- Sides: tests on vertices. An edge crosses a side where its ends differ.
use Rattle.std.specs.Prelude.{◌≡◌, ◌<◌, ℕ, ◌+◌, ◌*◌, ◌%◌, Bool, true, false, not, ◌&&◌, ◌==◌, nat_lt, List, slice_index_or}

abbrev pub differ : Bool → Bool → Bool
differ true b = not b
differ false b = b

abbrev pub separates : (ℕ → Bool) → ℕ × ℕ → Bool
separates side edge = differ (side edge.0) (side edge.1)

-- row t of a table of truth values with n places in each row
abbrev pub cut_at : List Bool → ℕ → ℕ → ℕ → Bool
cut_at cuts n t v = slice_index_or cuts (t * n + v) false

-- the new row r as an edge takes slot t: the row of t is added to the others from lo to below hi that the edge crosses
abbrev pub exchanged : List Bool → ℕ → ℕ → ℕ → ℕ → ℕ × ℕ → ℕ → ℕ → Bool
exchanged cuts n lo hi t edge r v =
    differ (cut_at cuts n r v) (cut_at cuts n t v && ((not (nat_lt r lo) && nat_lt r hi) && (not (r == t) && separates (cut_at cuts n r) edge)))

-- the first cut of slot r holds one vertex
abbrev pub first_cut : ℕ → ℕ → ℕ → Bool
first_cut width r v = v == r % width + 1

-- the row of slot s has the row of slot t added if the edge crosses it and s is another slot
pub record IsReduced (old : List Bool) (n s t : ℕ) (edge : ℕ × ℕ) (cuts : List Bool) : Type 0 where
  pub is : (r u : ℕ) → u < n → cut_at cuts n r u ≡ differ (cut_at old n r u) (cut_at old n t u && ((r == s) && (not (s == t) && separates (cut_at old n s) edge)))
