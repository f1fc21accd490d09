-- The limits within which every network that is built stays.
use Rattle.std.specs.Prelude.{ℕ, ◌^◌}

-- nodes and arcs
abbrev pub most_nodes : ℕ
most_nodes = 8192

abbrev pub most_arcs : ℕ
most_arcs = 32768

-- the sizes of an arc's coefficients: its constant and its slope
abbrev pub most_constant : ℕ
most_constant = 2 ^ 56

abbrev pub most_slope : ℕ
most_slope = 2 ^ 30

-- the size of an end of an interval
abbrev pub most_end : ℕ
most_end = 2 ^ 44

-- capacities and flows lie below it, in units of 1/q
abbrev pub capacity_bound : ℕ
capacity_bound = 2 ^ 104
