-- Layers worked by hand: the definitions give what is written beside them.
use Rattle.std.proofs.Common.{◌≡◌, ℕ, List, [], ◌∷◌, length, refl, Bool, true, arith}
use Rattle.std.specs.Prelude.{ℤ, pos, ◌≤ℤ◌, ◌*ℤ◌}
use Rattle.std.proofs.lemmas.Int.{ints}
use Rattle.pf_model.specs.Cut.{has}
use Rattle.pf_model.proofs.Balance.{inside}
use Rattle.pf_dense.specs.Densest.{cost_within}
use Rattle.pf_dense.specs.Worked.{no_edges}
use Rattle.pf_layers.specs.Worked.{EdgesNumbers, EdgesForgotten, BareLayers, ItemNumbers}
use Rattle.pf_model.proofs.Facts.{below_one, below_three}

pub edges_numbers : EdgesNumbers
edges_numbers = record { first = refl; first_cost = refl; second = refl; second_cost = refl; last = refl; last_cost = refl }

pub item_numbers : ItemNumbers
item_numbers =
    record { first_cost = refl; first_weight = refl; second_cost = refl; second_weight = refl; whole_cost = refl; whole_weight = refl }

-- 4 is not 2
pub edges_forgotten : EdgesForgotten
edges_forgotten l =
    let e = (l.layers_are.next 1 (omega arith)).density in
    absurd (omega (arith, ints, e))

all_three : (set : List Bool) → length set ≡ 3 → (v : ℕ) → has set v ≡ true → has (true ∷ (true ∷ (true ∷ []))) v ≡ true
all_three set full v held =
    let low = inside set v held in
    below_three (λ u. has (true ∷ (true ∷ (true ∷ []))) u ≡ true) refl refl refl v (omega (arith, low, full))

none_brought : (c : ℤ) → (pos 1 *ℤ pos 0) ≤ℤ (pos 0 *ℤ c)
none_brought c = omega (arith, ints)

pub bare_layers : BareLayers
bare_layers = record {
  layers_are = record {
    some = omega arith;
    full = refl;
    low = below_three (λ v. _) (omega (arith, ints)) (omega (arith, ints)) (omega (arith, ints));
    high = below_three (λ v. _) (omega (arith, ints)) (omega (arith, ints)) (omega (arith, ints));
    parameters = below_one (λ j. _) (omega (arith, ints));
    next = below_one (λ j. _) (record {
      vertices = record { full = refl; some = record { vertex = 0; held = refl } };
      density = refl;
      greatest = λ other o apart. none_brought (cost_within no_edges other);
      holds = λ other o apart brings. all_three other o.full;
    });
  };
  fall = λ j low. absurd (omega (arith, low));
}
