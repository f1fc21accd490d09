-- Sums over the vertices of a set.
use Rattle.std.proofs.Common.{◌≡◌, ℕ, zero, suc, List, [], ◌∷◌, refl, Bool, true, false, cond, arith, ap, sym, ◌∙◌}
use Rattle.std.specs.Prelude.{ℤ, ◌+ℤ◌, ◌*ℤ◌, ◌≤ℤ◌, pos, ◌==◌}
use Rattle.std.proofs.lemmas.Int.{ints}
use Rattle.std.proofs.lemmas.Bool.Decides.{nat_tests}
use Rattle.pf_model.specs.Cut.{has, at_arc, sum_where}
use Rattle.pf_model.proofs.Integers.{mul_add}
use Rattle.pf_graph.specs.WeightedGraph.{cost_of}
use Rattle.pf_model.proofs.Facts.{none_times}

-- the sum of the numbers of the vertices of a set
abbrev pub sum_over : (ℕ → ℤ) → List Bool → ℤ
sum_over f [] = pos 0
sum_over f (b ∷ set) = cond b (f zero) (pos 0) +ℤ sum_over (λ v. f (suc v)) set

most_step : (b : Bool) (x y a c : ℤ) → (b ≡ true → x ≤ℤ y) → a ≤ℤ c → (cond b x (pos 0) +ℤ a) ≤ℤ (cond b y (pos 0) +ℤ c)
most_step true x y a c h k = let e : x ≤ℤ y = h refl in omega (arith, ints)
most_step false x y a c h k = omega (arith, ints)

pub sum_over_most : (f h : ℕ → ℤ) (set : List Bool) → ((v : ℕ) → has set v ≡ true → f v ≤ℤ h v) → sum_over f set ≤ℤ sum_over h set
sum_over_most f h [] k = omega (arith, ints)
sum_over_most f h (b ∷ set) k =
    most_step b (f zero) (h zero) _ _ (k zero) (sum_over_most (λ v. f (suc v)) (λ v. h (suc v)) set (λ v held. k (suc v) held))

tight_first : (b : Bool) (x y a c : ℤ) → b ≡ true → (b ≡ true → x ≤ℤ y) → a ≤ℤ c → (cond b y (pos 0) +ℤ c) ≤ℤ (cond b x (pos 0) +ℤ a) → y ≤ℤ x
tight_first true x y a c e h k t = omega (arith, ints)
tight_first false x y a c e h k t = cc

tight_rest : (b : Bool) (x y a c : ℤ) → (b ≡ true → x ≤ℤ y) → (cond b y (pos 0) +ℤ c) ≤ℤ (cond b x (pos 0) +ℤ a) → c ≤ℤ a
tight_rest true x y a c h t = let e : x ≤ℤ y = h refl in omega (arith, ints)
tight_rest false x y a c h t = omega (arith, ints)

-- where moreover the sums are equal, so are the numbers
pub sum_over_tight : (f h : ℕ → ℤ) (set : List Bool) → ((v : ℕ) → has set v ≡ true → f v ≤ℤ h v) → sum_over h set ≤ℤ sum_over f set →
    (v : ℕ) → has set v ≡ true → h v ≤ℤ f v
sum_over_tight f h [] k t v held = cc
sum_over_tight f h (b ∷ set) k t zero held =
    tight_first b (f zero) (h zero) _ _ held (k zero) (sum_over_most (λ v. f (suc v)) (λ v. h (suc v)) set (λ v there. k (suc v) there)) t
sum_over_tight f h (b ∷ set) k t (suc v) held =
    sum_over_tight (λ u. f (suc u)) (λ u. h (suc u)) set (λ u there. k (suc u) there) (tight_rest b (f zero) (h zero) _ _ (k zero) t) v held

same_step : (b : Bool) (x y a c : ℤ) → x ≡ y → a ≡ c → cond b x (pos 0) +ℤ a ≡ cond b y (pos 0) +ℤ c
same_step b x y a c e h = rw (e, h) refl

pub sum_over_same : (f h : ℕ → ℤ) (set : List Bool) → ((v : ℕ) → f v ≡ h v) → sum_over f set ≡ sum_over h set
sum_over_same f h [] k = refl
sum_over_same f h (b ∷ set) k = same_step b (f zero) (h zero) _ _ (k zero) (sum_over_same (λ v. f (suc v)) (λ v. h (suc v)) set (λ v. k (suc v)))

zero_step : (b : Bool) (x a : ℤ) → x ≡ pos 0 → a ≡ pos 0 → cond b x (pos 0) +ℤ a ≡ pos 0
zero_step true x a e h = omega (arith, ints, e, h)
zero_step false x a e h = omega (arith, ints, h)

pub sum_over_zero : (f : ℕ → ℤ) (set : List Bool) → ((v : ℕ) → f v ≡ pos 0) → sum_over f set ≡ pos 0
sum_over_zero f [] k = refl
sum_over_zero f (b ∷ set) k = zero_step b (f zero) _ (k zero) (sum_over_zero (λ v. f (suc v)) set (λ v. k (suc v)))

add_step : (b : Bool) (x y a c d : ℤ) → d ≡ a +ℤ c → cond b (x +ℤ y) (pos 0) +ℤ d ≡ (cond b x (pos 0) +ℤ a) +ℤ (cond b y (pos 0) +ℤ c)
add_step true x y a c d e = omega (arith, ints, e)
add_step false x y a c d e = omega (arith, ints, e)

pub sum_over_add : (f h : ℕ → ℤ) (set : List Bool) → sum_over (λ v. f v +ℤ h v) set ≡ sum_over f set +ℤ sum_over h set
sum_over_add f h [] = refl
sum_over_add f h (b ∷ set) = add_step b (f zero) (h zero) _ _ _ (sum_over_add (λ v. f (suc v)) (λ v. h (suc v)) set)

scale_step : (b : Bool) (k x a d : ℤ) → d ≡ k *ℤ a → cond b (k *ℤ x) (pos 0) +ℤ d ≡ k *ℤ (cond b x (pos 0) +ℤ a)
scale_step true k x a d e = let m = mul_add k x a in omega (arith, ints, e, m)
scale_step false k x a d e =
    let m = mul_add k (pos 0) a in
    let none : k *ℤ pos 0 ≡ pos 0 = omega (arith, ints) in
    omega (arith, ints, e, m, none)

pub sum_over_scale : (k : ℤ) (f : ℕ → ℤ) (set : List Bool) → sum_over (λ v. k *ℤ f v) set ≡ k *ℤ sum_over f set
sum_over_scale k f [] = none_times k
sum_over_scale k f (b ∷ set) = scale_step b k (f zero) _ _ (sum_over_scale k (λ v. f (suc v)) set)

-- the cost of a set is such a sum
cost_none : (set : List Bool) → sum_over (λ v. at_arc [] v) set ≡ pos 0
cost_none set = sum_over_zero (λ v. at_arc [] v) set (λ v. refl)

pub cost_is_sum : (costs : List ℤ) (set : List Bool) → cost_of costs set ≡ sum_over (λ v. at_arc costs v) set
cost_is_sum [] set = sym (cost_none set)
cost_is_sum (x ∷ costs) [] = refl
cost_is_sum (x ∷ costs) (b ∷ set) = ap (λ n. cond b x (pos 0) +ℤ n) (cost_is_sum costs set)

-- one vertex of the set
none_here : (x : ℤ) (v : ℕ) → cond (zero == suc v) x (pos 0) ≡ pos 0
none_here x v = let e : (zero == suc v) ≡ false = grind (arith, nat_tests) in rw e refl

one_later : (x : ℤ) (k v : ℕ) → cond (suc k == suc v) x (pos 0) ≡ cond (k == v) x (pos 0)
one_later x k v = let e : (suc k == suc v) ≡ (k == v) = grind (arith, nat_tests) in rw e refl

first_step : (b : Bool) (x a : ℤ) → a ≡ pos 0 → cond b x (pos 0) +ℤ a ≡ cond b x (pos 0)
first_step b x a e = omega (arith, ints, e)

later_step : (b : Bool) (x a : ℤ) → cond b (pos 0) (pos 0) +ℤ a ≡ a
later_step true x a = omega (arith, ints)
later_step false x a = omega (arith, ints)

pub sum_over_one : (k : ℕ) (x : ℤ) (set : List Bool) → sum_over (λ v. cond (k == v) x (pos 0)) set ≡ cond (has set k) x (pos 0)
sum_over_one k x [] = refl
sum_over_one zero x (b ∷ set) = first_step b x _ (sum_over_zero (λ v. cond (zero == suc v) x (pos 0)) set (none_here x))
sum_over_one (suc k) x (b ∷ set) =
    let off : (suc k == zero) ≡ false = grind (arith, nat_tests) in
    ap (λ c. cond b (cond c x (pos 0)) (pos 0) +ℤ sum_over (λ v. cond (suc k == suc v) x (pos 0)) set) off
    ∙ later_step b x _
    ∙ sum_over_same (λ v. cond (suc k == suc v) x (pos 0)) (λ v. cond (k == v) x (pos 0)) set (one_later x k)
    ∙ sum_over_one k x set

pick_step : (a b c d : ℤ) → a ≡ c → b ≡ d → a +ℤ b ≡ c +ℤ d
pick_step a b c d e h = omega (arith, ints, e, h)

-- the sums at the vertices of a set are one sum over the arcs that end there
pub sum_over_arcs : (pick : ℕ × ℕ → ℕ) (arcs : List (ℕ × ℕ)) (numbers : List ℤ) (set : List Bool) →
    sum_over (λ v. sum_where (λ arc. pick arc == v) arcs numbers) set ≡ sum_where (λ arc. has set (pick arc)) arcs numbers
sum_over_arcs pick [] numbers set = sum_over_zero (λ v. pos 0) set (λ v. refl)
sum_over_arcs pick (arc ∷ arcs) [] set = sum_over_zero (λ v. pos 0) set (λ v. refl)
sum_over_arcs pick (arc ∷ arcs) (x ∷ numbers) set =
    sum_over_add (λ v. cond (pick arc == v) x (pos 0)) (λ v. sum_where (λ a. pick a == v) arcs numbers) set
    ∙ pick_step _ _ _ _ (sum_over_one (pick arc) x set) (sum_over_arcs pick arcs numbers set)
