-- Marks that spread along links, step by step.
use Rattle.std.proofs.Common.{◌≡◌, ℕ, ◌+◌, ◌-◌, ◌<◌, ◌≤◌, List, length, set, refl, Bool, true, false, cond, arith, sym, inl, inr}
use Rattle.std.specs.Prelude.{ℤ, ◌<ℤ◌, int_lt}
use Rattle.std.proofs.lemmas.Int.{ints}
use Rattle.std.proofs.lemmas.Bool.{false≢true}
use Rattle.std.proofs.lemmas.List.{length-set}
use Rattle.pf_model.specs.Cut.{has, size}
use Rattle.pf_model.proofs.Search.{has-set, has-set_new, size-set, size-le-length}
use Rattle.pf_ratio.specs.declared.link.Link.{Link}
use Rattle.pf_ratio.specs.Marking.{IsEndMarked}

-- one link
pub first_marked : (link : Link) (old : List Bool) → link.first < length old → link.to_first ≡ true → has old link.second ≡ true → has old link.first ≡ false →
    IsEndMarked link old (set old link.first true) true
first_marked link old low asked held off = record {
  full = length-set old link.first true;
  more = λ v h. has-set old link.first v h;
  grows = omega (arith, size-set old link.first low off);
  still = λ e. absurd (false≢true (sym e));
  least = λ other keeps c v h. elim (has-set_new old link.first v h) [
    | inl same ↦ rw same (keeps.first_is (c link.second held) asked)
    | inr before ↦ c v before
  ];
  kept = λ e. absurd (false≢true (sym e));
}

pub second_marked : (link : Link) (old : List Bool) → link.second < length old → link.to_second ≡ true → has old link.first ≡ true → has old link.second ≡ false →
    IsEndMarked link old (set old link.second true) true
second_marked link old low asked held off = record {
  full = length-set old link.second true;
  more = λ v h. has-set old link.second v h;
  grows = omega (arith, size-set old link.second low off);
  still = λ e. absurd (false≢true (sym e));
  least = λ other keeps c v h. elim (has-set_new old link.second v h) [
    | inl same ↦ rw same (keeps.second_is (c link.first held) asked)
    | inr before ↦ c v before
  ];
  kept = λ e. absurd (false≢true (sym e));
}

-- rounds
smaller_step : (result changed : Bool) (l l' m m' : ℕ) → changed ≡ true → l' ≡ l → m + cond result 1 0 ≤ m' → m' ≤ l' →
    (l' - m') + cond result 1 0 < (l - m) + cond changed 1 0
smaller_step true true l l' m m' e same grows most = omega arith
smaller_step false true l l' m m' e same grows most = omega arith
smaller_step result false l l' m m' e same grows most = absurd (false≢true e)

pub round_smaller : (old new : List Bool) (changed result : Bool) → changed ≡ true → length new ≡ length old → size old + cond result 1 0 ≤ size new →
    (length new - size new) + cond result 1 0 < (length old - size old) + cond changed 1 0
round_smaller old new changed result e same grows =
    smaller_step result changed (length old) (length new) (size old) (size new) e same grows (size-le-length new)

-- tests on numbers, as links have them
pub less_told : (a b : ℤ) → int_lt a b ≡ true → a <ℤ b
less_told a b e = omega (arith, ints, e)

pub less_true : (a b : ℤ) → a <ℤ b → int_lt a b ≡ true
less_true a b e = grind (arith, ints)

-- what two sets that are contained in one another have
pub same_marks : (a b : Bool) → (a ≡ true → b ≡ true) → (b ≡ true → a ≡ true) → a ≡ b
same_marks true true f g = refl
same_marks true false f g = absurd (false≢true (f refl))
same_marks false true f g = absurd (false≢true (g refl))
same_marks false false f g = refl
