-- The slots and the cuts at first: no slot holds an edge, and the slot i of a tree stands for an edge from vertex 0 to vertex i + 1.
use Rattle.std.proofs.Common.{◌≡◌, ℕ, zero, suc, ◌+◌, ◌-◌, ◌*◌, ◌%◌, ◌<◌, ◌≤◌, List, length, replicate, refl, Bool, false, arith, ap, sym, ◌∙◌}
use Rattle.std.specs.Prelude.{◌==◌}
use Rattle.std.proofs.lemmas.Bool.{ne_eqb}
use Rattle.std.proofs.lemmas.Bool.Decides.{nat_tests}
use Rattle.std.proofs.lemmas.List.{length-replicate}
use Rattle.std.proofs.lemmas.Nat.{mod_below, mod-mul-add}
use Rattle.pf_trees.specs.Sides.{differ, separates, first_cut}
use Rattle.pf_trees.specs.Slots.{at, IsPlaced}
use Rattle.pf_trees.specs.State.{IsBasis, IsState}
use Rattle.pf_trees.proofs.Bases.{crosses_same, crossed_not}
use Rattle.pf_trees.proofs.Filled.{block_high}

abbrev first_pair : ℕ → ℕ → ℕ × ℕ
first_pair w s = (0, s % w + 1)

place_in : (c w s : ℕ) → c * w ≤ s → s < c * w + w → s % w ≡ s - c * w
place_in c w s low high =
    let e : s ≡ c * w + (s - c * w) = omega arith in
    ap (λ x. x % w) e ∙ mod-mul-add c w (s - c * w) (omega arith)

dual_first : (s t a b lo : ℕ) → s ≡ lo + a → t ≡ lo + b → differ (0 == b + 1) (a + 1 == b + 1) ≡ (s == t)
dual_first s t a b lo e f = rw (ne_eqb 0 (b + 1) (λ g. omega arith)) (same_test s t a b lo e f)
  where
    same_test : (s t a b lo : ℕ) → s ≡ lo + a → t ≡ lo + b → (a + 1 == b + 1) ≡ (s == t)
    same_test s t a b lo e f = grind (arith, nat_tests)

first_basis : (n w k c : ℕ) (cut : ℕ → ℕ → Bool) → n ≡ w + 1 → 0 < w → c < k → ((r v : ℕ) → r < k * w → v < n → cut r v ≡ first_cut w r v) →
    IsBasis n (c * w) w (first_pair w) cut
first_basis n w k c cut e hw hc is =
    let high = block_high w k c hc in
    record {
      first = λ s ls hs. omega arith;
      second = λ s ls hs. let l = mod_below s w hw in omega (arith, l);
      dual = λ s t ls hs lt ht.
          let l = mod_below s w hw in
          crosses_same (cut t) (first_cut w t) (first_pair w s) (is t 0 (omega arith) (omega arith)) (is t (s % w + 1) (omega arith) (omega (arith, l)))
          ∙ dual_first s t (s % w) (t % w) (c * w) (let p = place_in c w s ls hs in omega (arith, p)) (let p = place_in c w t lt ht in omega (arith, p));
      spans = λ side none u v hu hv. from_first n w c side e none u hu ∙ sym (from_first n w c side e none v hv);
    }
  where
    from_first : (n w c : ℕ) (side : ℕ → Bool) → n ≡ w + 1 → ((s : ℕ) → c * w ≤ s → s < c * w + w → separates side (first_pair w s) ≡ false) → (v : ℕ) → v < n → side v ≡ side 0
    from_first n w c side e none zero h = refl
    from_first n w c side e none (suc i) h =
        let m : (c * w + i) % w ≡ i = mod-mul-add c w i (omega arith) in
        let f : (c * w + i) % w + 1 ≡ suc i = omega (arith, m) in
        sym (crossed_not side (first_pair w (c * w + i)) (none (c * w + i) (omega arith) (omega arith)) ∙ ap side f)

pub at_replicate : (n x i : ℕ) → i < n → at (replicate n x) i ≡ x
at_replicate zero x i h = absurd (omega arith)
at_replicate (suc n) x zero h = refl
at_replicate (suc n) x (suc i) h = at_replicate n x i (omega arith)

first_placed : (m t : ℕ) (slot place : List ℕ) → slot ≡ replicate t m → place ≡ replicate m t → IsPlaced m t slot place
first_placed m t slot place e f =
    let s_is : (s : ℕ) → s < t → at slot s ≡ m = λ s h. ap (λ l. at l s) e ∙ at_replicate t m s h in
    let p_is : (x : ℕ) → x < m → at place x ≡ t = λ x h. ap (λ l. at l x) f ∙ at_replicate m t x h in
    record {
      slots_full = ap length e ∙ length-replicate t m;
      places_full = ap length f ∙ length-replicate m t;
      slots_most = λ s h. rw (s_is s h) (omega arith);
      places_most = λ x h. rw (p_is x h) (omega arith);
      back = λ s h l. absurd (let g = s_is s h in omega (arith, g));
      forth = λ x h l. absurd (let g = p_is x h in omega (arith, g));
    }

pub state_begins : (n w k : ℕ) (ends : List (ℕ × ℕ)) (cut : ℕ → ℕ → Bool) (slot place : List ℕ) → n ≡ w + 1 → 0 < w → slot ≡ replicate (k * w) (length ends) → place ≡ replicate (length ends) (k * w) →
    ((r v : ℕ) → r < k * w → v < n → cut r v ≡ first_cut w r v) → IsState n w k ends cut slot place
state_begins n w k ends cut slot place e hw es ep is = record {
  pair = first_pair w;
  placed = first_placed (length ends) (k * w) slot place es ep;
  bases = λ c h. first_basis n w k c cut e hw h is;
  pairs = λ s h l. absurd (let g = ap (λ l. at l s) es ∙ at_replicate (k * w) (length ends) s h in omega (arith, g));
}
