-- Labels given from the left: the label of the first vertex of the same group, or one more than the greatest so far.
use Rattle.std.proofs.Common.{◌≡◌, ◌≢◌, ℕ, suc, ◌+◌, ◌<◌, ◌≤◌, List, length, take, set, refl, cond, ltb, arith, ap, sym, ◌∙◌, inl, inr, subst, add-one}
use Rattle.std.specs.Prelude.{◌⊎◌}
use Rattle.std.proofs.lemmas.Bool.{cases_lt}
use Rattle.std.proofs.lemmas.Bool.Decides.{nat_tests}
use Rattle.std.proofs.lemmas.Grind.{common_steps}
use Rattle.std.proofs.lemmas.List.{length-set, get_or-set_same, get_or-set_other, get_or-take}
use Rattle.pf_graph.specs.Labels.{label, greatest_label, IsPartition, IsPartitionOf}
use Rattle.pf_graph.specs.Keeping.{IsKeptPartition}
use Rattle.pf_graph.proofs.Counting.{label_top}
use Rattle.pf_graph.proofs.SamePartition.{top_take}

-- the first v vertices have their labels, of which count is the greatest
pub record IsNumbered (groups labels : List ℕ) (v count : ℕ) : Type 0 where
  pub full : length labels ≡ length groups
  pub few : count ≤ v
  pub low : (u : ℕ) → u < v → 1 ≤ label labels u
  pub high : (u : ℕ) → u < v → label labels u ≤ greatest_label (take u labels) + 1
  pub count_is : count ≡ greatest_label (take v labels)
  pub to : (u w : ℕ) → u < v → w < v → label groups u ≡ label groups w → label labels u ≡ label labels w
  pub back : (u w : ℕ) → u < v → w < v → label labels u ≡ label labels w → label groups u ≡ label groups w

pub begins : (groups labels : List ℕ) → length labels ≡ length groups → IsNumbered groups labels 0 0
begins groups labels full = record {
  full = full;
  few = omega arith;
  low = λ u less. absurd (omega (arith, less));
  high = λ u less. absurd (omega (arith, less));
  count_is = refl;
  to = λ u w less. absurd (omega (arith, less));
  back = λ u w less. absurd (omega (arith, less));
}

-- the label that vertex v gets: an old one, or a new one
pub record IsNext (groups labels : List ℕ) (v count : ℕ) (l count' : ℕ) : Type 0 where
  pub low : 1 ≤ l
  pub high : l ≤ count + 1
  pub count_is : count' ≡ cond (ltb count l) l count
  pub to : (u : ℕ) → u < v → label groups u ≡ label groups v → label labels u ≡ l
  pub back : (u : ℕ) → u < v → label labels u ≡ l → label groups u ≡ label groups v

old_count : (l count : ℕ) → l ≤ count → count ≡ cond (ltb count l) l count
old_count l count h = grind (arith, nat_tests)

new_count : (count : ℕ) → count + 1 ≡ cond (ltb count (count + 1)) (count + 1) count
new_count count = grind (arith, nat_tests)

top_before : (labels : List ℕ) (v u : ℕ) → u < v → label labels u ≤ greatest_label (take v labels)
top_before labels v u less =
    let e = get_or-take v labels u 0 less in
    let most = label_top (take v labels) u in
    omega (arith, most, e)

pub next_old : (groups labels : List ℕ) (v count w : ℕ) → IsNumbered groups labels v count → w < v → label groups w ≡ label groups v →
    IsNext groups labels v count (label labels w) count
next_old groups labels v count w n before same =
    let most = top_before labels v w before in
    let is = n.count_is in
    record {
      low = n.low w before;
      high = omega (arith, most, is);
      count_is = old_count (label labels w) count (omega (arith, most, is));
      to = λ u less e. n.to u w less before (e ∙ sym same);
      back = λ u less e. n.back u w less before e ∙ same;
    }

pub next_new : (groups labels : List ℕ) (v count : ℕ) → IsNumbered groups labels v count → ((u : ℕ) → u < v → label groups u ≢ label groups v) →
    IsNext groups labels v count (count + 1) (count + 1)
next_new groups labels v count n none = record {
  low = omega arith;
  high = omega arith;
  count_is = new_count count;
  to = λ u less e. absurd (none u less e);
  back = λ u less e. absurd (let most = top_before labels v u less in let is = n.count_is in omega (arith, most, is, e));
}

take_set : (labels : List ℕ) (u v l : ℕ) → u ≤ v → take u (set labels v l) ≡ take u labels
take_set labels u v l h = grind (arith, common_steps)

label_other : (labels : List ℕ) (u v l : ℕ) → u < v → label (set labels v l) u ≡ label labels u
label_other labels u v l less = let ne : u ≢ v = (λ e. omega (arith, e, less)) in get_or-set_other labels v u l 0 ne

earlier : (u v : ℕ) → u < suc v → (u < v) ⊎ (u ≡ v)
earlier u v less = elim (cases_lt u v) [
  | inl before ↦ inl before
  | inr after ↦ inr (omega (arith, less, after))
]

fewer : (count l count' v : ℕ) → count' ≡ cond (ltb count l) l count → l ≤ count + 1 → count ≤ v → count' ≤ suc v
fewer count l count' v e h k = grind (arith, nat_tests)

pub goes_on : (groups labels : List ℕ) (v count l count' : ℕ) → IsNumbered groups labels v count → IsNext groups labels v count l count' →
    v < length groups → IsNumbered groups (set labels v l) (suc v) count'
goes_on groups labels v count l count' n next low =
    let full = n.full in
    let in_range : v < length labels = omega (arith, low, full) in
    let here : label (set labels v l) v ≡ l = get_or-set_same labels v l 0 in_range in
    let other = λ (u : ℕ) (less : u < v). label_other labels u v l less in
    let is = n.count_is in
    let is' = next.count_is in
    let high' = next.high in
    let few = n.few in
    let split = λ (u : ℕ) (less : u < suc v). earlier u v less in
    let more : v < length (set labels v l) = (let e = length-set labels v l in omega (arith, e, in_range)) in
    record {
      full = length-set labels v l ∙ full;
      few = fewer count l count' v is' high' few;
      low = λ u less. elim (split u less) [
        | inl before ↦ let a = other u before in let b = n.low u before in omega (arith, a, b)
        | inr now ↦ let a = ap (label (set labels v l)) now ∙ here in let b = next.low in omega (arith, a, b)
      ];
      high = λ u less. elim (split u less) [
        | inl before ↦
            let a = other u before in
            let b = n.high u before in
            let c = ap greatest_label (take_set labels u v l (omega (arith, before))) in
            omega (arith, a, b, c)
        | inr now ↦
            let a = ap (label (set labels v l)) now ∙ here in
            let c = ap (λ k. greatest_label (take k (set labels v l))) now ∙ ap greatest_label (take_set labels v v l (omega arith)) in
            omega (arith, a, c, is, high')
      ];
      count_is = is' ∙ ap (λ t. cond (ltb t l) l t) (is ∙ sym (ap greatest_label (take_set labels v v l (omega arith))))
          ∙ sym (ap (λ k. cond (ltb (greatest_label (take v (set labels v l))) k) k (greatest_label (take v (set labels v l)))) here)
          ∙ sym (top_take (set labels v l) v more);
      to = λ u w less less' same. elim (split u less) [
        | inl before ↦ elim (split w less') [
          | inl before' ↦ other u before ∙ n.to u w before before' same ∙ sym (other w before')
          | inr now' ↦ other u before ∙ next.to u before (same ∙ ap (label groups) now') ∙ sym (ap (label (set labels v l)) now' ∙ here)
        ]
        | inr now ↦ elim (split w less') [
          | inl before' ↦ ap (label (set labels v l)) now ∙ here ∙ sym (next.to w before' (sym same ∙ ap (label groups) now)) ∙ sym (other w before')
          | inr now' ↦ ap (label (set labels v l)) (now ∙ sym now')
        ]
      ];
      back = λ u w less less' same. elim (split u less) [
        | inl before ↦ elim (split w less') [
          | inl before' ↦ n.back u w before before' (sym (other u before) ∙ same ∙ other w before')
          | inr now' ↦ next.back u before (sym (other u before) ∙ same ∙ ap (label (set labels v l)) now' ∙ here) ∙ sym (ap (label groups) now')
        ]
        | inr now ↦ elim (split w less') [
          | inl before' ↦ ap (label groups) now ∙ sym (next.back w before' (sym (other w before') ∙ sym same ∙ ap (label (set labels v l)) now ∙ here))
          | inr now' ↦ ap (label groups) (now ∙ sym now')
        ]
      ];
    }

pub ends : (groups labels : List ℕ) (v count : ℕ) → IsNumbered groups labels v count → length groups ≤ v → IsPartitionOf groups labels
ends groups labels v count n all = record {
  partition = record {
    full = n.full;
    low = λ u less. n.low u (omega (arith, less, all));
    high = λ u less. n.high u (omega (arith, less, all));
  };
  same = record {
    to = record { joins = λ u w less less' e. n.to u w (omega (arith, less, all)) (omega (arith, less', all)) e };
    back = record { joins = λ u w less less' e. n.back u w (omega (arith, less, all)) (omega (arith, less', all)) e };
  };
}

pub kept : (groups labels : List ℕ) (count : ℕ) → IsPartitionOf groups labels → count ≡ greatest_label labels → 0 < length groups → length groups ≤ 8192 → IsKeptPartition labels count
kept groups labels count p e some few =
    let full = p.partition.full in
    record {
      some = omega (arith, some, full);
      few = omega (arith, few, full);
      partition = (let P : ℕ → Type 0 = λ n. IsPartition n labels in subst P (sym full) p.partition);
      count_is = e;
    }

-- one turn of the loop, with its results by equations
next_turn : (groups labels labels' : List ℕ) (v count l count' : ℕ) → IsNumbered groups labels v count → IsNext groups labels v count l count' →
    v < length groups → labels' ≡ set labels v l → IsNumbered groups labels' (v + 1) count'
next_turn groups labels labels' v count l count' n next low e =
    let there : IsNumbered groups (set labels v l) (suc v) count' = goes_on groups labels v count l count' n next low in
    let P : List ℕ → Type 0 = λ xs. IsNumbered groups xs (v + 1) count' in
    subst P (sym e) (rw add-one there)

pub turn_old : (groups labels labels' : List ℕ) (v count w count' : ℕ) → IsNumbered groups labels v count → v < length groups →
    w ≤ v → w ≢ v → label groups w ≡ label groups v → labels' ≡ set labels v (label labels w) → count' ≡ count → IsNumbered groups labels' (v + 1) count'
turn_old groups labels labels' v count w count' n low before other same e f =
    let next = next_old groups labels v count w n (omega (arith, before, other)) same in
    let P : ℕ → Type 0 = λ k. IsNumbered groups labels' (v + 1) k in
    subst P (sym f) (next_turn groups labels labels' v count (label labels w) count n next low e)

pub turn_new : (groups labels labels' : List ℕ) (v count w count' : ℕ) → IsNumbered groups labels v count → v < length groups →
    w ≡ v → ((u : ℕ) → u < w → label groups u ≢ label groups v) → labels' ≡ set labels v (count + 1) → count' ≡ count + 1 →
    IsNumbered groups labels' (v + 1) count'
turn_new groups labels labels' v count w count' n low here none e f =
    let next = next_new groups labels v count n (λ u less. none u (omega (arith, less, here))) in
    let P : ℕ → Type 0 = λ k. IsNumbered groups labels' (v + 1) k in
    subst P (sym f) (next_turn groups labels labels' v count (count + 1) (count + 1) n next low e)
