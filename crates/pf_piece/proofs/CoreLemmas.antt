-- The piece without the arcs between its ends is a monotone network within the limits.
use Rattle.std.proofs.Common.{◌≡◌, ℕ, suc, ◌+◌, ◌≤◌, List, [], ◌∷◌, length, refl, Bool, true, false, cond, not, ◌&&◌, ◌||◌, eqb, ltb, arith, ap, sym, ◌∙◌, inl, inr, eqb-true, eq-eqb, ne_eqb}
use Rattle.std.specs.Prelude.{ℤ, pos, int_le, All}
use Rattle.std.proofs.lemmas.Bool.Decides.{nat_tests}
use Rattle.std.proofs.lemmas.Bool.{cases_Bool, or_cases}
use Rattle.std.proofs.lemmas.List.Elements.{All-nil, All-cons}
use Rattle.pf_model.specs.declared.AffineArc.{AffineArc}
use Rattle.pf_model.specs.declared.Sense.{Sense}
use Rattle.pf_model.specs.declared.Sense.TheVariants.{Rising, Falling}
use Rattle.pf_model.specs.Cut.{has}
use Rattle.pf_model.specs.Network.{IsMonotone, IsMonotoneArc, fits_source, fits_sink}
use Rattle.pf_model.proofs.Affine.{no_arc}
use Rattle.pf_net.specs.Limits.{IsBuilt, IsSmallArc}
use Rattle.pf_piece.specs.Piece.{Between, AreNested, inner_before, place, renamed, arcs_between, with_inner_end, core_of}
use Rattle.pf_piece.proofs.Places.{place_below, place_in, place_out, two_not_inner}

-- the slope rule on the tests that it makes: a row for an arc whose head is inner, one for an arc whose tail is
head_step : (ts p0 fs ft : Bool) → (ts ≡ true → p0 ≡ true) → cond ts fs (ft && fs) ≡ true → cond p0 fs (ft && fs) ≡ true
head_step true true fs ft h e = e
head_step true false fs ft h e = absurd (let f = h refl in cc)
head_step false true fs true h e = e
head_step false true fs false h e = absurd cc
head_step false false fs ft h e = e

tail_step : (ht q1 fs ft : Bool) → (ht ≡ true → q1 ≡ true) → cond ht ft (ft && fs) ≡ true → cond q1 ft (ft && fs) ≡ true
tail_step true true fs ft h e = e
tail_step true false fs ft h e = absurd (let f = h refl in cc)
tail_step false true fs true h e = refl
tail_step false true fs false h e = absurd cc
tail_step false false fs ft h e = e

-- the rule as a function of its tests: the tail is the source, the head is it, the head is the sink, the tail is it
abbrev rule : Bool → Bool → Bool → Bool → Bool → Bool → Bool
rule ts hs ht tt fs ft = cond (ts && not hs && not ht) fs (cond (ht && not tt && not ts) ft (ft && fs))

head_rule : (ts hs ht tt p0 q0 q1 p1 fs ft : Bool) → hs ≡ false → ht ≡ false → q0 ≡ false → q1 ≡ false → (ts ≡ true → p0 ≡ true) →
    rule ts hs ht tt fs ft ≡ true → rule p0 q0 q1 p1 fs ft ≡ true
head_rule true false false tt true false false p1 fs ft a b c d h e = e
head_rule true false false tt false false false p1 fs ft a b c d h e = absurd (let f = h refl in cc)
head_rule false false false tt true false false p1 fs true a b c d h e = e
head_rule false false false tt true false false p1 fs false a b c d h e = absurd cc
head_rule false false false tt false false false p1 fs ft a b c d h e = e
head_rule ts true ht tt p0 q0 q1 p1 fs ft a b c d h e = absurd cc
head_rule ts false true tt p0 q0 q1 p1 fs ft a b c d h e = absurd cc
head_rule ts false false tt p0 true q1 p1 fs ft a b c d h e = absurd cc
head_rule ts false false tt p0 false true p1 fs ft a b c d h e = absurd cc

tail_rule : (ts hs ht tt p0 q0 q1 p1 fs ft : Bool) → ts ≡ false → tt ≡ false → p0 ≡ false → p1 ≡ false → (ht ≡ true → q1 ≡ true) →
    rule ts hs ht tt fs ft ≡ true → rule p0 q0 q1 p1 fs ft ≡ true
tail_rule true hs ht tt p0 q0 q1 p1 fs ft a b c d h e = absurd cc
tail_rule false hs ht true p0 q0 q1 p1 fs ft a b c d h e = absurd cc
tail_rule false hs ht false true q0 q1 p1 fs ft a b c d h e = absurd cc
tail_rule false hs ht false false q0 q1 true fs ft a b c d h e = absurd cc
tail_rule false hs true false false q0 true false fs ft a b c d h e = e
tail_rule false hs true false false q0 false false fs ft a b c d h e = absurd (let f = h refl in cc)
tail_rule false hs false false false q0 true false fs true a b c d h e = refl
tail_rule false hs false false false q0 true false fs false a b c d h e = absurd cc
tail_rule false hs false false false q0 false false fs ft a b c d h e = e

-- a node that another one than 0 and 1 stands for is neither the source nor the sink
source_place : (part : Between) (v : ℕ) → AreNested part.net part.small part.large → v ≡ part.net.source → place part.small part.large v ≡ 0
source_place part v nested e = place_in part.small part.large v (ap (has part.small) e ∙ nested.small_cut.with_source)

sink_place : (part : Between) (v : ℕ) → AreNested part.net part.small part.large → v ≡ part.net.sink → place part.small part.large v ≡ 1
sink_place part v nested e =
    let out = ap (has part.large) e ∙ nested.large_cut.without_sink in
    place_out part.small part.large v (not_small (has part.small v) (has part.large v) (nested.contained v) out) out
  where
    not_small : (s l : Bool) → (s ≡ true → l ≡ true) → l ≡ false → s ≡ false
    not_small true l h e = absurd (let f = h refl in cc)
    not_small false l h e = refl

-- the tests on a node, and on the node that stands for it
pub record Tested (s t v p : ℕ) : Type 0 where
  pub source : (v ≡ s) → p ≡ 0
  pub sink : (v ≡ t) → p ≡ 1

source_told : (s t v p : ℕ) → Tested s t v p → eqb v s ≡ true → eqb p 0 ≡ true
source_told s t v p h e = eq-eqb p 0 (h.source (eqb-true v s e))

sink_told : (s t v p : ℕ) → Tested s t v p → eqb v t ≡ true → eqb p 1 ≡ true
sink_told s t v p h e = eq-eqb p 1 (h.sink (eqb-true v t e))

not_source : (s t v p : ℕ) → Tested s t v p → ltb 1 p ≡ true → eqb v s ≡ false
not_source s t v p h e = ne_eqb v s (λ same. let f = h.source same in low f e)
  where
    low : p ≡ 0 → ltb 1 p ≡ true → ⊥
    low f e = grind (arith, nat_tests)

not_sink : (s t v p : ℕ) → Tested s t v p → ltb 1 p ≡ true → eqb v t ≡ false
not_sink s t v p h e = ne_eqb v t (λ same. let f = h.sink same in low f e)
  where
    low : p ≡ 1 → ltb 1 p ≡ true → ⊥
    low f e = grind (arith, nat_tests)

not_zero : (p : ℕ) → ltb 1 p ≡ true → eqb p 0 ≡ false
not_zero p e = grind (arith, nat_tests)

not_one : (p : ℕ) → ltb 1 p ≡ true → eqb p 1 ≡ false
not_one p e = grind (arith, nat_tests)

slope_kept : (s t u v p q : ℕ) (fs ft : Bool) → Tested s t u p → Tested s t v q → (ltb 1 p || ltb 1 q) ≡ true →
    rule (eqb u s) (eqb v s) (eqb v t) (eqb u t) fs ft ≡ true → rule (eqb p 0) (eqb q 0) (eqb q 1) (eqb p 1) fs ft ≡ true
slope_kept s t u v p q fs ft h k inner e = elim (or_cases (ltb 1 p) (ltb 1 q) inner) [
  | inl first ↦
      tail_rule (eqb u s) (eqb v s) (eqb v t) (eqb u t) (eqb p 0) (eqb q 0) (eqb q 1) (eqb p 1) fs ft
      (not_source s t u p h first) (not_sink s t u p h first) (not_zero p first) (not_one p first) (sink_told s t v q k) e
  | inr second ↦
      head_rule (eqb u s) (eqb v s) (eqb v t) (eqb u t) (eqb p 0) (eqb q 0) (eqb q 1) (eqb p 1) fs ft
      (not_source s t v q k second) (not_sink s t v q k second) (not_zero q second) (not_one q second) (source_told s t u p h) e
]

tested : (part : Between) (v : ℕ) → AreNested part.net part.small part.large → Tested part.net.source part.net.sink v (place part.small part.large v)
tested part v nested = record { source = source_place part v nested; sink = sink_place part v nested }

-- what holds of an arc of the core
pub record IsCoreArc (part : Between) (arc : AffineArc) : Type 0 where
  pub monotone : IsMonotoneArc (core_of part) arc
  pub small : IsSmallArc arc

-- the rule of a sense, of which the two slopes that an end may have are in either order
and_turned : (x y : Bool) → (x && y) ≡ (y && x)
and_turned true true = refl
and_turned true false = refl
and_turned false true = refl
and_turned false false = refl

rule_turned : (out into fs ft : Bool) → cond out fs (cond into ft (fs && ft)) ≡ cond out fs (cond into ft (ft && fs))
rule_turned out into fs ft = ap (λ z. cond out fs (cond into ft z)) (and_turned fs ft)

abbrev ruled : Sense → Bool → Bool → Bool → Bool → ℤ → Bool
ruled sense ts hs ht tt b =
    cond (ts && not hs && not ht) (fits_source sense b) (cond (ht && not tt && not ts) (fits_sink sense b) (int_le b (pos 0) && int_le (pos 0) b))

sense_kept : (sense : Sense) (s t u v p q : ℕ) (b : ℤ) → Tested s t u p → Tested s t v q → (ltb 1 p || ltb 1 q) ≡ true →
    ruled sense (eqb u s) (eqb v s) (eqb v t) (eqb u t) b ≡ true → ruled sense (eqb p 0) (eqb q 0) (eqb q 1) (eqb p 1) b ≡ true
sense_kept Rising s t u v p q b h k inner e = slope_kept s t u v p q (int_le (pos 0) b) (int_le b (pos 0)) h k inner e
sense_kept Falling s t u v p q b h k inner e =
    let before = rule_turned (eqb u s && not (eqb v s) && not (eqb v t)) (eqb v t && not (eqb u t) && not (eqb u s)) (int_le b (pos 0)) (int_le (pos 0) b) in
    let after = rule_turned (eqb p 0 && not (eqb q 0) && not (eqb q 1)) (eqb q 1 && not (eqb p 1) && not (eqb p 0)) (int_le b (pos 0)) (int_le (pos 0) b) in
    after ∙ slope_kept s t u v p q (int_le b (pos 0)) (int_le (pos 0) b) h k inner (sym before ∙ e)

pub core_arc : (part : Between) (arc : AffineArc) → AreNested part.net part.small part.large → IsMonotoneArc part.net arc → IsSmallArc arc →
    (ltb 1 (place part.small part.large arc.tail) || ltb 1 (place part.small part.large arc.head)) ≡ true → IsCoreArc part (renamed (place part.small part.large) arc)
core_arc part arc nested one small inner =
    record {
      monotone = record {
        tail = place_below part.small part.large arc.tail part.net.nodes one.tail;
        head = place_below part.small part.large arc.head part.net.nodes one.head;
        slope = sense_kept part.net.sense part.net.source part.net.sink arc.tail arc.head (place part.small part.large arc.tail) (place part.small part.large arc.head)
            arc.b (tested part arc.tail nested) (tested part arc.head nested) inner one.slope;
        low = one.low;
        high = one.high;
      };
      small = record { a_low = small.a_low; a_high = small.a_high; b_low = small.b_low; b_high = small.b_high };
    }

kept_step : (P : AffineArc → Type 0) (same : Bool) (first : AffineArc) (rest : List AffineArc) → All P (with_inner_end rest) →
    ((ltb 1 first.tail || ltb 1 first.head) ≡ true → P first) → All P (with_inner_end (cond same rest (first ∷ rest)))
kept_step P true first rest each here = each
kept_step P false first rest each here = elim (cases_Bool (ltb 1 first.tail || ltb 1 first.head)) [
  | inl e ↦ rw e (All-cons P first (with_inner_end rest) (here e) each)
  | inr e ↦ rw e each
]

core_arcs : (part : Between) → AreNested part.net part.small part.large → (arcs : List AffineArc) →
    All (IsMonotoneArc part.net) arcs → All IsSmallArc arcs → All (IsCoreArc part) (with_inner_end (arcs_between (place part.small part.large) arcs))
core_arcs part nested [] each small = All-nil (IsCoreArc part)
core_arcs part nested (arc ∷ arcs) each small =
    kept_step (IsCoreArc part) (eqb (place part.small part.large arc.tail) (place part.small part.large arc.head)) (renamed (place part.small part.large) arc)
    (arcs_between (place part.small part.large) arcs)
    (core_arcs part nested arcs (λ i d low. each (suc i) d (omega arith)) (λ i d low. small (suc i) d (omega arith)))
    (core_arc part arc nested (each 0 no_arc (omega arith)) (small 0 no_arc (omega arith)))

few_step : (same : Bool) (first : AffineArc) (rest : List AffineArc) (n : ℕ) → length rest ≤ n → length (cond same rest (first ∷ rest)) ≤ suc n
few_step true first rest n h = omega arith
few_step false first rest n h = omega arith

pub few_between : (small large : List Bool) (arcs : List AffineArc) → length (arcs_between (place small large) arcs) ≤ length arcs
few_between small large [] = omega arith
few_between small large (arc ∷ arcs) =
    few_step (eqb (place small large arc.tail) (place small large arc.head)) (renamed (place small large) arc) (arcs_between (place small large) arcs) (length arcs) (few_between small large arcs)

inner_step : (inner : Bool) (first : AffineArc) (rest : List AffineArc) (n : ℕ) → length rest ≤ n → length (cond inner (first ∷ rest) rest) ≤ suc n
inner_step true first rest n h = omega arith
inner_step false first rest n h = omega arith

pub few_with_inner_end : (arcs : List AffineArc) → length (with_inner_end arcs) ≤ length arcs
few_with_inner_end [] = omega arith
few_with_inner_end (arc ∷ arcs) = inner_step (ltb 1 arc.tail || ltb 1 arc.head) arc (with_inner_end arcs) (length arcs) (few_with_inner_end arcs)

not_inner_small : (s l : Bool) → s ≡ true → (not s && l) ≡ false
not_inner_small s l e = rw e refl

not_inner_large : (s l : Bool) → l ≡ false → (not s && l) ≡ false
not_inner_large true l e = refl
not_inner_large false l e = e

-- a piece has no more nodes than the network
pub few_nodes : (part : Between) → IsMonotone part.net → AreNested part.net part.small part.large →
    inner_before part.small part.large part.net.nodes + 2 ≤ part.net.nodes
few_nodes part m nested =
    two_not_inner part.small part.large part.net.source part.net.sink part.net.nodes m.apart m.source m.sink
    (not_inner_small (has part.small part.net.source) (has part.large part.net.source) nested.small_cut.with_source)
    (not_inner_large (has part.small part.net.sink) (has part.large part.net.sink) nested.large_cut.without_sink)

pub core_is_built : (part : Between) → IsBuilt part.net → AreNested part.net part.small part.large → IsBuilt (core_of part)
core_is_built part built nested =
    let m = built.monotone in
    let limits = built.limits in
    let each = core_arcs part nested part.net.arcs m.each limits.each in
    let nodes = few_nodes part m nested in
    let kept = few_between part.small part.large part.net.arcs in
    let inner = few_with_inner_end (arcs_between (place part.small part.large) part.net.arcs) in
    record {
      monotone = record {
        source = omega arith;
        sink = omega arith;
        apart = λ e. absurd (omega (arith, e));
        low = m.low;
        high = m.high;
        interval = m.interval;
        each = λ i d low. (each i d low).monotone;
      };
      limits = record {
        nodes = omega (arith, nodes, limits.nodes);
        arcs = omega (arith, kept, inner, limits.arcs);
        each = λ i d low. (each i d low).small;
        low = limits.low;
        high = limits.high;
      };
    }
