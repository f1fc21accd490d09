-- A flow at one parameter, filled and cut for a greater one: a preflow, for which the labels are valid still.
use Rattle.std.proofs.Common.{◌≡◌, ◌≢◌, ℕ, ◌<◌, ◌≤◌, List, length, get_or, refl, Bool, true, false, ◌&&◌, eqb, arith, ap, sym, ◌∙◌, inl, inr}
use Rattle.std.specs.Prelude.{ℤ, ◌+ℤ◌, ◌*ℤ◌, ◌≤ℤ◌, ◌<ℤ◌, pos, nat_lt, ◌==◌}
use Rattle.std.proofs.lemmas.Int.{ints}
use Rattle.std.proofs.lemmas.Bool.{cases_Bool, cases_eq, eqb-true, eq-eqb, ne_eqb, and_parts}
use Rattle.std.proofs.lemmas.Bool.Decides.{nat_tests}
use Rattle.std.proofs.lemmas.List.{length-map, get_or-map}
use Rattle.pf_model.specs.declared.Sense.TheVariants.{Rising}
use Rattle.pf_model.specs.declared.AffineArc.{AffineArc}
use Rattle.pf_model.specs.Cut.{at_arc}
use Rattle.pf_model.specs.Flow.{IsFlow, IsWithin, IsPreflow}
use Rattle.pf_model.specs.Residual.{HasValidLabels}
use Rattle.pf_model.specs.Digraph.{Digraph, network_of}
use Rattle.pf_model.specs.Network.{Network, capacity_at, ends_of}
use Rattle.pf_model.proofs.Integers.{mul_most, mul_most_negative}
use Rattle.pf_model.proofs.Sums.{sum_where_most}
use Rattle.pf_model.proofs.Affine.{Rises, rises, no_arc, arc_at, ends_here}
use Rattle.pf_carry.specs.Carry.{least_of}
use Rattle.pf_net.specs.Limits.{IsBuilt, digraph_of}
use Rattle.pf_sweep.specs.Parameters.{of_units}
use Rattle.pf_sweep.specs.Moving.{caps_of, is_filled, fitted}
use Rattle.pf_model.proofs.Facts.{not_lower}

-- the tail and the head of arc i
abbrev pub tail_of : Digraph → ℕ → ℕ
tail_of g i = (get_or g.ends i (0, 0)).0

abbrev pub head_of : Digraph → ℕ → ℕ
head_of g i = (get_or g.ends i (0, 0)).1

-- ---- capacities at a greater parameter

-- only arcs out of the source rise, and only arcs into the sink fall
pub record IsLater (g : Digraph) (s t : ℕ) (caps caps' : List ℤ) : Type 0 where
  pub falls : (i : ℕ) → i < length g.ends → tail_of g i ≢ s → at_arc caps' i ≤ℤ at_arc caps i
  pub rise : (i : ℕ) → i < length g.ends → head_of g i ≢ t → at_arc caps i ≤ℤ at_arc caps' i

up : (a b u p p' : ℤ) → pos 0 ≤ℤ b → p ≤ℤ p' → ((a *ℤ u) +ℤ (b *ℤ p)) ≤ℤ ((a *ℤ u) +ℤ (b *ℤ p'))
up a b u p p' h k = let e = mul_most b p p' h k in omega (arith, ints, e)

down : (a b u p p' : ℤ) → b ≤ℤ pos 0 → p ≤ℤ p' → ((a *ℤ u) +ℤ (b *ℤ p')) ≤ℤ ((a *ℤ u) +ℤ (b *ℤ p))
down a b u p p' h k = let e = mul_most_negative b p p' h k in omega (arith, ints, e)

arc_falls : (s t : ℕ) (arc : AffineArc) (u p p' : ℤ) → Rises s t arc → p ≤ℤ p' → arc.tail ≢ s → capacity_at (of_units u p') arc ≤ℤ capacity_at (of_units u p) arc
arc_falls s t arc u p p' r k off = elim r [
  | inl out ↦ absurd (off out.0)
  | inr other ↦ elim other [
    | inl into ↦ down arc.a arc.b u p p' into.1 k
    | inr flat ↦ down arc.a arc.b u p p' (omega (arith, ints, flat)) k
  ]
]

arc_rises : (s t : ℕ) (arc : AffineArc) (u p p' : ℤ) → Rises s t arc → p ≤ℤ p' → arc.head ≢ t → capacity_at (of_units u p) arc ≤ℤ capacity_at (of_units u p') arc
arc_rises s t arc u p p' r k off = elim r [
  | inl out ↦ up arc.a arc.b u p p' out.1 k
  | inr other ↦ elim other [
    | inl into ↦ absurd (off into.0)
    | inr flat ↦ up arc.a arc.b u p p' (omega (arith, ints, flat)) k
  ]
]

pub cap_here : (net : Network) (u p : ℤ) (i : ℕ) → i < length net.arcs → at_arc (caps_of net u p) i ≡ capacity_at (of_units u p) (arc_at net i)
cap_here net u p i low = get_or-map (capacity_at (of_units u p)) net.arcs i no_arc (pos 0) low

pub caps_later : (net : Network) (u p p' : ℤ) → IsBuilt net → net.sense ≡ Rising → p ≤ℤ p' → IsLater (digraph_of net) net.source net.sink (caps_of net u p) (caps_of net u p')
caps_later net u p p' b rising order = record {
  falls = λ i low off.
      let here : i < length net.arcs = omega (arith, low, length-map net.arcs ends_of) in
      let r = rises net.source net.sink (arc_at net i) (rw rising at (b.monotone.each i no_arc here).slope) in
      let e = ends_here net i here in
      let apart : (arc_at net i).tail ≢ net.source = λ h. off (ap (λ (arc : ℕ × ℕ). arc.0) e ∙ h) in
      rw (cap_here net u p i here, cap_here net u p' i here) (arc_falls net.source net.sink (arc_at net i) u p p' r order apart);
  rise = λ i low off.
      let here : i < length net.arcs = omega (arith, low, length-map net.arcs ends_of) in
      let r = rises net.source net.sink (arc_at net i) (rw rising at (b.monotone.each i no_arc here).slope) in
      let e = ends_here net i here in
      let apart : (arc_at net i).head ≢ net.sink = λ h. off (ap (λ (arc : ℕ × ℕ). arc.1) e ∙ h) in
      rw (cap_here net u p i here, cap_here net u p' i here) (arc_rises net.source net.sink (arc_at net i) u p p' r order apart);
}

-- ---- what an arc carries from now on

least_first : (x y : ℤ) → least_of x y ≤ℤ x
least_first x y = grind (arith, ints)

least_second : (x y : ℤ) → least_of x y ≤ℤ y
least_second x y = grind (arith, ints)

least_both : (x y z : ℤ) → z ≤ℤ x → z ≤ℤ y → z ≤ℤ least_of x y
least_both x y z h k = grind (arith, ints)

least_twice : (x y : ℤ) → least_of x (least_of x y) ≡ least_of x y
least_twice x y = grind (arith, ints)

pub least_stays : (x y : ℤ) → y ≤ℤ x → least_of x y ≡ y
least_stays x y h = grind (arith, ints)

least_room : (x y : ℤ) → least_of x y <ℤ x → y <ℤ x
least_room x y h = grind (arith, ints)

pub fitted_low : (filled : Bool) (cap x : ℤ) → pos 0 ≤ℤ cap → pos 0 ≤ℤ x → pos 0 ≤ℤ fitted filled cap x
fitted_low true cap x h k = h
fitted_low false cap x h k = least_both cap x (pos 0) h k

pub fitted_high : (filled : Bool) (cap x : ℤ) → fitted filled cap x ≤ℤ cap
fitted_high true cap x = omega (arith, ints)
fitted_high false cap x = least_first cap x

fitted_more : (filled : Bool) (cap x : ℤ) → x ≤ℤ cap → x ≤ℤ fitted filled cap x
fitted_more true cap x h = h
fitted_more false cap x h = least_both cap x x h (omega (arith, ints))

fitted_less : (filled : Bool) (cap x : ℤ) → filled ≡ false → fitted filled cap x ≤ℤ x
fitted_less true cap x h = cc
fitted_less false cap x h = least_second cap x

fitted_full : (filled : Bool) (cap x : ℤ) → filled ≡ true → fitted filled cap x ≡ cap
fitted_full true cap x h = refl
fitted_full false cap x h = cc

fitted_room : (filled : Bool) (cap x : ℤ) → filled ≡ false → fitted filled cap x <ℤ cap → x <ℤ cap
fitted_room true cap x h k = cc
fitted_room false cap x h k = least_room cap x k

pub fitted_stays : (filled : Bool) (cap x : ℤ) → filled ≡ false → x ≤ℤ cap → fitted filled cap x ≡ x
fitted_stays true cap x h k = cc
fitted_stays false cap x h k = least_stays cap x k

pub fitted_twice : (filled : Bool) (cap x : ℤ) → fitted filled cap (fitted filled cap x) ≡ fitted filled cap x
fitted_twice true cap x = refl
fitted_twice false cap x = least_twice cap x

and_first : (x y : Bool) → x ≡ false → (x && y) ≡ false
and_first true y h = cc
and_first false y h = refl

and_second : (x y : Bool) → x ≡ true → (x && y) ≡ false → y ≡ false
and_second true y h k = k
and_second false y h k = cc

lt_told : (x y : ℕ) → nat_lt x y ≡ true → x < y
lt_told x y h = grind (arith, nat_tests)

pub not_filled : (g : Digraph) (labels : List ℕ) (s i : ℕ) → tail_of g i ≢ s → is_filled g labels s i ≡ false
not_filled g labels s i off = and_first (eqb (tail_of g i) s) (nat_lt (get_or labels (head_of g i) 0) g.nodes) (ne_eqb (tail_of g i) s off)

-- an arc that is filled leaves the source, and its head has a low label
record IsLow (g : Digraph) (labels : List ℕ) (s i : ℕ) : Type 0 where
  from : tail_of g i ≡ s
  label : get_or labels (head_of g i) 0 < g.nodes

filled_is : (g : Digraph) (labels : List ℕ) (s i : ℕ) → is_filled g labels s i ≡ true → IsLow g labels s i
filled_is g labels s i h =
    let parts = and_parts (eqb (tail_of g i) s) (nat_lt (get_or labels (head_of g i) 0) g.nodes) h in
    record { from = eqb-true (tail_of g i) s parts.0; label = lt_told (get_or labels (head_of g i) 0) g.nodes parts.1 }

-- the head of each other arc out of the source has a high one
high_label : (g : Digraph) (labels : List ℕ) (s i : ℕ) → is_filled g labels s i ≡ false → tail_of g i ≡ s → g.nodes ≤ get_or labels (head_of g i) 0
high_label g labels s i h from =
    not_lower (get_or labels (head_of g i) 0) g.nodes
    (and_second (eqb (tail_of g i) s) (nat_lt (get_or labels (head_of g i) 0) g.nodes) (eq-eqb (tail_of g i) s from) h)

-- all numbers so
pub record IsStepped (g : Digraph) (labels : List ℕ) (s : ℕ) (wanted flow flow' : List ℤ) : Type 0 where
  pub full : length flow' ≡ length g.ends
  pub each : (i : ℕ) → i < length g.ends → at_arc flow' i ≡ fitted (is_filled g labels s i) (at_arc wanted i) (at_arc flow i)

pub stepped_within : (g : Digraph) (s t : ℕ) (caps caps' flow flow' : List ℤ) (labels : List ℕ) → IsWithin (network_of g caps s t) flow →
    ((i : ℕ) → i < length g.ends → pos 0 ≤ℤ at_arc caps' i) → IsStepped g labels s caps' flow flow' → IsWithin (network_of g caps' s t) flow'
stepped_within g s t caps caps' flow flow' labels w low n = record {
  full = n.full;
  low = λ i h. rw (n.each i h) (fitted_low (is_filled g labels s i) (at_arc caps' i) (at_arc flow i) (low i h) (w.low i h));
  high = λ i h. rw (n.each i h) (fitted_high (is_filled g labels s i) (at_arc caps' i) (at_arc flow i));
}

more_in : (g : Digraph) (s t : ℕ) (caps caps' flow flow' : List ℤ) (labels : List ℕ) (v i : ℕ) → IsWithin (network_of g caps s t) flow → IsLater g s t caps caps' →
    IsStepped g labels s caps' flow flow' → i < length g.ends → v ≢ t → head_of g i ≡ v → at_arc flow i ≤ℤ at_arc flow' i
more_in g s t caps caps' flow flow' labels v i w l n low apart to =
    let high = w.high i low in
    let rise = l.rise i low (λ h. apart (sym to ∙ h)) in
    rw (n.each i low) (fitted_more (is_filled g labels s i) (at_arc caps' i) (at_arc flow i) (omega (arith, ints, high, rise)))

less_out : (g : Digraph) (s : ℕ) (caps' flow flow' : List ℤ) (labels : List ℕ) (v i : ℕ) →
    IsStepped g labels s caps' flow flow' → i < length g.ends → v ≢ s → tail_of g i ≡ v → at_arc flow' i ≤ℤ at_arc flow i
less_out g s caps' flow flow' labels v i n low apart from =
    rw (n.each i low) (fitted_less (is_filled g labels s i) (at_arc caps' i) (at_arc flow i) (not_filled g labels s i (λ h. apart (sym from ∙ h))))

pub stepped_preflow : (g : Digraph) (s t : ℕ) (caps caps' flow flow' : List ℤ) (labels : List ℕ) → IsFlow (network_of g caps s t) flow → IsLater g s t caps caps' →
    ((i : ℕ) → i < length g.ends → pos 0 ≤ℤ at_arc caps' i) → IsStepped g labels s caps' flow flow' → IsPreflow (network_of g caps' s t) flow'
stepped_preflow g s t caps caps' flow flow' labels f l low n = record {
  within = stepped_within g s t caps caps' flow flow' labels f.within low n;
  given = λ v node a b.
      let old = f.kept v node a b in
      let into = sum_where_most (λ arc. arc.1 == v) g.ends flow flow'
      (λ i h. more_in g s t caps caps' flow flow' labels v i f.within l n h.in_range b (eqb-true _ v h.passes)) in
      let out = sum_where_most (λ arc. arc.0 == v) g.ends flow' flow
      (λ i h. less_out g s caps' flow flow' labels v i n h.in_range a (eqb-true _ v h.passes)) in
      omega (arith, ints, old, into, out);
}

-- ---- the labels

pub stepped_valid : (g : Digraph) (s t : ℕ) (caps caps' flow flow' : List ℤ) (labels : List ℕ) → HasValidLabels (network_of g caps s t) flow labels → IsLater g s t caps caps' →
    IsStepped g labels s caps' flow flow' → HasValidLabels (network_of g caps' s t) flow' labels
stepped_valid g s t caps caps' flow flow' labels d l n = record {
  full = d.full;
  at_source = d.at_source;
  at_sink = d.at_sink;
  step = λ v w r. elim r.by [
    | inl way ↦
        let i = r.arc in
        let e = n.each i r.in_range in
        let room = way.room in
        elim (cases_Bool (is_filled g labels s i)) [
          | inl filled ↦
              let full = fitted_full (is_filled g labels s i) (at_arc caps' i) (at_arc flow i) filled in
              absurd (omega (arith, ints, e, room, full))
          | inr cut ↦ elim (cases_eq (tail_of g i) s) [
            | inl here ↦
                let high = high_label g labels s i cut here in
                let at_v = ap (λ k. get_or labels k 0) (sym way.from ∙ here) in
                let at_w = ap (λ k. get_or labels k 0) way.to in
                let source = d.at_source in
                omega (arith, high, at_v, at_w, source)
            | inr off ↦
                let less = fitted_room (is_filled g labels s i) (at_arc caps' i) (at_arc flow i) cut (omega (arith, ints, e, room)) in
                let falls = l.falls i r.in_range off in
                d.step v w (record { arc = i; in_range = r.in_range; by = inl (record { from = way.from; to = way.to; room = omega (arith, ints, less, falls) }) })
          ]
        ]
    | inr way ↦
        let i = r.arc in
        let e = n.each i r.in_range in
        let room = way.room in
        elim (cases_Bool (is_filled g labels s i)) [
          | inl filled ↦
              let low = filled_is g labels s i filled in
              let small = low.label in
              let at_v = ap (λ k. get_or labels k 0) way.from in
              let at_w = ap (λ k. get_or labels k 0) (sym way.to ∙ low.from) in
              let source = d.at_source in
              omega (arith, small, at_v, at_w, source)
          | inr cut ↦
              let less = fitted_less (is_filled g labels s i) (at_arc caps' i) (at_arc flow i) cut in
              d.step v w (record { arc = i; in_range = r.in_range; by = inr (record { from = way.from; to = way.to; room = omega (arith, ints, e, room, less) }) })
        ]
  ];
}
