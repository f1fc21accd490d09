-- Arcs out of the source and into the sink get their new capacities one after the other.
use Rattle.std.proofs.Common.{◌≡◌, ◌≢◌, ℕ, ◌+◌, ◌<◌, ◌≤◌, ◌^◌, List, length, get_or, set, refl, arith, ap, sym, ◌∙◌, inl, inr, zero-add, subst}
use Rattle.std.specs.Prelude.{ℤ, ◌≤ℤ◌, ◌<ℤ◌, pos, ◌⊎◌, ◌==◌}
use Rattle.std.proofs.lemmas.Int.{ints}
use Rattle.std.proofs.lemmas.Bool.{cases_eq, cases_lt, eq-eqb}
use Rattle.std.proofs.lemmas.List.{length-set, get_or-set_same, get_or-set_other, ext_get_or}
use Rattle.pf_model.specs.Cut.{at_arc}
use Rattle.pf_model.specs.Flow.{IsWithin}
use Rattle.pf_model.specs.Digraph.{Digraph, network_of, arcs_out, arcs_in}
use Rattle.pf_model.proofs.Numbers.{numbers_find}
use Rattle.pf_frame.specs.Numbers.{IsBounded}
use Rattle.pf_sweep.specs.Moving.{is_filled, fitted, IsTouched, IsLeft, IsMoving, IsAtEnds}
use Rattle.pf_sweep.proofs.Stepping.{tail_of, head_of, IsLater, IsStepped, fitted_low, fitted_high, fitted_stays, fitted_twice, not_filled}

-- arc i stands in the list before place k
pub record StandsBefore (items : List ℕ) (k i : ℕ) : Type 0 where
  pub place : ℕ
  pub before : place < k
  pub is : get_or items place 0 ≡ i

pub moving_begins : (g : Digraph) (labels : List ℕ) (s : ℕ) (wanted caps flow : List ℤ) (items : List ℕ) → length caps ≡ length g.ends → length flow ≡ length g.ends →
    IsMoving g labels s wanted caps flow caps flow (StandsBefore items 0)
moving_begins g labels s wanted caps flow items a b = record {
  caps_full = a;
  flow_full = b;
  each = λ i low. inr (record { room = refl; load = refl });
  touched = λ i low d. let h = d.before in absurd (omega (arith, h));
}

-- what arc i carries is within the bounds
pub moving_bounds : (g : Digraph) (labels : List ℕ) (s : ℕ) (wanted caps flow caps' flow' : List ℤ) (done : ℕ → Type 0) (i : ℕ) → IsBounded g wanted → IsBounded g flow →
    IsMoving g labels s wanted caps flow caps' flow' done → i < length g.ends → (pos 0 ≤ℤ at_arc flow' i) × (at_arc flow' i <ℤ pos (2 ^ 104))
moving_bounds g labels s wanted caps flow caps' flow' done i w f m low = elim (m.each i low) [
  | inl now ↦
      let e = now.load in
      let wl = w.low i low in let wh = w.high i low in let fl = f.low i low in
      let a = fitted_low (is_filled g labels s i) (at_arc wanted i) (at_arc flow i) wl fl in
      let b = fitted_high (is_filled g labels s i) (at_arc wanted i) (at_arc flow i) in
      (omega (arith, ints, e, a), omega (arith, ints, e, b, wh))
  | inr old ↦
      let e = old.load in
      let fl = f.low i low in let fh = f.high i low in
      (omega (arith, ints, e, fl), omega (arith, ints, e, fh))
]

-- what the arc of a step holds afterwards
touched_here : (g : Digraph) (labels : List ℕ) (s : ℕ) (wanted flow caps' flow' caps'' flow'' : List ℤ) (i : ℕ) (y : ℤ) →
    (at_arc flow' i ≡ fitted (is_filled g labels s i) (at_arc wanted i) (at_arc flow i)) ⊎ (at_arc flow' i ≡ at_arc flow i) →
    caps'' ≡ set caps' i (at_arc wanted i) → flow'' ≡ set flow' i y → y ≡ fitted (is_filled g labels s i) (at_arc wanted i) (at_arc flow' i) →
    i < length caps' → i < length flow' → IsTouched g labels s wanted flow caps'' flow'' i
touched_here g labels s wanted flow caps' flow' caps'' flow'' i y was e f is a b =
    let again : fitted (is_filled g labels s i) (at_arc wanted i) (at_arc flow' i) ≡ fitted (is_filled g labels s i) (at_arc wanted i) (at_arc flow i) =
    elim was [
      | inl now ↦ ap (λ z. fitted (is_filled g labels s i) (at_arc wanted i) z) now ∙ fitted_twice (is_filled g labels s i) (at_arc wanted i) (at_arc flow i)
      | inr old ↦ ap (λ z. fitted (is_filled g labels s i) (at_arc wanted i) z) old
    ] in
    record {
      room = ap (λ xs. at_arc xs i) e ∙ get_or-set_same caps' i (at_arc wanted i) (pos 0) a;
      load = ap (λ xs. at_arc xs i) f ∙ get_or-set_same flow' i y (pos 0) b ∙ is ∙ again;
    }

stays_at : (xs xs' : List ℤ) (i k : ℕ) (y : ℤ) → xs' ≡ set xs i y → k ≢ i → at_arc xs' k ≡ at_arc xs k
stays_at xs xs' i k y e other = let ne : k ≢ i = other in rw (e, get_or-set_other) refl

touched_stays : (g : Digraph) (labels : List ℕ) (s : ℕ) (wanted flow caps' flow' caps'' flow'' : List ℤ) (k : ℕ) → at_arc caps'' k ≡ at_arc caps' k → at_arc flow'' k ≡ at_arc flow' k →
    IsTouched g labels s wanted flow caps' flow' k → IsTouched g labels s wanted flow caps'' flow'' k
touched_stays g labels s wanted flow caps' flow' caps'' flow'' k e f t = record { room = e ∙ t.room; load = f ∙ t.load }

left_stays : (caps flow caps' flow' caps'' flow'' : List ℤ) (k : ℕ) → at_arc caps'' k ≡ at_arc caps' k → at_arc flow'' k ≡ at_arc flow' k →
    IsLeft caps flow caps' flow' k → IsLeft caps flow caps'' flow'' k
left_stays caps flow caps' flow' caps'' flow'' k e f t = record { room = e ∙ t.room; load = f ∙ t.load }

-- one more arc
pub moving_more : (g : Digraph) (labels : List ℕ) (s : ℕ) (wanted caps flow caps' flow' caps'' flow'' : List ℤ) (done done' : ℕ → Type 0) (i : ℕ) (y : ℤ) →
    IsMoving g labels s wanted caps flow caps' flow' done → i < length g.ends →
    caps'' ≡ set caps' i (at_arc wanted i) → flow'' ≡ set flow' i y → y ≡ fitted (is_filled g labels s i) (at_arc wanted i) (at_arc flow' i) →
    ((k : ℕ) → done' k → (k ≡ i) ⊎ done k) → IsMoving g labels s wanted caps flow caps'' flow'' done'
moving_more g labels s wanted caps flow caps' flow' caps'' flow'' done done' i y m low e f is split =
    let long = m.caps_full in
    let wide = m.flow_full in
    let was : (at_arc flow' i ≡ fitted (is_filled g labels s i) (at_arc wanted i) (at_arc flow i)) ⊎ (at_arc flow' i ≡ at_arc flow i) =
    elim (m.each i low) [ inl now ↦ inl now.load | inr old ↦ inr old.load ] in
    let here : IsTouched g labels s wanted flow caps'' flow'' i =
    touched_here g labels s wanted flow caps' flow' caps'' flow'' i y was e f is (omega (arith, long, low)) (omega (arith, wide, low)) in
    let P : ℕ → Type 0 = λ k. IsTouched g labels s wanted flow caps'' flow'' k in
    record {
      caps_full = ap length e ∙ length-set caps' i (at_arc wanted i) ∙ m.caps_full;
      flow_full = ap length f ∙ length-set flow' i y ∙ m.flow_full;
      each = λ k there. elim (cases_eq k i) [
        | inl same ↦ inl (subst P (sym same) here)
        | inr other ↦ elim (m.each k there) [
          | inl now ↦ inl (touched_stays g labels s wanted flow caps' flow' caps'' flow'' k (stays_at caps' caps'' i k (at_arc wanted i) e other) (stays_at flow' flow'' i k y f other) now)
          | inr old ↦ inr (left_stays caps flow caps' flow' caps'' flow'' k (stays_at caps' caps'' i k (at_arc wanted i) e other) (stays_at flow' flow'' i k y f other) old)
        ]
      ];
      touched = λ k there d. elim (cases_eq k i) [
        | inl same ↦ subst P (sym same) here
        | inr other ↦ elim (split k d) [
          | inl same ↦ absurd (other same)
          | inr old ↦ touched_stays g labels s wanted flow caps' flow' caps'' flow'' k (stays_at caps' caps'' i k (at_arc wanted i) e other) (stays_at flow' flow'' i k y f other) (m.touched k there old)
        ]
      ];
    }

-- fewer that pass
pub moving_of : (g : Digraph) (labels : List ℕ) (s : ℕ) (wanted caps flow caps' flow' : List ℤ) (done done' : ℕ → Type 0) → IsMoving g labels s wanted caps flow caps' flow' done →
    ((k : ℕ) → k < length g.ends → done' k → done k) → IsMoving g labels s wanted caps flow caps' flow' done'
moving_of g labels s wanted caps flow caps' flow' done done' m sub = record {
  caps_full = m.caps_full;
  flow_full = m.flow_full;
  each = m.each;
  touched = λ k low d. m.touched k low (sub k low d);
}

-- ---- the lists of arcs

pub before_more : (items : List ℕ) (k i : ℕ) → StandsBefore items (k + 1) i → (i ≡ get_or items k 0) ⊎ StandsBefore items k i
before_more items k i b = elim (cases_lt b.place k) [
  | inl less ↦ inr (record { place = b.place; before = less; is = b.is })
  | inr most ↦ let h = b.before in let same : b.place ≡ k = omega (arith, h, most) in inl (sym b.is ∙ ap (λ j. get_or items j 0) same)
]

-- after the second list: those of the first list, and those before a place of the second
abbrev pub IsPast : Digraph → ℕ → List ℕ → ℕ → ℕ → Type 0
IsPast g s items k i = (tail_of g i ≡ s) ⊎ StandsBefore items k i

pub past_more : (g : Digraph) (s : ℕ) (items : List ℕ) (k i : ℕ) → IsPast g s items (k + 1) i → (i ≡ get_or items k 0) ⊎ IsPast g s items k i
past_more g s items k i p = elim p [
  | inl from ↦ inr (inl from)
  | inr b ↦ elim (before_more items k i b) [ inl same ↦ inl same | inr old ↦ inr (inr old) ]
]

out_stands : (g : Digraph) (s i : ℕ) (items : List ℕ) (k : ℕ) → items ≡ arcs_out g s → length items ≤ k → i < length g.ends → tail_of g i ≡ s → StandsBefore items k i
out_stands g s i items k e all low from =
    let f = numbers_find (λ arc. arc.0 == s) 0 g.ends i low (eq-eqb (tail_of g i) s from) in
    let there = f.in_range in
    let long = ap length e in
    record { place = f.place; before = omega (arith, there, long, all); is = ap (λ xs. get_or xs f.place 0) e ∙ f.is ∙ zero-add i }

in_stands : (g : Digraph) (t i : ℕ) (items : List ℕ) (k : ℕ) → items ≡ arcs_in g t → length items ≤ k → i < length g.ends → head_of g i ≡ t → StandsBefore items k i
in_stands g t i items k e all low to =
    let f = numbers_find (λ arc. arc.1 == t) 0 g.ends i low (eq-eqb (head_of g i) t to) in
    let there = f.in_range in
    let long = ap length e in
    record { place = f.place; before = omega (arith, there, long, all); is = ap (λ xs. get_or xs f.place 0) e ∙ f.is ∙ zero-add i }

-- the first list is done, and the second begins
pub second_begins : (g : Digraph) (labels : List ℕ) (s : ℕ) (wanted caps flow caps' flow' : List ℤ) (items items' : List ℕ) (k : ℕ) → items ≡ arcs_out g s → length items ≤ k →
    IsMoving g labels s wanted caps flow caps' flow' (StandsBefore items k) → IsMoving g labels s wanted caps flow caps' flow' (IsPast g s items' 0)
second_begins g labels s wanted caps flow caps' flow' items items' k e all m =
    moving_of g labels s wanted caps flow caps' flow' (StandsBefore items k) (IsPast g s items' 0) m
    (λ i low p. elim p [
      | inl from ↦ out_stands g s i items k e all low from
      | inr b ↦ let h = b.before in absurd (omega (arith, h))
    ])

-- both are done
pub moving_ends : (g : Digraph) (labels : List ℕ) (s t : ℕ) (wanted caps flow caps' flow' : List ℤ) (items : List ℕ) (k : ℕ) → items ≡ arcs_in g t → length items ≤ k →
    IsMoving g labels s wanted caps flow caps' flow' (IsPast g s items k) → IsMoving g labels s wanted caps flow caps' flow' (IsAtEnds g s t)
moving_ends g labels s t wanted caps flow caps' flow' items k e all m =
    moving_of g labels s wanted caps flow caps' flow' (IsPast g s items k) (IsAtEnds g s t) m
    (λ i low p. elim p [
      | inl from ↦ inl from
      | inr to ↦ inr (in_stands g t i items k e all low to)
    ])

-- ---- all of them

flat : (g : Digraph) (s t : ℕ) (caps wanted : List ℤ) (i : ℕ) → IsLater g s t caps wanted → i < length g.ends → tail_of g i ≢ s → head_of g i ≢ t → at_arc caps i ≡ at_arc wanted i
flat g s t caps wanted i l low a b =
    let falls = l.falls i low a in
    let rise = l.rise i low b in
    omega (arith, ints, falls, rise)

pub moved_caps : (g : Digraph) (labels : List ℕ) (s t : ℕ) (wanted caps flow caps' flow' : List ℤ) → length wanted ≡ length g.ends → IsLater g s t caps wanted →
    IsMoving g labels s wanted caps flow caps' flow' (IsAtEnds g s t) → caps' ≡ wanted
moved_caps g labels s t wanted caps flow caps' flow' full l m =
    let long = m.caps_full in
    ext_get_or (pos 0) caps' wanted (omega (arith, long, full)) (λ i h.
    let low : i < length g.ends = omega (arith, h, long) in
    elim (cases_eq (tail_of g i) s) [
      | inl from ↦ (m.touched i low (inl from)).room
      | inr a ↦ elim (cases_eq (head_of g i) t) [
        | inl to ↦ (m.touched i low (inr to)).room
        | inr b ↦ elim (m.each i low) [ inl now ↦ now.room | inr old ↦ old.room ∙ flat g s t caps wanted i l low a b ]
      ]
    ])

pub moved_flow : (g : Digraph) (labels : List ℕ) (s t : ℕ) (wanted caps flow caps' flow' : List ℤ) → IsLater g s t caps wanted → IsWithin (network_of g caps s t) flow →
    IsMoving g labels s wanted caps flow caps' flow' (IsAtEnds g s t) → IsStepped g labels s wanted flow flow'
moved_flow g labels s t wanted caps flow caps' flow' l w m = record {
  full = m.flow_full;
  each = λ i low. elim (cases_eq (tail_of g i) s) [
    | inl from ↦ (m.touched i low (inl from)).load
    | inr a ↦ elim (cases_eq (head_of g i) t) [
      | inl to ↦ (m.touched i low (inr to)).load
      | inr b ↦ elim (m.each i low) [
        | inl now ↦ now.load
        | inr old ↦
            let e = flat g s t caps wanted i l low a b in
            let high = w.high i low in
            old.load ∙ sym (fitted_stays (is_filled g labels s i) (at_arc wanted i) (at_arc flow i) (not_filled g labels s i a) (omega (arith, ints, e, high)))
      ]
    ]
  ];
}
