-- The greater of two valid labellings is valid, and raising labels leaves less to do.
use Rattle.std.proofs.Common.{◌≡◌, ◌≢◌, ℕ, ◌+◌, ◌*◌, ◌<◌, ◌≤◌, List, length, get_or, set, refl, arith, sym, ◌∙◌, inl, inr, below_more, subst}
use Rattle.std.specs.Prelude.{ℤ, ◌<ℤ◌, pos}
use Rattle.std.proofs.lemmas.Bool.{cases_eq, cases_lt}
use Rattle.std.proofs.lemmas.List.{length-set, get_or-set_same, get_or-set_other}
use Rattle.pf_model.specs.Cut.{FlowNetwork, IsProper, at_arc}
use Rattle.pf_model.specs.Digraph.{Digraph, network_of}
use Rattle.pf_model.specs.Residual.{IsResidual, HasValidLabels}
use Rattle.pf_preflow.specs.Engine.{AreLow}
use Rattle.pf_preflow.specs.Raising.{IsMax, AreRaised, IsOverGap, AreOverGap, KeepsState}
use Rattle.pf_preflow.specs.State.{IsSmall, IsState}
use Rattle.pf_preflow.proofs.Counting.{counted_raise}
use Rattle.pf_preflow.proofs.Work.{levelled, work_raised}

-- ---- validity by a look at each arc

pub record IsArcFine (g : Digraph) (caps flow : List ℤ) (labels : List ℕ) (i : ℕ) : Type 0 where
  pub there : at_arc flow i <ℤ at_arc caps i → get_or labels (get_or g.ends i (0, 0)).0 0 ≤ get_or labels (get_or g.ends i (0, 0)).1 0 + 1
  pub again : pos 0 <ℤ at_arc flow i → get_or labels (get_or g.ends i (0, 0)).1 0 ≤ get_or labels (get_or g.ends i (0, 0)).0 0 + 1

pub near : (labels : List ℕ) (p q a b : ℕ) → a ≡ p → b ≡ q → get_or labels a 0 ≤ get_or labels b 0 + 1 → get_or labels p 0 ≤ get_or labels q 0 + 1
near labels p q a b e f h = rw (← e, ← f) h

pub valid_by_arcs : (g : Digraph) (caps flow : List ℤ) (s t : ℕ) (labels : List ℕ) → length labels ≡ g.nodes → get_or labels s 0 ≡ g.nodes → get_or labels t 0 ≡ 0 →
    ((i : ℕ) → i < length g.ends → IsArcFine g caps flow labels i) → HasValidLabels (network_of g caps s t) flow labels
valid_by_arcs g caps flow s t labels full top bottom each = record {
  full = full;
  at_source = top;
  at_sink = bottom;
  step = λ p q r. elim r.by [
    | inl o ↦ near labels p q _ _ o.from o.to ((each r.arc r.in_range).there o.room)
    | inr o ↦ near labels p q _ _ o.from o.to ((each r.arc r.in_range).again o.room)
  ];
}

-- ---- the greater one

residual_from : (g : FlowNetwork) (flow : List ℤ) (p q : ℕ) → IsProper g → IsResidual g flow p q → (p < g.nodes) × (q < g.nodes)
residual_from g flow p q proper r =
    let a = proper.tails r.arc r.in_range in
    let b = proper.heads r.arc r.in_range in
    elim r.by [
      | inl o ↦ (let e = o.from in omega (arith, a, e), let e = o.to in omega (arith, b, e))
      | inr o ↦ (let e = o.from in omega (arith, b, e), let e = o.to in omega (arith, a, e))
    ]

max_of : (a b c n : ℕ) → IsMax a b c → a ≡ n → b ≡ n → c ≡ n
max_of a b c n m e f = elim m.either [ inl h ↦ h ∙ e | inr h ↦ h ∙ f ]

max_step : (a b c a' b' c' : ℕ) → IsMax a b c → IsMax a' b' c' → a ≤ a' + 1 → b ≤ b' + 1 → c ≤ c' + 1
max_step a b c a' b' c' m m' h k =
    let x = m'.first in
    let y = m'.second in
    elim m.either [ inl e ↦ omega (arith, e, x, h) | inr e ↦ omega (arith, e, y, k) ]

max_valid : (g : FlowNetwork) (flow : List ℤ) (labels other now : List ℕ) → IsProper g → HasValidLabels g flow labels → HasValidLabels g flow other → length now ≡ length labels →
    ((v : ℕ) → v < g.nodes → IsMax (get_or labels v 0) (get_or other v 0) (get_or now v 0)) → HasValidLabels g flow now
max_valid g flow labels other now proper d e full each = record {
  full = full ∙ d.full;
  at_source = max_of _ _ _ _ (each g.source proper.source) d.at_source e.at_source;
  at_sink = max_of _ _ _ _ (each g.sink proper.sink) d.at_sink e.at_sink;
  step = λ p q r.
      let ends = residual_from g flow p q proper r in
      max_step _ _ _ _ _ _ (each p ends.0) (each q ends.1) (d.step p q r) (e.step p q r);
}

-- ---- one label more

pub at_place : (labels : List ℕ) (v x u : ℕ) → v < length labels → u ≡ v → get_or (set labels v x) u 0 ≡ x
at_place labels v x u low same = rw (same, get_or-set_same) refl

pub off_place : (labels : List ℕ) (v x u : ℕ) → u ≢ v → get_or (set labels v x) u 0 ≡ get_or labels u 0
off_place labels v x u other = let ne : u ≢ v = other in rw get_or-set_other refl

low_set : (n : ℕ) (now other : List ℕ) (i : ℕ) → AreLow n now → AreLow n other → i < length now → AreLow n (set now i (get_or other i 0))
low_set n now other i low low' there u = elim (cases_eq u i) [
  | inl same ↦ let e = at_place now i (get_or other i 0) u there same in let h = low' i in omega (arith, e, h)
  | inr apart ↦ let e = off_place now i (get_or other i 0) u apart in let h = low u in omega (arith, e, h)
]

raise_up : (labels other now : List ℕ) (i steps steps' : ℕ) → AreRaised labels other now i steps steps' → i < length labels → get_or now i 0 < get_or other i 0 →
    AreRaised labels other (set now i (get_or other i 0)) (i + 1) steps (steps' + 1)
raise_up labels other now i steps steps' l low up =
    let full = l.full in
    let there : i < length now = omega (arith, full, low) in
    let old = l.behind i (omega arith) in
    record {
      full = length-set now i _ ∙ l.full;
      below = below_more (λ v. IsMax (get_or labels v 0) (get_or other v 0) (get_or (set now i (get_or other i 0)) v 0)) i
          (λ v h. let P : ℕ → Type 0 = λ c. IsMax (get_or labels v 0) (get_or other v 0) c in
          subst P (sym (off_place now i (get_or other i 0) v (omega (arith, h)))) (l.below v h))
          (let e = at_place now i (get_or other i 0) i there refl in record { first = omega (arith, e, old, up); second = omega (arith, e); either = inr e });
      behind = λ v h. off_place now i (get_or other i 0) v (omega (arith, h)) ∙ l.behind v (omega (arith, h));
      counted = λ start before c. counted_raise start now before steps' i (get_or other i 0) (l.counted start before c) there up;
      less = λ g flow small w a b whole.
          let before = l.less g flow small w a b whole in
          let after = low_set g.nodes now other i before.0 b there in
          let top = b i in
          let most = before.1 in
          let falls = work_raised g flow now i (get_or other i 0) there up (omega (arith, top)) (levelled g flow (set now i (get_or other i 0)) small w after) in
          (after, omega (arith, falls, most));
    }

raise_stays : (labels other now : List ℕ) (i steps steps' : ℕ) → AreRaised labels other now i steps steps' → get_or other i 0 ≤ get_or now i 0 →
    AreRaised labels other now (i + 1) steps steps'
raise_stays labels other now i steps steps' l most =
    let old = l.behind i (omega arith) in
    record {
      full = l.full;
      below = below_more (λ v. IsMax (get_or labels v 0) (get_or other v 0) (get_or now v 0)) i l.below
          (record { first = omega (arith, old); second = most; either = inl old });
      behind = λ v h. l.behind v (omega (arith, h));
      counted = l.counted;
      less = l.less;
    }

-- what one step of the loop did
pub record IsOneRaise (other now after : List ℕ) (i steps steps' : ℕ) : Type 0 where
  pub up : get_or now i 0 < get_or other i 0 → (after ≡ set now i (get_or other i 0)) × (steps' ≡ steps + 1)
  pub stays : get_or other i 0 ≤ get_or now i 0 → (after ≡ now) × (steps' ≡ steps)

pub raise_next : (labels other now after : List ℕ) (i steps steps' steps'' : ℕ) → AreRaised labels other now i steps steps' → i < length labels →
    IsOneRaise other now after i steps' steps'' → AreRaised labels other after (i + 1) steps steps''
raise_next labels other now after i steps steps' steps'' l low one = elim (cases_lt (get_or now i 0) (get_or other i 0)) [
  | inl up ↦ let e = one.up up in rw (e.0, e.1) (raise_up labels other now i steps steps' l low up)
  | inr high ↦ let e = one.stays high in rw (e.0, e.1) (raise_stays labels other now i steps steps' l high)
]

-- ---- over a gap

grows : (n gap b b' : ℕ) → 1 < n → IsOverGap n gap b b' → b ≤ b'
grows n gap b b' some l = elim (cases_lt gap b) [
  | inl over ↦ elim (cases_lt b n) [
    | inl low ↦ let e = l.up over low in omega (arith, e, low, some)
    | inr high ↦ let e = l.above high in omega (arith, e)
  ]
  | inr under ↦ let e = l.below under in omega (arith, e)
]

over_head : (n gap b b' : ℕ) → 1 < n → IsOverGap n gap b b' → gap ≤ b → n ≤ b'
over_head n gap b b' some l high =
    let off = l.off in
    let over : gap < b = omega (arith, off, high) in
    elim (cases_lt b n) [
      | inl low ↦ let e = l.up over low in omega (arith, e, some)
      | inr top ↦ let e = l.above top in omega (arith, e, top)
    ]

over_step : (n gap a a' b b' : ℕ) → 1 < n → IsOverGap n gap a a' → IsOverGap n gap b b' → a ≤ b + 1 → a' ≤ b' + 1
over_step n gap a a' b b' some l m h = elim (cases_lt gap a) [
  | inl over ↦ elim (cases_lt a n) [
    | inl low ↦
        let e = l.up over low in
        let k = over_head n gap b b' some m (omega (arith, over, h)) in
        omega (arith, e, k)
    | inr high ↦ let e = l.above high in let k = grows n gap b b' some m in omega (arith, e, k, h)
  ]
  | inr under ↦ let e = l.below under in let k = grows n gap b b' some m in omega (arith, e, k, h)
]

over_top : (n gap a a' : ℕ) → IsOverGap n gap a a' → a ≡ n → a' ≡ n
over_top n gap a a' l e = let h = l.above (omega (arith, e)) in omega (arith, h, e)

over_bottom : (n gap a a' : ℕ) → IsOverGap n gap a a' → a ≡ 0 → a' ≡ 0
over_bottom n gap a a' l e = let h = l.below (omega (arith, e)) in omega (arith, h, e)

-- where no label is the gap, no residual arc leads over it
pub over_valid : (g : FlowNetwork) (flow : List ℤ) (labels other : List ℕ) (gap n : ℕ) → IsProper g → HasValidLabels g flow labels → n ≡ g.nodes →
    AreOverGap n gap labels other n → HasValidLabels g flow other
over_valid g flow labels other gap n proper d e o =
    let low = proper.source in
    let low' = proper.sink in
    let apart = proper.apart in
    let some : 1 < n = omega (arith, low, low', apart, e) in
    record {
      full = o.full ∙ e;
      at_source = over_top n gap _ _ (o.each g.source (omega (arith, low, e))) (d.at_source ∙ sym e) ∙ e;
      at_sink = over_bottom n gap _ _ (o.each g.sink (omega (arith, low', e))) d.at_sink;
      step = λ p q r.
          let ends = residual_from g flow p q proper r in
          let a = ends.0 in
          let b = ends.1 in
          over_step n gap _ _ _ _ some (o.each p (omega (arith, a, e))) (o.each q (omega (arith, b, e))) (d.step p q r);
    }

low_put : (n : ℕ) (now : List ℕ) (i x : ℕ) → AreLow n now → x + 2 ≤ 2 * n → i < length now → AreLow n (set now i x)
low_put n now i x low h there u = elim (cases_eq u i) [
  | inl same ↦ let e = at_place now i x u there same in omega (arith, e, h)
  | inr apart ↦ let e = off_place now i x u apart in let k = low u in omega (arith, e, k)
]

pub over_next : (n gap : ℕ) (labels now : List ℕ) (i x : ℕ) → AreOverGap n gap labels now i → i < n → IsOverGap n gap (get_or labels i 0) x → x + 2 ≤ 2 * n →
    AreOverGap n gap labels (set now i x) (i + 1)
over_next n gap labels now i x o low l h =
    let full = o.full in
    let there : i < length now = omega (arith, full, low) in
    record {
      full = length-set now i x ∙ o.full;
      low = low_put n now i x o.low h there;
      each = below_more (λ v. IsOverGap n gap (get_or labels v 0) (get_or (set now i x) v 0)) i
          (λ v k. let P : ℕ → Type 0 = λ c. IsOverGap n gap (get_or labels v 0) c in
          subst P (sym (off_place now i x v (omega (arith, k)))) (o.each v k))
          (let P : ℕ → Type 0 = λ c. IsOverGap n gap (get_or labels i 0) c in subst P (sym (at_place now i x i there refl)) l);
    }

-- ---- all together

pub state_raised : (g : FlowNetwork) (flow : List ℤ) (labels other now : List ℕ) (extra : List ℤ) (i steps steps' : ℕ) → IsProper g → IsSmall g → IsState g flow labels extra →
    HasValidLabels g flow other → AreLow g.nodes other → AreRaised labels other now i steps steps' → g.nodes ≤ i → KeepsState g flow labels now extra steps steps'
state_raised g flow labels other now extra i steps steps' proper small s valid low l done =
    let less = l.less g flow small s.preflow.within s.low low s.valid.full in
    record {
      state = record {
        preflow = s.preflow;
        valid = max_valid g flow labels other now proper s.valid valid l.full (λ v h. l.below v (omega (arith, h, done)));
        low = less.0;
        excess = s.excess;
      };
      less = less.1;
      counted = l.counted;
    }
