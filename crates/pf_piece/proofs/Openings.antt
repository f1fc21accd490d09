-- Nodes and arcs of a piece, written one after the other.
use Rattle.std.proofs.Common.{◌≡◌, ◌≢◌, ℕ, zero, suc, ◌+◌, ◌<◌, ◌≤◌, List, [], ◌∷◌, ◌++◌, length, get_or, take, set, map, refl, Bool, true, false, cond, ◌||◌, eqb, ltb, add-one, pos, arith, ap, sym, ◌∙◌, inl, inr, get_or-set_same, get_or-set_other}
use Rattle.std.proofs.lemmas.Bool.{cases_eq}
use Rattle.std.proofs.lemmas.List.{append-nil, map_push, take_more_set, take-set-le, take_all, length-set, length-take-le, get_or-take, get_or-map}
use Rattle.pf_model.specs.declared.AffineArc.{AffineArc}
use Rattle.pf_model.specs.Cut.{has}
use Rattle.pf_model.specs.Network.{ends_of}
use Rattle.pf_piece.specs.Piece.{inner_before, is_inner, place, renamed, arcs_between, with_inner_end}
use Rattle.pf_piece.specs.Held.{placed, arc_at, AreKept}
use Rattle.pf_piece.proofs.Places.{few_inner}

-- the places of the first nodes, and the first free node
pub record IsPlacing (small large : List Bool) (places : List ℕ) (next v : ℕ) : Type 0 where
  pub full : length places ≡ length small
  pub next_is : next ≡ inner_before small large v + 2
  pub each : (u : ℕ) → u < v → get_or places u 0 ≡ place small large u

pub placing_begins : (small large : List Bool) (places : List ℕ) → length places ≡ length small → IsPlacing small large places 2 0
placing_begins small large places full = record { full = full; next_is = omega arith; each = λ u below. absurd (omega arith) }

pub placing_ends : (small large : List Bool) (places : List ℕ) (next v : ℕ) → IsPlacing small large places next v → length small ≤ v → v ≤ length small →
    next ≡ inner_before small large (length small) + 2
placing_ends small large places next v h done low =
    let same : v ≡ length small = omega arith in
    h.next_is ∙ ap (λ n. inner_before small large n + 2) same

pub added_few : (b : Bool) (n : ℕ) → n ≡ cond b 1 0 → n ≤ 1
added_few true n e = omega (arith, e)
added_few false n e = omega (arith, e)

pub placing_few : (small large : List Bool) (places : List ℕ) (next v : ℕ) → IsPlacing small large places next v → next ≤ v + 2
placing_few small large places next v h = let most = few_inner small large v in let e = h.next_is in omega (arith, most, e)

pub placing_more : (small large : List Bool) (places places' : List ℕ) (next next' v here more : ℕ) → IsPlacing small large places next v → v < length small →
    places' ≡ set places v here → here ≡ cond (has small v) 0 (cond (has large v) next 1) →
    next' ≡ next + more → more ≡ cond (is_inner small large v) 1 0 → IsPlacing small large places' next' (v + 1)
placing_more small large places places' next next' v here more h low written here_is e f = record {
  full = ap length written ∙ length-set places v here ∙ h.full;
  next_is =
      let step : inner_before small large (v + 1) ≡ inner_before small large v + cond (is_inner small large v) 1 0 = ap (inner_before small large) (add-one v) in
      let was = h.next_is in
      omega (arith, e, f, step, was);
  each = λ u below. elim (cases_eq u v) [
    | inl same ↦
        let there : v < length places = omega (arith, low, h.full) in
        let is : here ≡ place small large v = here_is ∙ ap (λ n. cond (has small v) 0 (cond (has large v) n 1)) h.next_is in
        rw same (ap (λ (xs : List ℕ). get_or xs v 0) written ∙ get_or-set_same places v here 0 there ∙ is)
    | inr other ↦ ap (λ (xs : List ℕ). get_or xs u 0) written ∙ get_or-set_other places v u here 0 other ∙ h.each u (omega (arith, below, other))
  ];
}

-- one arc more
between_step : (same here : Bool) (first : AffineArc) (xs ys : List AffineArc) (last : AffineArc) → xs ≡ ys ++ cond here [] (last ∷ []) →
    cond same xs (first ∷ xs) ≡ cond same ys (first ∷ ys) ++ cond here [] (last ∷ [])
between_step true here first xs ys last e = e
between_step false here first xs ys last e = ap (λ (zs : List AffineArc). first ∷ zs) e

first_step : (same : Bool) (first : AffineArc) → cond same [] (first ∷ []) ≡ [] ++ cond same [] (first ∷ [])
first_step true first = refl
first_step false first = refl

pub between_suc : (f : ℕ → ℕ) (arcs : List AffineArc) (i : ℕ) → i < length arcs →
    arcs_between f (take (suc i) arcs)
    ≡ arcs_between f (take i arcs) ++ cond (eqb (f (arc_at arcs i).tail) (f (arc_at arcs i).head)) [] (renamed f (arc_at arcs i) ∷ [])
between_suc f [] i low = absurd (omega arith)
between_suc f (arc ∷ arcs) zero low = first_step (eqb (f arc.tail) (f arc.head)) (renamed f arc)
between_suc f (arc ∷ arcs) (suc i) low =
    between_step (eqb (f arc.tail) (f arc.head)) (eqb (f (arc_at arcs i).tail) (f (arc_at arcs i).head)) (renamed f arc) _ _ (renamed f (arc_at arcs i))
    (between_suc f arcs i (omega arith))

-- the numbers that are kept of the first arcs
pub record IsKeeping (arcs : List AffineArc) (places kept : List ℕ) (count i : ℕ) : Type 0 where
  pub most : count ≤ i
  pub full : length kept ≡ length arcs
  pub known : (k : ℕ) → k < count → get_or kept k 0 < length arcs
  pub arcs_are : map (λ j. renamed (placed places) (arc_at arcs j)) (take count kept) ≡ arcs_between (placed places) (take i arcs)

pub kept_step : (loop : Bool) (arcs : List AffineArc) (places kept : List ℕ) (count count' i : ℕ) → IsKeeping arcs places kept count i → i < length arcs →
    eqb (placed places (arc_at arcs i).tail) (placed places (arc_at arcs i).head) ≡ loop → count' ≡ count + cond loop 0 1 →
    IsKeeping arcs places (set kept count i) count' (i + 1)
kept_step true arcs places kept count count' i h low is e =
    let same : count' ≡ count = omega (arith, e) in
    rw same (record {
      most = let m = h.most in omega (arith, m);
      full = length-set kept count i ∙ h.full;
      known = λ k less. let ne : k ≢ count = omega (arith, less) in rw (get_or-set_other kept count k i 0 ne) (h.known k less);
      arcs_are =
          ap (map (λ j. renamed (placed places) (arc_at arcs j))) (take-set-le count kept count i (omega arith)) ∙ h.arcs_are
          ∙ sym (ap (λ n. arcs_between (placed places) (take n arcs)) (add-one i) ∙ between_suc (placed places) arcs i low
          ∙ ap (λ b. arcs_between (placed places) (take i arcs) ++ cond b [] (renamed (placed places) (arc_at arcs i) ∷ [])) is
          ∙ append-nil (arcs_between (placed places) (take i arcs)));
    })
kept_step false arcs places kept count count' i h low is e =
    let more : count' ≡ count + 1 = omega (arith, e) in
    let there : count < length kept = (let m = h.most in let f = h.full in omega (arith, m, f, low)) in
    rw more (record {
      most = let m = h.most in omega (arith, m);
      full = length-set kept count i ∙ h.full;
      known = λ k less. elim (cases_eq k count) [
        | inl same ↦ rw (same, get_or-set_same kept count i 0 there) low
        | inr other ↦ rw (get_or-set_other kept count k i 0 other) (h.known k (omega (arith, less, other)))
      ];
      arcs_are =
          ap (map (λ j. renamed (placed places) (arc_at arcs j))) (take_more_set kept count i there)
          ∙ map_push (λ j. renamed (placed places) (arc_at arcs j)) (take count kept) i
          ∙ ap (λ (xs : List AffineArc). xs ++ renamed (placed places) (arc_at arcs i) ∷ []) h.arcs_are
          ∙ sym (ap (λ n. arcs_between (placed places) (take n arcs)) (add-one i) ∙ between_suc (placed places) arcs i low
          ∙ ap (λ b. arcs_between (placed places) (take i arcs) ++ cond b [] (renamed (placed places) (arc_at arcs i) ∷ [])) is);
    })

pub keeping_begins : (arcs : List AffineArc) (places kept : List ℕ) → length kept ≡ length arcs → IsKeeping arcs places kept 0 0
keeping_begins arcs places kept full = record {
  most = omega arith;
  full = full;
  known = λ k less. absurd (omega arith);
  arcs_are = refl;
}

pub keeping_ends : (arcs : List AffineArc) (places kept : List ℕ) (count i : ℕ) → IsKeeping arcs places kept count i → length arcs ≤ i → i ≤ length arcs →
    AreKept arcs places (take count kept)
keeping_ends arcs places kept count i h done low =
    let m = h.most in
    let f = h.full in
    let long : length (take count kept) ≡ count = length-take-le count kept (omega (arith, m, f, low)) in
    record {
      known = λ k less.
          let here : k < count = omega (arith, less, long) in
          rw (get_or-take count kept k 0 here) (h.known k here);
      arcs_are = h.arcs_are ∙ ap (arcs_between (placed places)) (take_all i arcs done);
    }

-- the arcs with an inner end
inner_step : (inner here : Bool) (first : AffineArc) (xs ys : List AffineArc) (last : AffineArc) → xs ≡ ys ++ cond here (last ∷ []) [] →
    cond inner (first ∷ xs) xs ≡ cond inner (first ∷ ys) ys ++ cond here (last ∷ []) []
inner_step true here first xs ys last e = ap (λ (zs : List AffineArc). first ∷ zs) e
inner_step false here first xs ys last e = e

one_step : (inner : Bool) (first : AffineArc) → cond inner (first ∷ []) [] ≡ [] ++ cond inner (first ∷ []) []
one_step true first = refl
one_step false first = refl

inner_suc : (arcs : List AffineArc) (i : ℕ) → i < length arcs →
    with_inner_end (take (suc i) arcs) ≡ with_inner_end (take i arcs) ++ cond (ltb 1 (arc_at arcs i).tail || ltb 1 (arc_at arcs i).head) (arc_at arcs i ∷ []) []
inner_suc [] i low = absurd (omega arith)
inner_suc (arc ∷ arcs) zero low = one_step (ltb 1 arc.tail || ltb 1 arc.head) arc
inner_suc (arc ∷ arcs) (suc i) low =
    inner_step (ltb 1 arc.tail || ltb 1 arc.head) (ltb 1 (arc_at arcs i).tail || ltb 1 (arc_at arcs i).head) arc _ _ (arc_at arcs i)
    (inner_suc arcs i (omega arith))

pub inner_more : (arcs old new : List AffineArc) (i : ℕ) (here : Bool) → i < length arcs → old ≡ with_inner_end (take i arcs) →
    here ≡ (ltb 1 (arc_at arcs i).tail || ltb 1 (arc_at arcs i).head) → new ≡ old ++ cond here (arc_at arcs i ∷ []) [] →
    new ≡ with_inner_end (take (i + 1) arcs)
inner_more arcs old new i here low before is step =
    step ∙ ap (λ (xs : List AffineArc). xs ++ cond here (arc_at arcs i ∷ []) []) before
    ∙ ap (λ b. with_inner_end (take i arcs) ++ cond b (arc_at arcs i ∷ []) []) is
    ∙ sym (ap (λ n. with_inner_end (take n arcs)) (add-one i) ∙ inner_suc arcs i low)

-- one side's value more
pub lifting_more : (places : List ℕ) (piece_side old new : List Bool) (v : ℕ) (here : Bool) → v < length old → new ≡ set old v here →
    here ≡ has piece_side (get_or places v 0) → ((u : ℕ) → u < v → has old u ≡ has piece_side (get_or places u 0)) →
    (u : ℕ) → u < v + 1 → has new u ≡ has piece_side (get_or places u 0)
lifting_more places piece_side old new v here low written is before u below = elim (cases_eq u v) [
  | inl same ↦ rw same (ap (λ (xs : List Bool). has xs v) written ∙ get_or-set_same old v here false low ∙ is)
  | inr other ↦ ap (λ (xs : List Bool). has xs u) written ∙ get_or-set_other old v u here false other ∙ before u (omega (arith, below, other))
]

-- the tail and the head of an arc of the network
pub tail_here : (arcs : List AffineArc) (i : ℕ) → i < length arcs → (get_or (map ends_of arcs) i (0, 0)).0 ≡ (arc_at arcs i).tail
tail_here arcs i low = ap (λ (e : ℕ × ℕ). e.0) (get_or-map ends_of arcs i (record { tail = 0; head = 0; a = pos 0; b = pos 0 }) (0, 0) low)

pub head_here : (arcs : List AffineArc) (i : ℕ) → i < length arcs → (get_or (map ends_of arcs) i (0, 0)).1 ≡ (arc_at arcs i).head
head_here arcs i low = ap (λ (e : ℕ × ℕ). e.1) (get_or-map ends_of arcs i (record { tail = 0; head = 0; a = pos 0; b = pos 0 }) (0, 0) low)
