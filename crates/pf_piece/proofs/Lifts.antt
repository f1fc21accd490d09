-- A side of a piece and the side of the network that stands for it.
use Rattle.std.proofs.Common.{◌≡◌, ℕ, zero, suc, List, [], ◌∷◌, map, refl, Bool, true, false, cond, not, ◌&&◌, ◌||◌, eqb, ltb, arith, ap, ap₂, sym, ◌∙◌, inl, inr, eqb-true}
use Rattle.std.specs.Prelude.{ℤ, ◌+ℤ◌, pos}
use Rattle.std.proofs.lemmas.Int.{ints}
use Rattle.std.proofs.lemmas.Bool.{cases_lt}
use Rattle.std.proofs.lemmas.Bool.Decides.{nat_tests}
use Rattle.std.proofs.lemmas.List.{get_or_past}
use Rattle.pf_model.specs.declared.AffineArc.{AffineArc}
use Rattle.pf_model.specs.Fraction.{Fraction}
use Rattle.pf_model.specs.Line.{AffineLine}
use Rattle.pf_model.specs.Cut.{IsContained, sum_where, leaves, has, capacity}
use Rattle.pf_model.specs.Network.{IsNetworkCut, network_at, capacity_at, ends_of, line_of}
use Rattle.pf_piece.specs.Piece.{Between, AreNested, IsLift, place, renamed, arcs_between, with_inner_end, piece_of}
use Rattle.pf_piece.specs.Laws.{IsCutBetween}
use Rattle.pf_piece.proofs.Places.{place_in, place_out}

-- the rule of a lift holds of every number, also of those that are no node
pub lift_each : (part : Between) (side whole : List Bool) → AreNested part.net part.small part.large → IsNetworkCut (piece_of part) side → IsLift part side whole →
    (v : ℕ) → has whole v ≡ has side (place part.small part.large v)
lift_each part side whole nested cut lift v = elim (cases_lt v part.net.nodes) [
  | inl less ↦ lift.each v less
  | inr past ↦
      let here : has whole v ≡ false = get_or_past whole v false (omega (arith, past, lift.full)) in
      let small : has part.small v ≡ false = get_or_past part.small v false (omega (arith, past, nested.small_cut.full)) in
      let large : has part.large v ≡ false = get_or_past part.large v false (omega (arith, past, nested.large_cut.full)) in
      here ∙ sym cut.without_sink ∙ ap (has side) (sym (place_out part.small part.large v small large))
]

none_leaves : (a b : Bool) → a ≡ b → (a && not b) ≡ false
none_leaves a b e = rw e (both b)
  where
    both : (b : Bool) → (b && not b) ≡ false
    both true = refl
    both false = refl

between_step : (same here : Bool) (p : ℕ × ℕ → Bool) (n : AffineArc → ℤ) (first : AffineArc) (x y : ℤ) (rest : List AffineArc) →
    (same ≡ true → here ≡ false) → here ≡ p (ends_of first) → n first ≡ x → y ≡ sum_where p (map ends_of rest) (map n rest) →
    cond here x (pos 0) +ℤ y ≡ sum_where p (map ends_of (cond same rest (first ∷ rest))) (map n (cond same rest (first ∷ rest)))
between_step true here p n first x y rest h e f k =
    let none = ap (λ b. cond b x (pos 0)) (h refl) in
    omega (arith, ints, none, k)
between_step false here p n first x y rest h e f k =
    let first_is = ap₂ (λ b z. cond b z (pos 0)) e (sym f) in
    omega (arith, ints, first_is, k)

-- the sum over the arcs that leave the lift is that over the piece's arcs that leave the side
between_lists : (small large side whole : List Bool) (n : AffineArc → ℤ) → ((arc : AffineArc) → n (renamed (place small large) arc) ≡ n arc) →
    ((v : ℕ) → has whole v ≡ has side (place small large v)) → (arcs : List AffineArc) →
    sum_where (leaves whole) (map ends_of arcs) (map n arcs)
    ≡ sum_where (leaves side) (map ends_of (arcs_between (place small large) arcs)) (map n (arcs_between (place small large) arcs))
between_lists small large side whole n h each [] = refl
between_lists small large side whole n h each (arc ∷ arcs) =
    between_step (eqb (place small large arc.tail) (place small large arc.head)) (leaves whole (ends_of arc)) (leaves side) n (renamed (place small large) arc) (n arc) _
    (arcs_between (place small large) arcs)
    (λ same. none_leaves (has whole arc.tail) (has whole arc.head)
    (each arc.tail ∙ ap (has side) (eqb-true _ _ same) ∙ sym (each arc.head)))
    (ap₂ (λ a b. a && not b) (each arc.tail) (each arc.head)) (h arc) (between_lists small large side whole n h each arcs)

pub capacity_lifts : (part : Between) (x : Fraction) (side whole : List Bool) → AreNested part.net part.small part.large →
    IsNetworkCut (piece_of part) side → IsLift part side whole →
    capacity (network_at part.net x) whole ≡ capacity (network_at (piece_of part) x) side
capacity_lifts part x side whole nested cut lift =
    between_lists part.small part.large side whole (capacity_at x) (λ arc. refl) (lift_each part side whole nested cut lift) part.net.arcs

abbrev line : ℤ → ℤ → AffineLine
line a b = record { a = a; b = b }

pub line_lifts : (part : Between) (side whole : List Bool) → AreNested part.net part.small part.large →
    IsNetworkCut (piece_of part) side → IsLift part side whole → line_of part.net whole ≡ line_of (piece_of part) side
line_lifts part side whole nested cut lift =
    let each = lift_each part side whole nested cut lift in
    ap₂ line
    (between_lists part.small part.large side whole (λ arc. arc.a) (λ arc. refl) each part.net.arcs)
    (between_lists part.small part.large side whole (λ arc. arc.b) (λ arc. refl) each part.net.arcs)

pub lift_is_between : (part : Between) (side whole : List Bool) → AreNested part.net part.small part.large →
    IsNetworkCut (piece_of part) side → IsLift part side whole → IsCutBetween part whole
lift_is_between part side whole nested cut lift =
    let each = lift_each part side whole nested cut lift in
    let above : IsContained part.small whole = λ v e. each v ∙ ap (has side) (place_in part.small part.large v e) ∙ cut.with_source in
    let outside : (v : ℕ) → has part.large v ≡ false → has whole v ≡ false = λ v e.
    each v ∙ ap (has side) (place_out part.small part.large v (not_small (has part.small v) (has part.large v) (nested.contained v) e) e) ∙ cut.without_sink in
    record {
      cut = record {
        full = lift.full;
        with_source = above part.net.source nested.small_cut.with_source;
        without_sink = outside part.net.sink nested.large_cut.without_sink;
      };
      above = above;
      below = λ v e. told (has part.large v) (has whole v) (outside v) e;
    }
  where
    not_small : (s l : Bool) → (s ≡ true → l ≡ true) → l ≡ false → s ≡ false
    not_small true l h e = absurd (let f = h refl in cc)
    not_small false l h e = refl

    told : (l w : Bool) → (l ≡ false → w ≡ false) → w ≡ true → l ≡ true
    told true w h e = refl
    told false w h e = absurd (let f = h refl in cc)

-- the arcs from the source of the piece to its sink
abbrev pub across : ℕ × ℕ → Bool
across arc = eqb arc.0 0 && eqb arc.1 1

not_across : (t h : ℕ) → (ltb 1 t || ltb 1 h) ≡ true → (eqb t 0 && eqb h 1) ≡ false
not_across t h e = grind (arith, nat_tests)

out_in : (a b : Bool) → a ≡ true → b ≡ false → (a && not b) ≡ true
out_in a b e f = rw (e, f) refl

in_out : (a b : Bool) → a ≡ false → (a && not b) ≡ false
in_out a b e = rw e refl

is_across : (side : List Bool) (t h : ℕ) → has side 0 ≡ true → has side 1 ≡ false → (ltb 1 t || ltb 1 h) ≡ false →
    (has side t && not (has side h)) ≡ (eqb t 0 && eqb h 1)
is_across side zero zero e f k = none_leaves (has side 0) (has side 0) refl
is_across side zero (suc zero) e f k = out_in (has side 0) (has side 1) e f
is_across side zero (suc (suc h)) e f k = absurd (grind (arith, nat_tests))
is_across side (suc zero) zero e f k = in_out (has side 1) (has side 0) f
is_across side (suc zero) (suc zero) e f k = none_leaves (has side 1) (has side 1) refl
is_across side (suc zero) (suc (suc h)) e f k = absurd (grind (arith, nat_tests))
is_across side (suc (suc t)) h e f k = absurd (grind (arith, nat_tests))

core_step : (inner here over : Bool) (p : ℕ × ℕ → Bool) (n : AffineArc → ℤ) (first : AffineArc) (y z : ℤ) (rest : List AffineArc) →
    (inner ≡ true → over ≡ false) → (inner ≡ false → here ≡ over) → here ≡ p (ends_of first) →
    y ≡ sum_where p (map ends_of rest) (map n rest) +ℤ z →
    cond here (n first) (pos 0) +ℤ y
    ≡ sum_where p (map ends_of (cond inner (first ∷ rest) rest)) (map n (cond inner (first ∷ rest) rest)) +ℤ (cond over (n first) (pos 0) +ℤ z)
core_step true here over p n first y z rest h k e f =
    let none = ap (λ b. cond b (n first) (pos 0)) (h refl) in
    let same = ap (λ b. cond b (n first) (pos 0)) e in
    omega (arith, ints, none, same, f)
core_step false here over p n first y z rest h k e f =
    let same = ap (λ b. cond b (n first) (pos 0)) (k refl) in
    omega (arith, ints, same, f)

-- without the arcs between the two ends each cut loses the same
pub core_lists : (side : List Bool) (n : AffineArc → ℤ) → has side 0 ≡ true → has side 1 ≡ false → (arcs : List AffineArc) →
    sum_where (leaves side) (map ends_of arcs) (map n arcs)
    ≡ sum_where (leaves side) (map ends_of (with_inner_end arcs)) (map n (with_inner_end arcs)) +ℤ sum_where across (map ends_of arcs) (map n arcs)
core_lists side n e f [] = refl
core_lists side n e f (arc ∷ arcs) =
    core_step (ltb 1 arc.tail || ltb 1 arc.head) (leaves side (ends_of arc)) (across (ends_of arc)) (leaves side) n arc _ _ (with_inner_end arcs)
    (not_across arc.tail arc.head) (is_across side arc.tail arc.head e f) refl (core_lists side n e f arcs)
