-- Lines of cuts of a piece, by the arcs that do not run between its ends.
use Rattle.std.proofs.Common.{◌≡◌, ◌≢◌, ℕ, zero, suc, ◌+◌, ◌*◌, ◌^◌, ◌<◌, ◌≤◌, List, [], ◌∷◌, length, get_or, replicate, map, refl, Bool, true, false, cond, arith, ap, ap₂, sym, ◌∙◌, inl, inr, subst, get_or-set_same, get_or-set_other}
use Rattle.std.specs.Prelude.{ℤ, ◌+ℤ◌, ◌≤ℤ◌, neg_ℤ, pos}
use Rattle.std.proofs.lemmas.Int.{ints}
use Rattle.std.proofs.lemmas.Bool.{cases_Bool}
use Rattle.std.proofs.lemmas.List.{length-set, length-replicate}
use Rattle.pf_model.specs.declared.AffineArc.{AffineArc}
use Rattle.pf_model.specs.declared.Sense.TheVariants.{Rising}
use Rattle.pf_model.specs.Fraction.{Fraction}
use Rattle.pf_model.specs.Line.{AffineLine, IsBoundedLine}
use Rattle.pf_model.specs.Cut.{IsSmallestLeast, has, sum_where, leaves}
use Rattle.pf_model.specs.Network.{Network, IsNetworkCut, network_at, ends_of, line_of, cut_a, cut_b}
use Rattle.pf_model.proofs.Affine.{no_arc}
use Rattle.pf_net.specs.Limits.{IsBuilt}
use Rattle.pf_piece.specs.Piece.{Between, AreNested, IsLift, place, piece_of, core_of}
use Rattle.pf_piece.specs.Laws.{AreEndsAt}
use Rattle.pf_piece.specs.Cores.{IsCoreOf}
use Rattle.pf_piece.proofs.Places.{place_in, place_out, place_inner}
use Rattle.pf_piece.proofs.Lifts.{core_lists, line_lifts}
use Rattle.pf_piece.proofs.Smallest.{ends_are_nested}
use Rattle.pf_curve.specs.Cuts.{IsChosen, source_alone}
use Rattle.pf_curve.proofs.Contracting.{cut_of, found_in}

none_in : (n k : ℕ) → has (replicate n false) k ≡ false
none_in zero k = refl
none_in (suc n) zero = refl
none_in (suc n) (suc k) = none_in n k

alone_first : (n : ℕ) → 0 < n → has (source_alone n) 0 ≡ true
alone_first n low = let here : 0 < length (replicate n false) = omega (arith, low, length-replicate n false) in get_or-set_same (replicate n false) 0 true false here

alone_later : (n k : ℕ) → k ≢ 0 → has (source_alone n) k ≡ false
alone_later n k ne = get_or-set_other (replicate n false) 0 k true false ne ∙ none_in n k

-- the source alone is a cut of each network whose source is 0 and whose sink is 1
pub alone_cut : (net : Network) → net.source ≡ 0 → net.sink ≡ 1 → 2 ≤ net.nodes → IsNetworkCut net (source_alone net.nodes)
alone_cut net e f few = record {
  full = length-set (replicate net.nodes false) 0 true ∙ length-replicate net.nodes false;
  with_source = ap (has (source_alone net.nodes)) e ∙ alone_first net.nodes (omega arith);
  without_sink = ap (has (source_alone net.nodes)) f ∙ (let ne : 1 ≢ 0 = λ h. absurd (omega (arith, h)) in alone_later net.nodes 1 ne);
}

pub piece_few : (part : Between) → 2 ≤ (piece_of part).nodes
piece_few part = omega arith

-- it lifts to the small side
alone_lifts : (part : Between) → AreNested part.net part.small part.large → IsLift part (source_alone (piece_of part).nodes) part.small
alone_lifts part nested = record {
  full = nested.small_cut.full;
  each = λ v low. elim (cases_Bool (has part.small v)) [
    | inl e ↦ e ∙ sym (ap (has (source_alone (piece_of part).nodes)) (place_in part.small part.large v e) ∙ alone_first (piece_of part).nodes (let few = piece_few part in omega (arith, few)))
    | inr e ↦ elim (cases_Bool (has part.large v)) [
      | inl f ↦
          let at = place_inner part.small part.large v e f in
          let ne : place part.small part.large v ≢ 0 = λ h. absurd (omega (arith, h, at)) in
          e ∙ sym (alone_later (piece_of part).nodes (place part.small part.large v) ne)
      | inr f ↦
          let at = place_out part.small part.large v e f in
          let ne : place part.small part.large v ≢ 0 = λ h. absurd (omega (arith, h, at)) in
          e ∙ sym (alone_later (piece_of part).nodes (place part.small part.large v) ne)
    ]
  ];
}

core_more : (part : Between) (n : AffineArc → ℤ) (side : List Bool) (a : ℤ) → IsNetworkCut (piece_of part) side →
    sum_where (leaves side) (map ends_of (core_of part).arcs) (map n (core_of part).arcs)
    ≡ sum_where (leaves (source_alone (core_of part).nodes)) (map ends_of (core_of part).arcs) (map n (core_of part).arcs) +ℤ a →
    sum_where (leaves side) (map ends_of (piece_of part).arcs) (map n (piece_of part).arcs)
    ≡ sum_where (leaves (source_alone (piece_of part).nodes)) (map ends_of (piece_of part).arcs) (map n (piece_of part).arcs) +ℤ a
core_more part n side a cut h =
    let alone = alone_cut (piece_of part) refl refl (piece_few part) in
    let mine = core_lists side n cut.with_source cut.without_sink (piece_of part).arcs in
    let theirs = core_lists (source_alone (piece_of part).nodes) n alone.with_source alone.without_sink (piece_of part).arcs in
    omega (arith, ints, mine, theirs, h)

-- what was found in the core
pub chosen_here : (part : Between) (core : Network) (x : Fraction) (side : List Bool) (a b : ℤ) → IsCoreOf part core → IsSmallestLeast (network_at core x) side →
    cut_a core side ≡ cut_a core (source_alone core.nodes) +ℤ a → cut_b core side ≡ cut_b core (source_alone core.nodes) +ℤ b → IsChosen part x side a b
chosen_here part core x side a b c s f g =
    let smallest = found_in part core x side c s in
    let cut = cut_of (piece_of part) x side smallest in
    let alone = source_alone core.nodes in
    let here_a : cut_a core side ≡ cut_a (core_of part) side = c.sums (leaves side) (λ y z. y) in
    let here_b : cut_b core side ≡ cut_b (core_of part) side = c.sums (leaves side) (λ y z. z) in
    let alone_a : cut_a core alone ≡ cut_a (core_of part) alone = c.sums (leaves alone) (λ y z. y) in
    let alone_b : cut_b core alone ≡ cut_b (core_of part) alone = c.sums (leaves alone) (λ y z. z) in
    let nodes_a = ap (λ n. cut_a (core_of part) (source_alone n)) c.nodes in
    let nodes_b = ap (λ n. cut_b (core_of part) (source_alone n)) c.nodes in
    record {
      smallest = smallest;
      a_is = core_more part (λ arc. arc.a) side a cut (sym here_a ∙ f ∙ ap (λ y. y +ℤ a) (alone_a ∙ nodes_a));
      b_is = core_more part (λ arc. arc.b) side b cut (sym here_b ∙ g ∙ ap (λ y. y +ℤ b) (alone_b ∙ nodes_b));
    }

-- sums of small numbers
low_step : (here : Bool) (x y : ℤ) (k m : ℕ) → neg_ℤ (pos m) ≤ℤ x → neg_ℤ (pos (k * m)) ≤ℤ y → neg_ℤ (pos (suc k * m)) ≤ℤ (cond here x (pos 0) +ℤ y)
low_step true x y k m h e = let more : suc k * m ≡ k * m + m = grind arith in omega (arith, ints, h, e, more)
low_step false x y k m h e = let more : suc k * m ≡ k * m + m = grind arith in omega (arith, ints, e, more)

high_step : (here : Bool) (x y : ℤ) (k m : ℕ) → x ≤ℤ pos m → y ≤ℤ pos (k * m) → (cond here x (pos 0) +ℤ y) ≤ℤ pos (suc k * m)
high_step true x y k m h e = let more : suc k * m ≡ k * m + m = grind arith in omega (arith, ints, h, e, more)
high_step false x y k m h e = let more : suc k * m ≡ k * m + m = grind arith in omega (arith, ints, e, more)

record IsSmallSum (m k : ℕ) (x : ℤ) : Type 0 where
  pub low : neg_ℤ (pos (k * m)) ≤ℤ x
  pub high : x ≤ℤ pos (k * m)

small_sum : (m : ℕ) (test : ℕ × ℕ → Bool) (n : AffineArc → ℤ) (arcs : List AffineArc) →
    ((i : ℕ) → i < length arcs → neg_ℤ (pos m) ≤ℤ n (get_or arcs i no_arc)) → ((i : ℕ) → i < length arcs → n (get_or arcs i no_arc) ≤ℤ pos m) →
    IsSmallSum m (length arcs) (sum_where test (map ends_of arcs) (map n arcs))
small_sum m test n [] low high = let none : 0 * m ≡ 0 = grind arith in record { low = omega (arith, ints, none); high = omega (arith, ints, none) }
small_sum m test n (arc ∷ arcs) low high =
    let rest = small_sum m test n arcs (λ i h. low (suc i) (omega arith)) (λ i h. high (suc i) (omega arith)) in
    record {
      low = low_step (test (ends_of arc)) (n arc) _ (length arcs) m (low 0 (omega arith)) rest.low;
      high = high_step (test (ends_of arc)) (n arc) _ (length arcs) m (high 0 (omega arith)) rest.high;
    }

pub bounded_line : (net : Network) (side : List Bool) → IsBuilt net → IsBoundedLine (line_of net side)
bounded_line net side b =
    let few = b.limits.arcs in
    let a = small_sum (2 ^ 56) (leaves side) (λ arc. arc.a) net.arcs (λ i h. (b.limits.each i no_arc h).a_low) (λ i h. (b.limits.each i no_arc h).a_high) in
    let s = small_sum (2 ^ 30) (leaves side) (λ arc. arc.b) net.arcs (λ i h. (b.limits.each i no_arc h).b_low) (λ i h. (b.limits.each i no_arc h).b_high) in
    let al = a.low in
    let ah = a.high in
    let sl = s.low in
    let sh = s.high in
    record {
      a_low = omega (arith, ints, few, al);
      a_high = omega (arith, ints, few, ah);
      b_low = omega (arith, ints, few, sl);
      b_high = omega (arith, ints, few, sh);
    }

-- the line of the lift
pub record IsLineLifted (net : Network) (lifted : List Bool) (a b : ℤ) : Type 0 where
  pub a_is : a ≡ cut_a net lifted
  pub b_is : b ≡ cut_b net lifted
  pub bounded : IsBoundedLine (line_of net lifted)

pub line_lifted : (part : Between) (net : Network) (x : Fraction) (line : AffineLine) (side lifted : List Bool) (a b : ℤ) → IsBuilt net → net ≡ part.net →
    part.net.sense ≡ Rising → AreEndsAt part x → line ≡ line_of part.net part.small → IsChosen part x side a b → IsLift part side lifted →
    IsLineLifted part.net lifted (line.a +ℤ a) (line.b +ℤ b)
line_lifted part net x line side lifted a b built e rising ends is chosen lift =
    let here = subst IsBuilt e built in
    let nested = ends_are_nested part x here.monotone rising ends in
    let cut = cut_of (piece_of part) x side chosen.smallest in
    let mine = line_lifts part side lifted nested cut lift in
    let theirs = line_lifts part (source_alone (piece_of part).nodes) part.small nested (alone_cut (piece_of part) refl refl (piece_few part)) (alone_lifts part nested) in
    let mine_a = ap (λ (l : AffineLine). l.a) mine in
    let mine_b = ap (λ (l : AffineLine). l.b) mine in
    let theirs_a = ap (λ (l : AffineLine). l.a) (is ∙ theirs) in
    let theirs_b = ap (λ (l : AffineLine). l.b) (is ∙ theirs) in
    let more_a = chosen.a_is in
    let more_b = chosen.b_is in
    record {
      a_is = omega (arith, ints, mine_a, theirs_a, more_a);
      b_is = omega (arith, ints, mine_b, theirs_b, more_b);
      bounded = bounded_line part.net lifted here;
    }

abbrev line : ℤ → ℤ → AffineLine
line a b = record { a = a; b = b }

pub line_same : (l : AffineLine) (net : Network) (side : List Bool) → l.a ≡ cut_a net side → l.b ≡ cut_b net side → l ≡ line_of net side
line_same l net side e f = ap₂ line e f
