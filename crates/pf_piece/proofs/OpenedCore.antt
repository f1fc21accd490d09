-- What was gathered of a core is a network within the limits, and has its sums.
use Rattle.std.proofs.Common.{◌≡◌, ℕ, suc, ◌≤◌, List, [], ◌∷◌, length, map, refl, Bool, true, false, cond, not, ◌&&◌, ◌||◌, eqb, ltb, arith, ap, sym, ◌∙◌, subst}
use Rattle.std.specs.Prelude.{ℤ, ◌+ℤ◌, ◌≤ℤ◌, pos, All}
use Rattle.std.proofs.lemmas.Int.{ints}
use Rattle.std.proofs.lemmas.Bool.{lt-ltb}
use Rattle.std.proofs.lemmas.List.Elements.{All-weaker}
use Rattle.pf_model.specs.declared.AffineArc.{AffineArc}
use Rattle.pf_model.specs.declared.Sense.{Sense}
use Rattle.pf_model.specs.Fraction.{Fraction}
use Rattle.pf_model.specs.Cut.{sum_where}
use Rattle.pf_model.specs.Network.{Network, IsMonotoneArc, ends_of}
use Rattle.pf_model.proofs.Affine.{no_arc}
use Rattle.pf_model.proofs.Facts.{none_before}
use Rattle.pf_net.specs.Limits.{IsBuilt, with_sense}
use Rattle.pf_piece.specs.Piece.{Between, AreNested, place, renamed, arcs_between, with_inner_end, piece_of, core_of}
use Rattle.pf_piece.specs.Held.{HasPlaces, placed, arc_at}
use Rattle.pf_piece.specs.Cores.{IsCoreOf, IsCore, IsGathered, IsInnerArc, numbers_of, belongs_below}
use Rattle.pf_piece.proofs.CoreLemmas.{IsCoreArc, core_arc, few_nodes}
use Rattle.pf_piece.proofs.Gathered.{kept_step}
use Rattle.pf_piece.proofs.Opened.{AreBelow, between_same, renamed_same, network_below}

-- both ends of an arc are below the number of nodes, so it belongs to one of them where one of its ends stands beside 0 and 1
end_told : (i j a b : Bool) → a ≡ true → b ≡ true → (i || j) ≡ cond i a (j && b)
end_told true j a b e f = sym e
end_told false true a b e f = sym f
end_told false false a b e f = refl

inner_step : (loop a b here : Bool) (test : ℕ × ℕ → Bool) (n : ℤ → ℤ → ℤ) (first : AffineArc) (rest : List AffineArc) (y : ℤ) → here ≡ test (ends_of first) →
    a ≡ true → b ≡ true → sum_where test (map ends_of (with_inner_end rest)) (numbers_of n (with_inner_end rest)) ≡ y →
    sum_where test (map ends_of (with_inner_end (cond loop rest (first ∷ rest)))) (numbers_of n (with_inner_end (cond loop rest (first ∷ rest))))
    ≡ cond ((not loop && cond (ltb 1 first.tail) a (ltb 1 first.head && b)) && here) (n first.a first.b) (pos 0) +ℤ y
inner_step true a b here test n first rest y is e f h = h ∙ none_before y
inner_step false a b here test n first rest y is e f h =
    ap (λ (c : Bool). sum_where test (map ends_of (cond c (first ∷ with_inner_end rest) (with_inner_end rest))) (numbers_of n (cond c (first ∷ with_inner_end rest) (with_inner_end rest))))
    (end_told (ltb 1 first.tail) (ltb 1 first.head) a b e f)
    ∙ kept_step (cond (ltb 1 first.tail) a (ltb 1 first.head && b)) here test n first (with_inner_end rest) y is h

sum_inner : (f : ℕ → ℕ) (nodes : ℕ) (test : ℕ × ℕ → Bool) (n : ℤ → ℤ → ℤ) (arcs : List AffineArc) → All (AreBelow nodes) arcs →
    sum_where test (map ends_of (with_inner_end (arcs_between f arcs))) (numbers_of n (with_inner_end (arcs_between f arcs)))
    ≡ sum_where (λ e. belongs_below f nodes e && test (f e.0, f e.1)) (map ends_of arcs) (numbers_of n arcs)
sum_inner f nodes test n [] b = refl
sum_inner f nodes test n (arc ∷ arcs) b =
    let first = b 0 no_arc (omega arith) in
    inner_step (eqb (f arc.tail) (f arc.head)) (ltb arc.tail nodes) (ltb arc.head nodes) (test (f arc.tail, f arc.head)) test n (renamed f arc) (arcs_between f arcs) _ refl
    (lt-ltb arc.tail nodes first.tail) (lt-ltb arc.head nodes first.head) (sum_inner f nodes test n arcs (λ i d low. b (suc i) d (omega arith)))

core_sums : (part : Between) (places : List ℕ) (arcs : List AffineArc) → IsBuilt part.net → HasPlaces part places →
    IsGathered (placed places) part.net.nodes part.net.arcs arcs → (test : ℕ × ℕ → Bool) (n : ℤ → ℤ → ℤ) →
    sum_where test (map ends_of arcs) (numbers_of n arcs) ≡ sum_where test (map ends_of (core_of part).arcs) (numbers_of n (core_of part).arcs)
core_sums part places arcs built p g test n =
    g.sums test n ∙ sym (sum_inner (placed places) part.net.nodes test n part.net.arcs (network_below part.net built))
    ∙ ap (λ (xs : List AffineArc). sum_where test (map ends_of (with_inner_end xs)) (numbers_of n (with_inner_end xs)))
    (between_same part.net.nodes (placed places) (place part.small part.large) part.net.arcs p.each (network_below part.net built))

-- no more arcs were gathered than there are: each counts 1
count_step : (x : ℤ) (n : ℕ) → x ≡ pos n → pos 1 +ℤ x ≡ pos (suc n)
count_step x n e = omega (arith, ints, e)

count_arcs : (arcs : List AffineArc) → sum_where (λ e. true) (map ends_of arcs) (numbers_of (λ a b. pos 1) arcs) ≡ pos (length arcs)
count_arcs [] = refl
count_arcs (arc ∷ arcs) = count_step _ (length arcs) (count_arcs arcs)

few_step : (here : Bool) (x : ℤ) (n : ℕ) → x ≤ℤ pos n → (cond here (pos 1) (pos 0) +ℤ x) ≤ℤ pos (suc n)
few_step true x n h = omega (arith, ints, h)
few_step false x n h = omega (arith, ints, h)

few_count : (test : ℕ × ℕ → Bool) (arcs : List AffineArc) → sum_where test (map ends_of arcs) (numbers_of (λ a b. pos 1) arcs) ≤ℤ pos (length arcs)
few_count test [] = omega (arith, ints)
few_count test (arc ∷ arcs) = few_step (test (ends_of arc)) _ (length arcs) (few_count test arcs)

at_most : (m n : ℕ) (x : ℤ) → pos m ≡ x → x ≤ℤ pos n → m ≤ n
at_most m n x e h = omega (arith, ints, e, h)

few_gathered : (f : ℕ → ℕ) (v : ℕ) (arcs found : List AffineArc) → IsGathered f v arcs found → length found ≤ length arcs
few_gathered f v arcs found g =
    at_most (length found) (length arcs) _ (sym (count_arcs found) ∙ g.sums (λ e. true) (λ a b. pos 1)) (few_count (λ e. belongs_below f v e && true) arcs)

-- each of them is one of the core
one_of_core : (part : Between) (places : List ℕ) (arc : AffineArc) → IsBuilt part.net → AreNested part.net part.small part.large → HasPlaces part places →
    IsInnerArc (placed places) part.net.arcs arc → IsCoreArc part arc
one_of_core part places arc built nested p w =
    let below = network_below part.net built w.number no_arc w.known in
    let same : arc ≡ renamed (place part.small part.large) (arc_at part.net.arcs w.number) =
    w.arc_is ∙ renamed_same part.net.nodes (placed places) (place part.small part.large) (arc_at part.net.arcs w.number) p.each below in
    subst (IsCoreArc part) (sym same)
    (core_arc part (arc_at part.net.arcs w.number) nested (built.monotone.each w.number no_arc w.known) (built.limits.each w.number no_arc w.known)
    (sym (ap (λ (a : AffineArc). ltb 1 a.tail || ltb 1 a.head) same) ∙ w.inner))

-- the network of these arcs, and the one that the code names
abbrev core_by : Between → List AffineArc → Network
core_by part arcs = with_sense part.net.sense (piece_of part).nodes 0 1 part.net.low part.net.high arcs

arc_moved : (part : Between) (arcs : List AffineArc) (arc : AffineArc) → IsMonotoneArc (core_of part) arc → IsMonotoneArc (core_by part arcs) arc
arc_moved part arcs arc m = record { tail = m.tail; head = m.head; slope = m.slope; low = m.low; high = m.high }

built_by : (part : Between) (places : List ℕ) (arcs : List AffineArc) → IsBuilt part.net → AreNested part.net part.small part.large → HasPlaces part places →
    IsGathered (placed places) part.net.nodes part.net.arcs arcs → IsBuilt (core_by part arcs)
built_by part places arcs built nested p g =
    let m = built.monotone in
    let limits = built.limits in
    let each = All-weaker (IsInnerArc (placed places) part.net.arcs) (IsCoreArc part) (λ arc w. one_of_core part places arc built nested p w) arcs g.each in
    let nodes = few_nodes part m nested in
    let few = few_gathered (placed places) part.net.nodes part.net.arcs arcs g in
    record {
      monotone = record {
        source = omega arith;
        sink = omega arith;
        apart = λ e. absurd (omega (arith, e));
        low = m.low;
        high = m.high;
        interval = m.interval;
        each = λ i d low. arc_moved part arcs _ (each i d low).monotone;
      };
      limits = record {
        nodes = omega (arith, nodes, limits.nodes);
        arcs = omega (arith, few, limits.arcs);
        each = λ i d low. (each i d low).small;
        low = limits.low;
        high = limits.high;
      };
    }

named_step : (sense sense' : Sense) (n n' : ℕ) (lo lo' hi hi' : Fraction) (arcs : List AffineArc) → sense ≡ sense' → n ≡ n' → lo ≡ lo' → hi ≡ hi' →
    with_sense sense n 0 1 lo hi arcs ≡ with_sense sense' n' 0 1 lo' hi' arcs
named_step sense sense' n n' lo lo' hi hi' arcs s e f g = rw (s, e, f, g) refl

named : (part : Between) (sense : Sense) (n : ℕ) (lo hi : Fraction) (arcs : List AffineArc) → sense ≡ part.net.sense → n ≡ (piece_of part).nodes →
    lo ≡ part.net.low → hi ≡ part.net.high → with_sense sense n 0 1 lo hi arcs ≡ core_by part arcs
named part sense n lo hi arcs s e f g = named_step sense part.net.sense n (piece_of part).nodes lo part.net.low hi part.net.high arcs s e f g

at_places : (part : Between) (places slice : List ℕ) (arcs : List AffineArc) → slice ≡ places → IsGathered (placed slice) part.net.nodes part.net.arcs arcs →
    IsGathered (placed places) part.net.nodes part.net.arcs arcs
at_places part places slice arcs e g =
    let P : List ℕ → Type 0 = λ xs. IsGathered (placed xs) part.net.nodes part.net.arcs arcs in
    subst P e g

pub gathered_built : (part : Between) (places slice : List ℕ) (sense : Sense) (n : ℕ) (lo hi : Fraction) (arcs : List AffineArc) → IsBuilt part.net →
    AreNested part.net part.small part.large → HasPlaces part places → slice ≡ places → IsGathered (placed slice) part.net.nodes part.net.arcs arcs →
    sense ≡ part.net.sense → n ≡ (piece_of part).nodes → lo ≡ part.net.low → hi ≡ part.net.high → IsBuilt (with_sense sense n 0 1 lo hi arcs)
gathered_built part places slice sense n lo hi arcs built nested p same g s e f h =
    subst IsBuilt (sym (named part sense n lo hi arcs s e f h)) (built_by part places arcs built nested p (at_places part places slice arcs same g))

pub gathered_core : (part : Between) (places slice : List ℕ) (sense : Sense) (n : ℕ) (lo hi : Fraction) (arcs : List AffineArc) (core : Network) → IsBuilt part.net →
    AreNested part.net part.small part.large → HasPlaces part places → slice ≡ places → IsGathered (placed slice) part.net.nodes part.net.arcs arcs →
    sense ≡ part.net.sense → n ≡ (piece_of part).nodes → lo ≡ part.net.low → hi ≡ part.net.high → core ≡ with_sense sense n 0 1 lo hi arcs → IsCore part core places
gathered_core part places slice sense n lo hi arcs core built nested p same g s e f h is = record {
  built = built;
  nested = nested;
  places_are = p;
  core_is = subst (IsCoreOf part) (sym (is ∙ named part sense n lo hi arcs s e f h)) (record {
    nodes = refl;
    source = refl;
    sink = refl;
    low = refl;
    high = refl;
    sums = core_sums part places arcs built p (at_places part places slice arcs same g);
  });
}
