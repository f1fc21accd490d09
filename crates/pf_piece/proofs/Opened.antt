-- What was written of a piece is its nodes and arcs.
use Rattle.std.proofs.Common.{◌≡◌, ℕ, suc, ◌+◌, ◌<◌, ◌≤◌, List, [], ◌∷◌, length, get_or, map, refl, Bool, true, false, cond, eqb, arith, ap, ap₂, sym, ◌∙◌, subst}
use Rattle.std.specs.Prelude.{All}
use Rattle.std.proofs.lemmas.List.{length-map, get_or-map}
use Rattle.std.proofs.lemmas.List.Elements.{All-nil, All-cons}
use Rattle.pf_model.specs.declared.AffineArc.{AffineArc}
use Rattle.pf_model.specs.declared.Sense.{Sense}
use Rattle.pf_model.specs.Fraction.{Fraction}
use Rattle.pf_model.specs.Cut.{has}
use Rattle.pf_model.specs.Limits.{most_nodes, most_arcs}
use Rattle.pf_model.specs.Digraph.{Digraph, IsDigraph}
use Rattle.pf_model.specs.Network.{Network, IsNetworkCut, ends_of}
use Rattle.pf_model.proofs.Affine.{no_arc}
use Rattle.pf_net.specs.Limits.{IsBuilt, with_sense}
use Rattle.pf_piece.specs.Piece.{Between, AreNested, IsLift, inner_before, place, renamed, arcs_between, with_inner_end, piece_of, core_of}
use Rattle.pf_piece.specs.Held.{HasPlaces, AreKept, IsPiece, placed, arc_at}
use Rattle.pf_piece.proofs.Places.{place_below}
use Rattle.pf_piece.proofs.CoreLemmas.{few_nodes, few_between, core_is_built}

-- both ends of the arc are below a number
pub record AreBelow (n : ℕ) (arc : AffineArc) : Type 0 where
  pub tail : arc.tail < n
  pub head : arc.head < n

-- two ways to rename that agree below the number
abbrev pub Agree : ℕ → (ℕ → ℕ) → (ℕ → ℕ) → Type 0
Agree n f g = (v : ℕ) → v < n → f v ≡ g v

abbrev arc_of : ℕ → ℕ → AffineArc → AffineArc
arc_of u v arc = record { tail = u; head = v; a = arc.a; b = arc.b }

abbrev pair : AffineArc → List AffineArc → List AffineArc
pair arc arcs = arc ∷ arcs

abbrev pub graph : ℕ → List (ℕ × ℕ) → Digraph
graph n ends = record { nodes = n; ends = ends }

abbrev between_ends : ℕ → Sense → Fraction → Fraction → List AffineArc → Network
between_ends n sense lo hi arcs = record { nodes = n; source = 0; sink = 1; sense = sense; low = lo; high = hi; arcs = arcs }

arc_step : (u v u' v' : ℕ) (arc : AffineArc) → u ≡ u' → v ≡ v' → arc_of u v arc ≡ arc_of u' v' arc
arc_step u v u' v' arc e f = rw (e, f) refl

pub renamed_same : (n : ℕ) (f g : ℕ → ℕ) (arc : AffineArc) → Agree n f g → AreBelow n arc → renamed f arc ≡ renamed g arc
renamed_same n f g arc h b = arc_step (f arc.tail) (f arc.head) (g arc.tail) (g arc.head) arc (h arc.tail b.tail) (h arc.head b.head)

between_step : (u v u' v' : ℕ) (arc : AffineArc) (xs ys : List AffineArc) → u ≡ u' → v ≡ v' → xs ≡ ys →
    cond (eqb u v) xs (arc_of u v arc ∷ xs) ≡ cond (eqb u' v') ys (arc_of u' v' arc ∷ ys)
between_step u v u' v' arc xs ys e f h = rw (e, f, h) refl

pub between_same : (n : ℕ) (f g : ℕ → ℕ) (arcs : List AffineArc) → Agree n f g → All (AreBelow n) arcs → arcs_between f arcs ≡ arcs_between g arcs
between_same n f g [] h b = refl
between_same n f g (arc ∷ arcs) h b =
    let first = b 0 no_arc (omega arith) in
    between_step (f arc.tail) (f arc.head) (g arc.tail) (g arc.head) arc (arcs_between f arcs) (arcs_between g arcs) (h arc.tail first.tail) (h arc.head first.head)
    (between_same n f g arcs h (λ i d low. b (suc i) d (omega arith)))

numbers_same : (n : ℕ) (f g : ℕ → ℕ) (arcs : List AffineArc) (kept : List ℕ) → Agree n f g → All (AreBelow n) arcs →
    ((k : ℕ) → k < length kept → get_or kept k 0 < length arcs) → map (λ i. renamed f (arc_at arcs i)) kept ≡ map (λ i. renamed g (arc_at arcs i)) kept
numbers_same n f g arcs [] h b known = refl
numbers_same n f g arcs (i ∷ kept) h b known =
    ap₂ pair (renamed_same n f g (arc_at arcs i) h (b i no_arc (known 0 (omega arith))))
    (numbers_same n f g arcs kept h b (λ k low. known (suc k) (omega arith)))

map_map : (F : ℕ → AffineArc) (kept : List ℕ) → map (λ i. ends_of (F i)) kept ≡ map ends_of (map F kept)
map_map F [] = refl
map_map F (i ∷ kept) = ap (λ (xs : List (ℕ × ℕ)). ends_of (F i) ∷ xs) (map_map F kept)

-- the ends of the piece's arcs are its nodes
below_step : (same : Bool) (n : ℕ) (first : AffineArc) (rest : List AffineArc) → AreBelow n first → All (AreBelow n) rest → All (AreBelow n) (cond same rest (first ∷ rest))
below_step true n first rest h k = k
below_step false n first rest h k = All-cons (AreBelow n) first rest h k

between_below : (small large : List Bool) (n : ℕ) (arcs : List AffineArc) → All (AreBelow n) arcs →
    All (AreBelow (inner_before small large n + 2)) (arcs_between (place small large) arcs)
between_below small large n [] b = All-nil (AreBelow (inner_before small large n + 2))
between_below small large n (arc ∷ arcs) b =
    let first = b 0 no_arc (omega arith) in
    below_step (eqb (place small large arc.tail) (place small large arc.head)) (inner_before small large n + 2) (renamed (place small large) arc) (arcs_between (place small large) arcs)
    (record { tail = place_below small large arc.tail n first.tail; head = place_below small large arc.head n first.head })
    (between_below small large n arcs (λ i d low. b (suc i) d (omega arith)))

graph_of_arcs : (n : ℕ) (arcs : List AffineArc) → All (AreBelow n) arcs → IsDigraph (graph n (map ends_of arcs))
graph_of_arcs n arcs b = record {
  tails = λ i low.
      let here : i < length arcs = omega (arith, low, length-map arcs ends_of) in
      rw (get_or-map ends_of arcs i no_arc (0, 0) here) (b i no_arc here).tail;
  heads = λ i low.
      let here : i < length arcs = omega (arith, low, length-map arcs ends_of) in
      rw (get_or-map ends_of arcs i no_arc (0, 0) here) (b i no_arc here).head;
}

pub network_below : (net : Network) → IsBuilt net → All (AreBelow net.nodes) net.arcs
network_below net b i d low = let arc = b.monotone.each i d low in record { tail = arc.tail; head = arc.head }

abbrev pub whole : Network → List Bool → List Bool → Between
whole net small large = record { net = net; small = small; large = large }

-- what was found of a piece before its graph is made
pub record IsOpened (part : Between) (places kept : List ℕ) (nodes : ℕ) (ends : List (ℕ × ℕ)) : Type 0 where
  pub built : IsBuilt part.net
  pub nested : AreNested part.net part.small part.large
  pub places_are : HasPlaces part places
  pub nodes_are : nodes ≡ inner_before part.small part.large part.net.nodes + 2
  pub kept_are : AreKept part.net.arcs places kept
  pub ends_are : ends ≡ map (λ i. ends_of (renamed (placed places) (arc_at part.net.arcs i))) kept

-- the same, as the code calls it
pub opening_made : (part : Between) (places first second kept third : List ℕ) (nodes : ℕ) (ends : List (ℕ × ℕ)) → IsBuilt part.net →
    AreNested part.net part.small part.large → HasPlaces part places → nodes ≡ inner_before part.small part.large part.net.nodes + 2 →
    first ≡ places → second ≡ places → third ≡ kept → AreKept part.net.arcs first kept →
    ends ≡ map (λ i. ends_of (renamed (placed second) (arc_at part.net.arcs i))) third → IsOpened part places kept nodes ends
opening_made part places first second kept third nodes ends b n p c e f g k h =
    let P : List ℕ → Type 0 = λ xs. AreKept part.net.arcs xs kept in
    record {
      built = b;
      nested = n;
      places_are = p;
      nodes_are = c;
      kept_are = subst P e k;
      ends_are = h ∙ ap₂ (λ (xs ys : List ℕ). map (λ i. ends_of (renamed (placed xs) (arc_at part.net.arcs i))) ys) f g;
    }

arcs_same : (part : Between) (places kept : List ℕ) (nodes : ℕ) (ends : List (ℕ × ℕ)) → IsOpened part places kept nodes ends →
    arcs_between (placed places) part.net.arcs ≡ (piece_of part).arcs
arcs_same part places kept nodes ends o =
    between_same part.net.nodes (placed places) (place part.small part.large) part.net.arcs o.places_are.each (network_below part.net o.built)

ends_same : (part : Between) (places kept : List ℕ) (nodes : ℕ) (ends : List (ℕ × ℕ)) → IsOpened part places kept nodes ends → ends ≡ map ends_of (piece_of part).arcs
ends_same part places kept nodes ends o =
    o.ends_are ∙ map_map (λ i. renamed (placed places) (arc_at part.net.arcs i)) kept ∙ ap (map ends_of) (o.kept_are.arcs_are ∙ arcs_same part places kept nodes ends o)

pub opened_nodes : (part : Between) (places kept : List ℕ) (nodes : ℕ) (ends : List (ℕ × ℕ)) → IsOpened part places kept nodes ends → nodes ≤ most_nodes
opened_nodes part places kept nodes ends o =
    let few = few_nodes part o.built.monotone o.nested in
    let e = o.nodes_are in
    let most = o.built.limits.nodes in
    omega (arith, few, e, most)

-- the places and the limits are known before the arcs are
pub nodes_few : (part : Between) (nodes : ℕ) → IsBuilt part.net → AreNested part.net part.small part.large →
    nodes ≡ inner_before part.small part.large part.net.nodes + 2 → nodes ≤ most_nodes
nodes_few part nodes b n e =
    let few = few_nodes part b.monotone n in
    let most = b.limits.nodes in
    omega (arith, few, e, most)

pub opened_arcs : (part : Between) (places kept : List ℕ) (nodes : ℕ) (ends : List (ℕ × ℕ)) → IsOpened part places kept nodes ends → length ends ≤ most_arcs
opened_arcs part places kept nodes ends o =
    let e = ap length (ends_same part places kept nodes ends o) ∙ length-map (piece_of part).arcs ends_of in
    let few = few_between part.small part.large part.net.arcs in
    let most = o.built.limits.arcs in
    omega (arith, e, few, most)

pub opened_graph : (part : Between) (places kept : List ℕ) (nodes : ℕ) (ends : List (ℕ × ℕ)) → IsOpened part places kept nodes ends → IsDigraph (graph nodes ends)
opened_graph part places kept nodes ends o =
    let same = ap₂ graph o.nodes_are (ends_same part places kept nodes ends o) in
    let all = between_below part.small part.large part.net.nodes part.net.arcs (network_below part.net o.built) in
    subst IsDigraph (sym same) (graph_of_arcs (inner_before part.small part.large part.net.nodes + 2) (piece_of part).arcs all)

pub opened : (part : Between) (places kept : List ℕ) (nodes : ℕ) (ends : List (ℕ × ℕ)) (frame : Digraph) → IsOpened part places kept nodes ends →
    frame ≡ graph nodes ends → IsPiece part places kept frame
opened part places kept nodes ends frame o e = record {
  built = o.built;
  nested = o.nested;
  places_are = o.places_are;
  known = o.kept_are.known;
  arcs_are =
      sym (numbers_same part.net.nodes (placed places) (place part.small part.large) part.net.arcs kept o.places_are.each (network_below part.net o.built) o.kept_are.known)
      ∙ o.kept_are.arcs_are ∙ arcs_same part places kept nodes ends o;
  frame_is = e ∙ ap₂ graph o.nodes_are (ends_same part places kept nodes ends o);
}

-- the core, as the code names it
named_step : (n n' : ℕ) (sense sense' : Sense) (lo lo' hi hi' : Fraction) (arcs arcs' : List AffineArc) → n ≡ n' → sense ≡ sense' → lo ≡ lo' → hi ≡ hi' → arcs ≡ arcs' →
    with_sense sense n 0 1 lo hi arcs ≡ between_ends n' sense' lo' hi' arcs'
named_step n n' sense sense' lo lo' hi hi' arcs arcs' e s f g h = rw (e, s, f, g, h) refl

pub core_named : (part : Between) (sense : Sense) (n : ℕ) (lo hi : Fraction) (arcs : List AffineArc) → sense ≡ part.net.sense → n ≡ (piece_of part).nodes →
    lo ≡ part.net.low → hi ≡ part.net.high → arcs ≡ with_inner_end (piece_of part).arcs → with_sense sense n 0 1 lo hi arcs ≡ core_of part
core_named part sense n lo hi arcs s e f g h =
    named_step n (piece_of part).nodes sense part.net.sense lo part.net.low hi part.net.high arcs (with_inner_end (piece_of part).arcs) e s f g h

pub core_built : (part : Between) (sense : Sense) (n : ℕ) (lo hi : Fraction) (arcs : List AffineArc) → IsBuilt part.net → AreNested part.net part.small part.large →
    sense ≡ part.net.sense → n ≡ (piece_of part).nodes → lo ≡ part.net.low → hi ≡ part.net.high → arcs ≡ with_inner_end (piece_of part).arcs →
    IsBuilt (with_sense sense n 0 1 lo hi arcs)
core_built part sense n lo hi arcs b nested s e f g h =
    subst IsBuilt (sym (core_named part sense n lo hi arcs s e f g h)) (core_is_built part b nested)

-- places of the piece's nodes
pub places_known : (part : Between) (places slice : List ℕ) (side : List Bool) → HasPlaces part places → slice ≡ places → IsNetworkCut (piece_of part) side →
    (v : ℕ) → v < length slice → get_or slice v 0 < length side
places_known part places slice side p e cut v low =
    let here : v < part.net.nodes = (let long = ap length e in omega (arith, low, long, p.full)) in
    let is = ap (λ (xs : List ℕ). get_or xs v 0) e ∙ p.each v here in
    let below = place_below part.small part.large v part.net.nodes here in
    let full = cut.full in
    omega (arith, is, below, full)

pub lifted : (part : Between) (places slice : List ℕ) (side whole : List Bool) → HasPlaces part places → slice ≡ places → length whole ≡ length slice →
    ((v : ℕ) → v < length slice → has whole v ≡ has side (get_or slice v 0)) → IsLift part side whole
lifted part places slice side whole p e full each = record {
  full = full ∙ ap length e ∙ p.full;
  each = λ v low.
      let long = ap length e in
      each v (omega (arith, low, long, p.full)) ∙ ap (λ (xs : List ℕ). has side (get_or xs v 0)) e ∙ ap (has side) (p.each v low);
}
