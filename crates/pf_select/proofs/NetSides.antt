-- Sides of the network: those that no residual arc leaves, and what the source reaches.
use Rattle.std.proofs.Common.{◌≡◌, ℕ, suc, ◌+◌, ◌^◌, ◌<◌, List, [], ◌∷◌, ◌++◌, length, get_or, map, refl, Bool, true, false, not, ◌&&◌, arith, ap, sym, ◌∙◌, inl, inr}
use Rattle.std.specs.Prelude.{ℤ, ◌*ℤ◌, ◌≤ℤ◌, ◌<ℤ◌, pos}
use Rattle.std.proofs.lemmas.Int.{ints, by_lt_z}
use Rattle.std.proofs.lemmas.Bool.{cases_Bool, both_ways}
use Rattle.std.proofs.lemmas.List.{length-map, length-append, get_or_append_left, get_or-append-add}
use Rattle.pf_model.specs.Fraction.{Fraction, IsParameter}
use Rattle.pf_model.specs.Cut.{has, at_arc, leaves, enters}
use Rattle.pf_model.specs.Flow.{IsFlow}
use Rattle.pf_model.specs.Residual.{IsReach}
use Rattle.pf_model.specs.Network.{IsNetworkCut, ends_of, capacity_at, network_at}
use Rattle.pf_model.proofs.Balance.{inside}
use Rattle.pf_model.proofs.Duality.{IsTight, leaves_parts, enters_parts, stays, enters_by, leaves_by}
use Rattle.pf_select.specs.Problem.{SelectionProblem, IsBoundedProblem, product_at, part_at}
use Rattle.pf_select.specs.Certificate.{charged_on, KeepsRules, IsDropped, CertifiesPrice}
use Rattle.pf_select.specs.Reduction.{product_node, sink_node, select_net, charges_of}
use Rattle.pf_select.proofs.Grouping.{listed, has_listed, length_listed}
use Rattle.pf_select.proofs.NetArcs.{arcs_full, arc_part, arc_need, arc_product, each_arc, end_is, at_charges}
use Rattle.pf_select.proofs.NetFlows.{part_capacity_is, need_capacity_is, product_capacity_is, part_balance, product_balance, charges_are, need_open}

-- the arcs that leave the side are full, those that enter it are empty, arc by arc
pub record IsShut (p : SelectionProblem) (x : Fraction) (flow : List ℤ) (side : List Bool) : Type 0 where
  pub parts : (i : ℕ) → i < length p.costs → has side (suc i) ≡ false → (x.p *ℤ at_arc p.costs i) ≤ℤ at_arc flow i
  pub full_needs : (k : ℕ) → k < length p.needs → has side (suc (part_at p k)) ≡ true → has side (product_node p (product_at p k)) ≡ false →
      (pos (2 ^ 56) *ℤ x.q) ≤ℤ at_arc flow (length p.costs + k)
  pub empty_needs : (k : ℕ) → k < length p.needs → has side (product_node p (product_at p k)) ≡ true → has side (suc (part_at p k)) ≡ false →
      at_arc flow (length p.costs + k) ≤ℤ pos 0
  pub products : (j : ℕ) → j < length p.gains → has side (product_node p j) ≡ true →
      (x.q *ℤ at_arc p.gains j) ≤ℤ at_arc flow (length p.costs + (length p.needs + j))

ends_full : (p : SelectionProblem) → length (map ends_of (select_net p).arcs) ≡ length p.costs + (length p.needs + length p.gains)
ends_full p = length-map (select_net p).arcs ends_of ∙ arcs_full p

end_part : (p : SelectionProblem) (i : ℕ) → i < length p.costs → get_or (map ends_of (select_net p).arcs) i (0, 0) ≡ (0, suc i)
end_part p i low =
    let full = arcs_full p in
    end_is p i (omega (arith, full, low)) ∙ ap ends_of (arc_part p i low)

end_need : (p : SelectionProblem) (k : ℕ) → k < length p.needs →
    get_or (map ends_of (select_net p).arcs) (length p.costs + k) (0, 0) ≡ (suc (part_at p k), product_node p (product_at p k))
end_need p k low =
    let full = arcs_full p in
    end_is p (length p.costs + k) (omega (arith, full, low)) ∙ ap ends_of (arc_need p k low)

end_product : (p : SelectionProblem) (j : ℕ) → j < length p.gains →
    get_or (map ends_of (select_net p).arcs) (length p.costs + (length p.needs + j)) (0, 0) ≡ (product_node p j, sink_node p)
end_product p j low =
    let full = arcs_full p in
    end_is p (length p.costs + (length p.needs + j)) (omega (arith, full, low)) ∙ ap ends_of (arc_product p j low)

pub shut_from_tight : (p : SelectionProblem) (x : Fraction) (flow : List ℤ) (side : List Bool) → has side 0 ≡ true → has side (sink_node p) ≡ false →
    IsTight (network_at (select_net p) x) flow side → IsShut p x flow side
shut_from_tight p x flow side source sink t =
    let wide = ends_full p in
    record {
      parts = λ i low out.
          let h = t.full i (record { in_range = omega (arith, wide, low); passes = rw (end_part p i low) (leaves_by side (0, suc i) source out) }) in
          let c = part_capacity_is p x i low in
          omega (arith, ints, h, c);
      full_needs = λ k low h out.
          let full = t.full (length p.costs + k) (record {
            in_range = omega (arith, wide, low);
            passes = rw (end_need p k low) (leaves_by side (suc (part_at p k), product_node p (product_at p k)) h out);
          }) in
          let c = need_capacity_is p x k low in
          omega (arith, ints, full, c);
      empty_needs = λ k low h out.
          t.empty (length p.costs + k) (record {
            in_range = omega (arith, wide, low);
            passes = rw (end_need p k low) (enters_by side (suc (part_at p k), product_node p (product_at p k)) h out);
          });
      products = λ j low h.
          let full = t.full (length p.costs + (length p.needs + j)) (record {
            in_range = omega (arith, wide, low);
            passes = rw (end_product p j low) (leaves_by side (product_node p j, sink_node p) h sink);
          }) in
          let c = product_capacity_is p x j low in
          omega (arith, ints, full, c);
    }

abbrev FullAt : SelectionProblem → Fraction → List ℤ → List Bool → ℕ → Type 0
FullAt p x flow side i =
    leaves side (get_or (map ends_of (select_net p).arcs) i (0, 0)) ≡ true → at_arc (map (capacity_at x) (select_net p).arcs) i ≤ℤ at_arc flow i

abbrev EmptyAt : SelectionProblem → List ℤ → List Bool → ℕ → Type 0
EmptyAt p flow side i = enters side (get_or (map ends_of (select_net p).arcs) i (0, 0)) ≡ true → at_arc flow i ≤ℤ pos 0

pub tight_from_shut : (p : SelectionProblem) (x : Fraction) (flow : List ℤ) (side : List Bool) → has side 0 ≡ true → has side (sink_node p) ≡ false →
    IsShut p x flow side → IsTight (network_at (select_net p) x) flow side
tight_from_shut p x flow side source sink s =
    let wide = length-map (select_net p).arcs ends_of in
    record {
      full = λ i h. each_arc p (FullAt p x flow side)
          (λ i low e.
          let both = leaves_parts side (0, suc i) (rw (end_part p i low) at e) in
          let h = s.parts i low both.1 in
          let c = part_capacity_is p x i low in
          omega (arith, ints, h, c))
          (λ k low e.
          let both = leaves_parts side (suc (part_at p k), product_node p (product_at p k)) (rw (end_need p k low) at e) in
          let h = s.full_needs k low both.0 both.1 in
          let c = need_capacity_is p x k low in
          omega (arith, ints, h, c))
          (λ j low e.
          let both = leaves_parts side (product_node p j, sink_node p) (rw (end_product p j low) at e) in
          let h = s.products j low both.0 in
          let c = product_capacity_is p x j low in
          omega (arith, ints, h, c)) i (let low = h.in_range in omega (arith, low, wide)) h.passes;
      empty = λ i h. each_arc p (EmptyAt p flow side)
          (λ i low e.
          let both = enters_parts side (0, suc i) (rw (end_part p i low) at e) in
          absurd (both_ways _ both.1 source))
          (λ k low e.
          let both = enters_parts side (suc (part_at p k), product_node p (product_at p k)) (rw (end_need p k low) at e) in
          s.empty_needs k low both.0 both.1)
          (λ j low e.
          let both = enters_parts side (product_node p j, sink_node p) (rw (end_product p j low) at e) in
          absurd (both_ways _ sink both.0)) i (let low = h.in_range in omega (arith, low, wide)) h.passes;
    }

-- a side with these parts and products
abbrev pub side_with : SelectionProblem → (ℕ → Bool) → (ℕ → Bool) → List Bool
side_with p parts products = true ∷ (listed parts (length p.costs) ++ (listed products (length p.gains) ++ (false ∷ [])))

module _ (p : SelectionProblem) (parts products : ℕ → Bool) where
  pub side_part : (i : ℕ) → i < length p.costs → has (side_with p parts products) (suc i) ≡ parts i
  side_part i low =
      let full = length_listed parts (length p.costs) in
      get_or_append_left (listed parts (length p.costs)) _ false i (omega (arith, full, low)) ∙ has_listed parts (length p.costs) i low

  side_behind : (k : ℕ) → has (side_with p parts products) (suc (length p.costs + k)) ≡ has (listed products (length p.gains) ++ (false ∷ [])) k
  side_behind k =
      let rest : ℕ → Bool = λ n. has (side_with p parts products) (suc (n + k)) in
      sym (ap rest (length_listed parts (length p.costs))) ∙ get_or-append-add (listed parts (length p.costs)) _ k false

  pub side_product : (j : ℕ) → j < length p.gains → has (side_with p parts products) (product_node p j) ≡ products j
  side_product j low =
      let full = length_listed products (length p.gains) in
      side_behind j ∙ get_or_append_left (listed products (length p.gains)) _ false j (omega (arith, full, low)) ∙ has_listed products (length p.gains) j low

  pub side_sink : has (side_with p parts products) (sink_node p) ≡ false
  side_sink =
      let e : length p.gains ≡ length (listed products (length p.gains)) + 0 = let full = length_listed products (length p.gains) in omega (arith, full) in
      side_behind (length p.gains) ∙ ap (has (listed products (length p.gains) ++ (false ∷ []))) e
      ∙ get_or-append-add (listed products (length p.gains)) (false ∷ []) 0 false

  pub side_full : length (side_with p parts products) ≡ suc (sink_node p)
  side_full =
      let a = length-append (listed parts (length p.costs)) (listed products (length p.gains) ++ (false ∷ [])) in
      let b = length-append (listed products (length p.gains)) (false ∷ []) in
      omega (arith, a, b, length_listed parts (length p.costs), length_listed products (length p.gains))

-- what the source reaches lies in each shut side that holds the source and not the sink
pub reach_inside : (p : SelectionProblem) (x : Fraction) (flow : List ℤ) (side other : List Bool) → IsReach (network_at (select_net p) x) flow side →
    has other 0 ≡ true → has other (sink_node p) ≡ false → IsShut p x flow other → (v : ℕ) → v < suc (sink_node p) → has side v ≡ true → has other v ≡ true
reach_inside p x flow side other r source sink s v low h =
    let walk = (r.exact v low).0 h in
    stays (network_at (select_net p) x) flow other (tight_from_shut p x flow other source sink s) source walk.0 v walk.1

pub and_parts : (a b : Bool) → (a && b) ≡ true → (a ≡ true) × (b ≡ true)
and_parts true true e = (refl, refl)
and_parts true false e = cc
and_parts false b e = cc

and_both : (a b : Bool) → a ≡ true → b ≡ true → (a && b) ≡ true
and_both a b e f = rw (e, f) refl

and_none : (a b : Bool) → a ≡ true → (a && b) ≡ false → b ≡ false
and_none true b e h = h
and_none false b e h = cc

-- one price: what the flow reaches, and what it charges
module _ (p : SelectionProblem) (x : Fraction) (flow : List ℤ) (side : List Bool) (b : IsBoundedProblem p) (px : IsParameter x)
    (f : IsFlow (network_at (select_net p) x) flow) (r : IsReach (network_at (select_net p) x) flow side) (c : IsNetworkCut (select_net p) side)
    (s : IsShut p x flow side) where
  -- a product that needs a part of the side is in it
  pub needs_stay : (k : ℕ) → k < length p.needs → has side (suc (part_at p k)) ≡ true → has side (product_node p (product_at p k)) ≡ true
  needs_stay k low h = elim (cases_Bool (has side (product_node p (product_at p k)))) [
    | inl held ↦ held
    | inr out ↦ absurd
        (let full = s.full_needs k low h out in
        let less = need_open p x flow k b px f low in
        omega (arith, ints, full, less))
  ]

  -- and a part that such a product charges too
  pub charges_stay : (k : ℕ) → k < length p.needs → has side (product_node p (product_at p k)) ≡ true → pos 0 <ℤ at_arc (charges_of p flow) k →
      has side (suc (part_at p k)) ≡ true
  charges_stay k low h more = elim (cases_Bool (has side (suc (part_at p k)))) [
    | inl held ↦ held
    | inr out ↦ absurd (let none = s.empty_needs k low h out in let e = at_charges p flow k low in omega (arith, ints, none, e, more))
  ]

  pub cheap_reached : (i : ℕ) → i < length p.costs → charged_on p (charges_of p flow) i <ℤ (x.p *ℤ at_arc p.costs i) → has side (suc i) ≡ true
  cheap_reached i low less = elim (cases_Bool (has side (suc i))) [
    | inl held ↦ held
    | inr out ↦ absurd (let h = s.parts i low out in let e = part_balance p x flow i b.problem f low in omega (arith, ints, h, e, less))
  ]

  abbrev reached_parts : List Bool
  reached_parts = listed (λ i. has side (suc i)) (length p.costs)

  abbrev reached_products : List Bool
  reached_products = listed (λ j. has side (product_node p j)) (length p.gains)

  reached_keeps : KeepsRules p x (charges_of p flow) reached_parts reached_products
  reached_keeps = record {
    cheap = λ i low less. has_listed (λ i. has side (suc i)) (length p.costs) i low ∙ cheap_reached i low less;
    needing = λ k low h.
        let held = sym (has_listed (λ i. has side (suc i)) (length p.costs) (part_at p k) (b.problem.part k low)) ∙ h in
        has_listed (λ j. has side (product_node p j)) (length p.gains) (product_at p k) (b.problem.product k low) ∙ needs_stay k low held;
    charging = λ k low h more.
        let held = sym (has_listed (λ j. has side (product_node p j)) (length p.gains) (product_at p k) (b.problem.product k low)) ∙ h in
        has_listed (λ i. has side (suc i)) (length p.costs) (part_at p k) (b.problem.part k low) ∙ charges_stay k low held more;
  }

  -- with other sets that keep the rules, what lies in both is shut
  common_shut : (parts products : List Bool) → KeepsRules p x (charges_of p flow) parts products →
      IsShut p x flow (side_with p (λ i. has side (suc i) && has parts i) (λ j. has side (product_node p j) && has products j))
  common_shut parts products keeps =
      let first : ℕ → Bool = λ i. has side (suc i) && has parts i in
      let second : ℕ → Bool = λ j. has side (product_node p j) && has products j in
      let at_part : (i : ℕ) → i < length p.costs → has (side_with p first second) (suc i) ≡ (has side (suc i) && has parts i) = side_part p first second in
      let at_product : (j : ℕ) → j < length p.gains → has (side_with p first second) (product_node p j) ≡ (has side (product_node p j) && has products j) =
      side_product p first second in
      record {
        parts = λ i low out.
            let none = sym (at_part i low) ∙ out in
            elim (cases_Bool (has side (suc i))) [
              | inl held ↦
                  let off = and_none (has side (suc i)) (has parts i) held none in
                  let e = part_balance p x flow i b.problem f low in
                  by_lt_z (charged_on p (charges_of p flow) i) (x.p *ℤ at_arc p.costs i)
                  (λ less. absurd (both_ways _ off (keeps.cheap i low less)))
                  (λ fine. omega (arith, ints, fine, e))
              | inr off ↦ s.parts i low off
            ];
        full_needs = λ k low h out.
            let u = b.problem.product k low in
            let v = b.problem.part k low in
            let both = and_parts (has side (suc (part_at p k))) (has parts (part_at p k)) (sym (at_part (part_at p k) v) ∙ h) in
            absurd (both_ways _ out (at_product (product_at p k) u
            ∙ and_both (has side (product_node p (product_at p k))) (has products (product_at p k)) (needs_stay k low both.0) (keeps.needing k low both.1)));
        empty_needs = λ k low h out.
            let u = b.problem.product k low in
            let v = b.problem.part k low in
            let both = and_parts (has side (product_node p (product_at p k))) (has products (product_at p k)) (sym (at_product (product_at p k) u) ∙ h) in
            let e = at_charges p flow k low in
            by_lt_z (pos 0) (at_arc (charges_of p flow) k)
            (λ more. absurd (both_ways _ out (at_part (part_at p k) v
            ∙ and_both (has side (suc (part_at p k))) (has parts (part_at p k)) (charges_stay k low both.0 more) (keeps.charging k low both.1 more))))
            (λ fine. omega (arith, ints, fine, e));
        products = λ j low h.
            s.products j low (and_parts (has side (product_node p j)) (has products j) (sym (at_product j low) ∙ h)).0;
      }

  common_inside : (parts products : List Bool) → KeepsRules p x (charges_of p flow) parts products → (v : ℕ) → v < suc (sink_node p) → has side v ≡ true →
      has (side_with p (λ i. has side (suc i) && has parts i) (λ j. has side (product_node p j) && has products j)) v ≡ true
  common_inside parts products keeps v low h =
      let first : ℕ → Bool = λ i. has side (suc i) && has parts i in
      let second : ℕ → Bool = λ j. has side (product_node p j) && has products j in
      reach_inside p x flow side (side_with p first second) r refl (side_sink p first second) (common_shut parts products keeps) v low h

  reached_dropped : IsDropped p x (charges_of p flow) reached_parts reached_products
  reached_dropped = record {
    rules = reached_keeps;
    least_parts = λ parts products keeps i h.
        let full = length_listed (λ i. has side (suc i)) (length p.costs) in
        let inner = inside reached_parts i h in
        let low : i < length p.costs = omega (arith, full, inner) in
        let held = sym (has_listed (λ i. has side (suc i)) (length p.costs) i low) ∙ h in
        (and_parts (has side (suc i)) (has parts i)
        (sym (side_part p (λ i. has side (suc i) && has parts i) (λ j. has side (product_node p j) && has products j) i low)
        ∙ common_inside parts products keeps (suc i) (omega (arith, low)) held)).1;
    least_products = λ parts products keeps j h.
        let full = length_listed (λ j. has side (product_node p j)) (length p.gains) in
        let inner = inside reached_products j h in
        let low : j < length p.gains = omega (arith, full, inner) in
        let held = sym (has_listed (λ j. has side (product_node p j)) (length p.gains) j low) ∙ h in
        (and_parts (has side (product_node p j)) (has products j)
        (sym (side_product p (λ i. has side (suc i) && has parts i) (λ j. has side (product_node p j) && has products j) j low)
        ∙ common_inside parts products keeps (product_node p j) (omega (arith, low)) held)).1;
  }

  pub price_certified : (set : List Bool) → ((i : ℕ) → i < length p.costs → has set i ≡ not (has side (suc i))) →
      CertifiesPrice p x (charges_of p flow) set
  price_certified set rest = record {
    charges_are = charges_are p x flow b.problem f;
    parts = reached_parts;
    products = reached_products;
    dropped = reached_dropped;
    paid = λ j low h.
        let held = sym (has_listed (λ j. has side (product_node p j)) (length p.gains) j low) ∙ h in
        let full = s.products j low held in
        let e = product_balance p x flow j b.problem f low in
        let most = (charges_are p x flow b.problem f).product_high j low in
        omega (arith, ints, full, e, most);
    rest = λ i low. rest i low ∙ ap not (sym (has_listed (λ i. has side (suc i)) (length p.costs) i low));
  }
