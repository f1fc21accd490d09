-- Graphs worked by hand: the definitions give what is written beside them.
use Rattle.std.proofs.Common.{◌≡◌, ℕ, zero, suc, ◌<◌, List, [], ◌∷◌, length, replicate, refl, true, false, arith}
use Rattle.std.specs.Prelude.{ℤ}
use Rattle.std.proofs.lemmas.Int.{ints}
use Rattle.std.proofs.lemmas.List.{length-replicate}
use Rattle.pf_model.specs.Fraction.{Fraction, IsParameter}
use Rattle.pf_model.specs.Cut.{has}
use Rattle.pf_graph.specs.WeightedGraph.{WeightedGraph}
use Rattle.pf_dense.specs.Certificate.{charged, allowance, AreCharges, CertifiesDense}
use Rattle.pf_dense.specs.Worked.{three, four, TiedTriangle, TriangleAlone, NoEdges, CheapVertex, DearVertex, DearVertexKept, WrongCharge, DearNumbers}
use Rattle.pf_model.proofs.Facts.{below_four, below_three, below_two}
use Rattle.pf_model.proofs.Search.{has_none}

none_below : (P : ℕ → Type 0) (k : ℕ) → k < 0 → P k
none_below P k low = absurd (omega (arith, low))

-- where each vertex is charged all that it may be, nothing is dropped
holds_none : (n v : ℕ) → has (replicate n false) v ≡ true → ⊥
holds_none zero v h = cc
holds_none (suc n) zero h = cc
holds_none (suc n) (suc v) h = holds_none n v h

has_all : (n v : ℕ) → v < n → has (replicate n true) v ≡ true
has_all zero v low = absurd (omega (arith, low))
has_all (suc n) zero low = refl
has_all (suc n) (suc v) low = has_all n v (omega (arith, low))

full_certifies : (g : WeightedGraph) (x : Fraction) (charges : List ℤ) → IsParameter x → AreCharges g x charges → 0 < g.nodes →
    ((v : ℕ) → v < g.nodes → charged g x charges v ≡ allowance g x v) → CertifiesDense g x (replicate g.nodes true) charges
full_certifies g x charges parameter charges_are some tight = record {
  parameter = parameter;
  charges_are = charges_are;
  within = record { most = λ v low. let e = tight v low in omega (arith, ints, e) };
  vertices = replicate g.nodes false;
  edges = replicate (length g.ends) false;
  dropped = record {
    rules = record {
      strict = λ v low less. let e = tight v low in absurd (omega (arith, ints, e, less));
      edge_by_first = λ i low h. absurd (holds_none g.nodes _ h);
      edge_by_second = λ i low h. absurd (holds_none g.nodes _ h);
      first_by_edge = λ i low h more. absurd (holds_none (length g.ends) i h);
      second_by_edge = λ i low h more. absurd (holds_none (length g.ends) i h);
    };
    least_vertices = λ vertices edges keeps v h. absurd (holds_none g.nodes v h);
    least_edges = λ vertices edges keeps i h. absurd (holds_none (length g.ends) i h);
  };
  full = length-replicate g.nodes true;
  rest = λ v low. rw (has_all g.nodes v low, has_none g.nodes v) refl;
  some = record { vertex = 0; held = has_all g.nodes 0 some };
}

pub tied_triangle : TiedTriangle
tied_triangle =
    full_certifies _ _ _ (omega (arith, ints))
    (record {
      full = refl;
      low = below_four (λ i. _) (omega (arith, ints)) (omega (arith, ints)) (omega (arith, ints)) (omega (arith, ints));
      high = below_four (λ i. _) (omega (arith, ints)) (omega (arith, ints)) (omega (arith, ints)) (omega (arith, ints));
    })
    (omega arith) (below_four (λ v. _) refl refl refl refl)

pub no_edges_is : NoEdges
no_edges_is =
    full_certifies _ _ _ (omega (arith, ints)) (record { full = refl; low = none_below (λ i. _); high = none_below (λ i. _) }) (omega arith)
    (below_three (λ v. _) refl refl refl)

pub cheap_vertex : CheapVertex
cheap_vertex =
    full_certifies _ _ _ (omega (arith, ints))
    (record {
      full = refl;
      low = below_two (λ i. _) (omega (arith, ints)) (omega (arith, ints));
      high = below_two (λ i. _) (omega (arith, ints)) (omega (arith, ints));
    })
    (omega arith) (below_three (λ v. _) refl refl refl)

only_last : (P : ℕ → Type 0) → P 2 → (v : ℕ) → has (three false false true) v ≡ true → P v
only_last P last zero h = cc
only_last P last (suc zero) h = cc
only_last P last (suc (suc zero)) h = last
only_last P last (suc (suc (suc v))) h = cc

only_second : (P : ℕ → Type 0) → P 1 → (i : ℕ) → has (false ∷ (true ∷ [])) i ≡ true → P i
only_second P second zero h = cc
only_second P second (suc zero) h = second
only_second P second (suc (suc i)) h = cc

pub dear_vertex : DearVertex
dear_vertex = record {
  parameter = omega (arith, ints);
  charges_are = record {
    full = refl;
    low = below_two (λ i. _) (omega (arith, ints)) (omega (arith, ints));
    high = below_two (λ i. _) (omega (arith, ints)) (omega (arith, ints));
  };
  within = record { most = below_three (λ v. _) (omega (arith, ints)) (omega (arith, ints)) (omega (arith, ints)) };
  vertices = three false false true;
  edges = false ∷ (true ∷ []);
  dropped = record {
    rules = record {
      strict = below_three (λ v. _) (λ less. absurd (omega (arith, ints, less))) (λ less. absurd (omega (arith, ints, less))) (λ less. refl);
      edge_by_first = below_two (λ i. _) (λ h. cc) (λ h. refl);
      edge_by_second = below_two (λ i. _) (λ h. cc) (λ h. refl);
      first_by_edge = below_two (λ i. _) (λ h more. cc) (λ h more. absurd (omega (arith, ints, more)));
      second_by_edge = below_two (λ i. _) (λ h more. cc) (λ h more. refl);
    };
    least_vertices = λ vertices edges keeps. only_last (λ v. has vertices v ≡ true) (keeps.strict 2 (omega arith) (omega (arith, ints)));
    least_edges = λ vertices edges keeps. only_second (λ i. has edges i ≡ true) (keeps.edge_by_second 1 (omega arith) (keeps.strict 2 (omega arith) (omega (arith, ints))));
  };
  full = refl;
  rest = below_three (λ v. _) refl refl refl;
  some = record { vertex = 0; held = refl };
}

pub triangle_alone : TriangleAlone
triangle_alone b =
    let h = b.holds (four true true true true) (record { full = refl; some = record { vertex = 0; held = refl } }) refl 3 refl in
    cc

pub dear_vertex_kept : DearVertexKept
dear_vertex_kept b = let e = b.density in omega (arith, ints, e)

pub wrong_charge : WrongCharge
wrong_charge c = let e = c.within.most 0 (omega arith) in omega (arith, ints, e)

pub dear_numbers : DearNumbers
dear_numbers = (refl, refl)
