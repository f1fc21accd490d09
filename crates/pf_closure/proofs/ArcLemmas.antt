-- The arcs of the network, one item or one need after the other.
use Rattle.std.proofs.Common.{◌≡◌, ℕ, zero, suc, ◌+◌, ◌<◌, List, [], ◌∷◌, ◌++◌, length, get_or, take, map, refl, arith, ap, sym, ◌∙◌, add-one}
use Rattle.std.specs.Prelude.{ℤ}
use Rattle.std.proofs.lemmas.List.{length-map}
use Rattle.pf_model.specs.declared.AffineArc.{AffineArc}
use Rattle.pf_model.specs.Cut.{at_arc}
use Rattle.pf_closure.specs.Reduction.{item_arcs, source_arc, sink_arc, need_arc}
use Rattle.pf_model.proofs.Facts.{one_more, two_more}

pub item_arcs_suc : (sink j k : ℕ) (costs weights : List ℤ) → length weights ≡ length costs → k < length costs →
    item_arcs sink j (take (suc k) costs) (take (suc k) weights)
    ≡ item_arcs sink j (take k costs) (take k weights)
    ++ (source_arc (j + k) (at_arc weights k) ∷ (sink_arc sink (j + k) (at_arc costs k) (at_arc weights k) ∷ []))
item_arcs_suc sink j k [] weights full low = absurd (omega arith)
item_arcs_suc sink j k (c ∷ costs) [] full low = absurd (omega arith)
item_arcs_suc sink j zero (c ∷ costs) (w ∷ weights) full low =
    let e : j ≡ j + 0 = omega arith in
    ap (λ n. source_arc n w ∷ (sink_arc sink n c w ∷ [])) e
item_arcs_suc sink j (suc k) (c ∷ costs) (w ∷ weights) full low =
    let e : suc j + k ≡ j + suc k = omega arith in
    ap (λ l. source_arc j w ∷ (sink_arc sink j c w ∷ l)) (item_arcs_suc sink (suc j) k costs weights (omega arith) (omega arith)
    ∙ ap (λ n. item_arcs sink (suc j) (take k costs) (take k weights)
    ++ (source_arc n (at_arc weights k) ∷ (sink_arc sink n (at_arc costs k) (at_arc weights k) ∷ []))) e)

pub need_arcs_suc : (needs : List (ℕ × ℕ)) (k : ℕ) → k < length needs →
    map need_arc (take (suc k) needs) ≡ map need_arc (take k needs) ++ (need_arc (get_or needs k (0, 0)) ∷ [])
need_arcs_suc [] k low = absurd (omega arith)
need_arcs_suc (need ∷ needs) zero low = refl
need_arcs_suc (need ∷ needs) (suc k) low = ap (λ l. need_arc need ∷ l) (need_arcs_suc needs k (omega arith))

pub pushed_item : (sink k i j : ℕ) (costs weights : List ℤ) (old mid new : List AffineArc) (a b : AffineArc) (c w v : ℤ) → length weights ≡ length costs →
    k < length costs → i ≡ k → j ≡ k → c ≡ at_arc costs k → w ≡ at_arc weights k → v ≡ at_arc weights k →
    old ≡ item_arcs sink 0 (take k costs) (take k weights) →
    mid ≡ old ++ (a ∷ []) → new ≡ mid ++ (b ∷ []) → a ≡ source_arc i v → b ≡ sink_arc sink j c w →
    new ≡ item_arcs sink 0 (take (k + 1) costs) (take (k + 1) weights)
pushed_item sink k i j costs weights old mid new a b c w v full low ei ej ec ew ev before first second ea eb =
    let n : 0 + k ≡ k = omega arith in
    let here : a ≡ source_arc (0 + k) (at_arc weights k) = rw (ea, ei, ev, n) refl in
    let there : b ≡ sink_arc sink (0 + k) (at_arc costs k) (at_arc weights k) = rw (eb, ej, ec, ew, n) refl in
    let more = item_arcs_suc sink 0 k costs weights full low in
    second ∙ ap (λ l. l ++ (b ∷ [])) first ∙ two_more old a b
    ∙ ap (λ l. l ++ (a ∷ (b ∷ []))) before
    ∙ ap (λ x. item_arcs sink 0 (take k costs) (take k weights) ++ (x ∷ (b ∷ []))) here
    ∙ ap (λ x. item_arcs sink 0 (take k costs) (take k weights) ++ (source_arc (0 + k) (at_arc weights k) ∷ (x ∷ []))) there
    ∙ sym more ∙ sym (ap (λ m. item_arcs sink 0 (take m costs) (take m weights)) (add-one k))

pub pushed_need : (needs : List (ℕ × ℕ)) (k : ℕ) (start old new : List AffineArc) (a : AffineArc) → k < length needs →
    old ≡ start ++ map need_arc (take k needs) → new ≡ old ++ (a ∷ []) → a ≡ need_arc (get_or needs k (0, 0)) →
    new ≡ start ++ map need_arc (take (k + 1) needs)
pushed_need needs k start old new a low before step e =
    step ∙ ap (λ l. l ++ (a ∷ [])) before ∙ one_more start (map need_arc (take k needs)) a
    ∙ ap (λ x. start ++ (map need_arc (take k needs) ++ (x ∷ []))) e
    ∙ sym (ap (λ l. start ++ l) (need_arcs_suc needs k low)) ∙ sym (ap (λ m. start ++ map need_arc (take m needs)) (add-one k))

-- how many arcs there are
pub arcs_full : (sink i : ℕ) (costs weights : List ℤ) (needs : List (ℕ × ℕ)) → length weights ≡ length costs →
    length (item_arcs sink i costs weights ++ map need_arc needs) ≡ length costs + length costs + length needs
arcs_full sink i [] weights needs full = let e = length-map needs need_arc in omega (arith, e)
arcs_full sink i (c ∷ costs) [] needs full = absurd (omega (arith, full))
arcs_full sink i (c ∷ costs) (w ∷ weights) needs full =
    let e = arcs_full sink (suc i) costs weights needs (omega (arith, full)) in
    omega (arith, e)
