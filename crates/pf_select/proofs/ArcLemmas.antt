-- The arcs of the network, one after the other, and what is read off its curve.
use Rattle.std.proofs.Common.{◌≡◌, ℕ, zero, suc, ◌+◌, ◌<◌, List, [], ◌∷◌, ◌++◌, length, get_or, take, map, refl, true, arith, ap, sym, ◌∙◌, add-one, zero-add}
use Rattle.std.specs.Prelude.{ℤ, ◌+ℤ◌, pos}
use Rattle.std.proofs.lemmas.Int.{ints}
use Rattle.pf_model.specs.declared.AffineArc.{AffineArc}
use Rattle.pf_model.specs.Fraction.{Fraction}
use Rattle.pf_net.specs.Limits.{rising}
use Rattle.pf_select.specs.Problem.{SelectionProblem, sum_of}
use Rattle.pf_select.specs.Reduction.{part_arc, need_arc, product_arc, part_arcs, product_arcs, sink_node, whole_gain, select_net}
use Rattle.pf_model.proofs.Facts.{join_three, one_more}

part_arcs_suc : (j k : ℕ) (costs : List ℕ) → k < length costs →
    part_arcs j (map pos (take (suc k) costs)) ≡ part_arcs j (map pos (take k costs)) ++ (part_arc (j + k) (pos (get_or costs k 0)) ∷ [])
part_arcs_suc j k [] low = absurd (omega (arith, low))
part_arcs_suc j zero (c ∷ costs) low = let e : j ≡ j + 0 = omega arith in ap (λ n. part_arc n (pos c) ∷ []) e
part_arcs_suc j (suc k) (c ∷ costs) low =
    let e : suc j + k ≡ j + suc k = omega arith in
    ap (λ l. part_arc j (pos c) ∷ l) (part_arcs_suc (suc j) k costs (omega (arith, low))
    ∙ ap (λ n. part_arcs (suc j) (map pos (take k costs)) ++ (part_arc n (pos (get_or costs k 0)) ∷ [])) e)

product_arcs_suc : (sink parts j k : ℕ) (gains : List ℕ) → k < length gains →
    product_arcs sink parts j (map pos (take (suc k) gains))
    ≡ product_arcs sink parts j (map pos (take k gains)) ++ (product_arc sink parts (j + k) (pos (get_or gains k 0)) ∷ [])
product_arcs_suc sink parts j k [] low = absurd (omega (arith, low))
product_arcs_suc sink parts j zero (c ∷ gains) low = let e : j ≡ j + 0 = omega arith in ap (λ n. product_arc sink parts n (pos c) ∷ []) e
product_arcs_suc sink parts j (suc k) (c ∷ gains) low =
    let e : suc j + k ≡ j + suc k = omega arith in
    ap (λ l. product_arc sink parts j (pos c) ∷ l) (product_arcs_suc sink parts (suc j) k gains (omega (arith, low))
    ∙ ap (λ n. product_arcs sink parts (suc j) (map pos (take k gains)) ++ (product_arc sink parts n (pos (get_or gains k 0)) ∷ [])) e)

need_arcs_suc : (parts : ℕ) (needs : List (ℕ × ℕ)) (k : ℕ) → k < length needs →
    map (need_arc parts) (take (suc k) needs) ≡ map (need_arc parts) (take k needs) ++ (need_arc parts (get_or needs k (0, 0)) ∷ [])
need_arcs_suc parts [] k low = absurd (omega (arith, low))
need_arcs_suc parts (need ∷ needs) zero low = refl
need_arcs_suc parts (need ∷ needs) (suc k) low = ap (λ l. need_arc parts need ∷ l) (need_arcs_suc parts needs k (omega (arith, low)))

pub pushed_part : (costs : List ℕ) (k i : ℕ) (old new : List AffineArc) (a : AffineArc) → k < length costs → i ≡ k →
    old ≡ part_arcs 0 (map pos (take k costs)) → new ≡ old ++ (a ∷ []) → a ≡ part_arc i (pos (get_or costs k 0)) →
    new ≡ part_arcs 0 (map pos (take (k + 1) costs))
pushed_part costs k i old new a low same before step e =
    let here : a ≡ part_arc (0 + k) (pos (get_or costs k 0)) = e ∙ ap (λ n. part_arc n (pos (get_or costs k 0))) (same ∙ sym (zero-add k)) in
    step ∙ ap (λ l. l ++ (a ∷ [])) before ∙ ap (λ x. part_arcs 0 (map pos (take k costs)) ++ (x ∷ [])) here
    ∙ sym (part_arcs_suc 0 k costs low) ∙ sym (ap (λ n. part_arcs 0 (map pos (take n costs))) (add-one k))

pub pushed_need : (parts : ℕ) (needs : List (ℕ × ℕ)) (k : ℕ) (start old new : List AffineArc) (a : AffineArc) → k < length needs →
    old ≡ start ++ map (need_arc parts) (take k needs) → new ≡ old ++ (a ∷ []) → a ≡ need_arc parts (get_or needs k (0, 0)) →
    new ≡ start ++ map (need_arc parts) (take (k + 1) needs)
pushed_need parts needs k start old new a low before step e =
    step ∙ ap (λ l. l ++ (a ∷ [])) before ∙ one_more start (map (need_arc parts) (take k needs)) a
    ∙ ap (λ x. start ++ (map (need_arc parts) (take k needs) ++ (x ∷ []))) e
    ∙ sym (ap (λ l. start ++ l) (need_arcs_suc parts needs k low)) ∙ sym (ap (λ m. start ++ map (need_arc parts) (take m needs)) (add-one k))

pub pushed_product : (sink parts : ℕ) (gains : List ℕ) (k j : ℕ) (start old new : List AffineArc) (a : AffineArc) → k < length gains → j ≡ k →
    old ≡ start ++ product_arcs sink parts 0 (map pos (take k gains)) → new ≡ old ++ (a ∷ []) → a ≡ product_arc sink parts j (pos (get_or gains k 0)) →
    new ≡ start ++ product_arcs sink parts 0 (map pos (take (k + 1) gains))
pushed_product sink parts gains k j start old new a low same before step e =
    let here : a ≡ product_arc sink parts (0 + k) (pos (get_or gains k 0)) =
    e ∙ ap (λ n. product_arc sink parts n (pos (get_or gains k 0))) (same ∙ sym (zero-add k)) in
    step ∙ ap (λ l. l ++ (a ∷ [])) before ∙ one_more start (product_arcs sink parts 0 (map pos (take k gains))) a
    ∙ ap (λ x. start ++ (product_arcs sink parts 0 (map pos (take k gains)) ++ (x ∷ []))) here
    ∙ sym (ap (λ l. start ++ l) (product_arcs_suc sink parts 0 k gains low))
    ∙ sym (ap (λ m. start ++ product_arcs sink parts 0 (map pos (take m gains))) (add-one k))

-- the network is made of these parts
same_parts : (n n' s s' : ℕ) (l l' h h' : Fraction) (xs xs' : List AffineArc) → n ≡ n' → s ≡ s' → l ≡ l' → h ≡ h' → xs ≡ xs' →
    rising n 0 s l h xs ≡ rising n' 0 s' l' h' xs'
same_parts n n' s s' l l' h h' xs xs' a b c d e = rw (a, b, c, d, e) refl

pub same_net : (p : SelectionProblem) (sink parts sum : ℕ) (costs gains : List ℕ) (low high : Fraction) (first second third : List AffineArc) →
    parts ≡ length p.costs → sink ≡ length p.costs + length p.gains + 1 → p.costs ≡ map pos costs → p.gains ≡ map pos gains →
    low ≡ record { p = pos 0; q = pos 1 } → high ≡ record { p = pos (sum + 1); q = pos 1 } → pos sum ≡ sum_of (λ j. true) (map pos gains) →
    first ≡ part_arcs 0 (map pos costs) → second ≡ first ++ map (need_arc (length p.costs)) p.needs →
    third ≡ second ++ product_arcs sink parts 0 (map pos gains) → rising (sink + 1) 0 sink low high third ≡ select_net p
same_net p sink parts sum costs gains low high first second third count ends c g l h total a b d =
    let s : sink ≡ sink_node p = ends ∙ add-one (length p.costs + length p.gains) in
    let n : sink + 1 ≡ suc (sink_node p) = add-one sink ∙ ap suc s in
    let whole : pos (sum + 1) ≡ whole_gain p +ℤ pos 1 = let e = total ∙ ap (sum_of (λ j. true)) (sym g) in omega (arith, ints, e) in
    let top : high ≡ record { p = whole_gain p +ℤ pos 1; q = pos 1 } =
    h ∙ ap (λ (m : ℤ). let x : Fraction = record { p = m; q = pos 1 } in x) whole in
    let arcs : third ≡ (select_net p).arcs =
    d ∙ ap (λ l. l ++ product_arcs sink parts 0 (map pos gains)) (b ∙ ap (λ l. l ++ map (need_arc (length p.costs)) p.needs) a)
    ∙ join_three (part_arcs 0 (map pos costs)) (map (need_arc (length p.costs)) p.needs) (product_arcs sink parts 0 (map pos gains))
    ∙ ap (λ l. part_arcs 0 l ++ (map (need_arc (length p.costs)) p.needs ++ product_arcs sink parts 0 (map pos gains))) (sym c)
    ∙ ap (λ l. part_arcs 0 p.costs ++ (map (need_arc (length p.costs)) p.needs ++ product_arcs sink parts 0 l)) (sym g)
    ∙ ap (λ m. part_arcs 0 p.costs ++ (map (need_arc (length p.costs)) p.needs ++ product_arcs sink m 0 p.gains)) count
    ∙ ap (λ m. part_arcs 0 p.costs ++ (map (need_arc (length p.costs)) p.needs ++ product_arcs m (length p.costs) 0 p.gains)) s in
    same_parts (sink + 1) (suc (sink_node p)) sink (sink_node p) low (select_net p).low high (select_net p).high third (select_net p).arcs n s l top arcs
