-- The marked edges in their queue, and the way back from each to an edge in no slot.
use Rattle.std.proofs.Common.{◌≡◌, ◌≢◌, ℕ, zero, suc, ◌+◌, ◌<◌, ◌≤◌, List, length, set, replicate, refl, Bool, true, false, cond, arith, ap, sym, ◌∙◌, inl, inr, subst}
use Rattle.std.proofs.lemmas.Bool.{cases_eq, both_ways, false_from_ne_true}
use Rattle.std.proofs.lemmas.List.{length-set, length-replicate, get_or-set_same, get_or-set_other}
use Rattle.pf_model.specs.Cut.{has, size}
use Rattle.pf_model.proofs.Search.{size-le-length, size-set, size_less, has-set, has-set_new, has-set_here, has_none, set_same}
use Rattle.pf_model.proofs.Balance.{inside}
use Rattle.pf_trees.specs.Sides.{separates}
use Rattle.pf_trees.specs.Slots.{at, edge_at, IsPlaced}
use Rattle.pf_trees.specs.State.{IsClosed}
use Rattle.pf_trees.specs.Search.{HasWays, IsMarking, HasPlaces, IsStarted}

pub put_same : (xs : List ℕ) (i y : ℕ) → i < length xs → at (set xs i y) i ≡ y
put_same xs i y h = rw get_or-set_same refl

pub put_other : (xs : List ℕ) (i k y : ℕ) → k ≢ i → at (set xs i y) k ≡ at xs k
put_other xs i k y ne = rw get_or-set_other refl

unlike : (mark : List Bool) (x y : ℕ) → has mark x ≡ true → has mark y ≡ false → x ≢ y
unlike mark x y h k e = both_ways (has mark y) k (sym (ap (has mark) e) ∙ h)

pub marking_more : (m : ℕ) (mark : List Bool) (queue : List ℕ) (put y : ℕ) → IsMarking m mark queue put → y < m → has mark y ≡ false →
    IsMarking m (set mark y true) (set queue put y) (put + 1)
marking_more m mark queue put y k h out =
    let full = k.full in
    let places = k.places in
    let count = k.count in
    let there : y < length mark = omega arith in
    let room : put < length queue = omega (arith, size_less mark y there out) in
    record {
      full = length-set mark y true ∙ full;
      places = length-set queue put y ∙ places;
      count = omega (arith, size-set mark y there out);
      queued = λ i l. elim (cases_eq i put) [
        | inl e ↦ rw (e, put_same queue put y room) (has-set_here mark y there)
        | inr ne ↦ rw (put_other queue put i y ne) (has-set mark y (at queue i) (k.queued i (omega arith)))
      ];
      waits = λ x l. elim (has-set_new mark y x l) [
        | inl new ↦ record { index = put; upto = omega arith; holds = put_same queue put y room ∙ sym new }
        | inr old ↦
            let w = k.waits x old in
            let u = w.upto in
            record { index = w.index; upto = omega arith; holds = put_other queue put w.index y (λ e. omega (arith, e)) ∙ w.holds }
      ];
    }

pub marking_room : (m : ℕ) (mark : List Bool) (queue : List ℕ) (put y : ℕ) → IsMarking m mark queue put → y < m → has mark y ≡ false → put < length queue
marking_room m mark queue put y k h out =
    let full = k.full in
    let places = k.places in
    let count = k.count in
    omega (arith, size_less mark y (omega arith) out)

pub marking_put : (m : ℕ) (mark : List Bool) (queue : List ℕ) (put : ℕ) → IsMarking m mark queue put → put ≤ m
marking_put m mark queue put k =
    let full = k.full in
    let count = k.count in
    omega (arith, size-le-length mark)

pub marking_none : (m : ℕ) (mark : List Bool) (queue : List ℕ) → mark ≡ replicate m false → length queue ≡ m → IsMarking m mark queue 0
marking_none m mark queue e places = record {
  full = ap length e ∙ length-replicate m false;
  places = places;
  count = sym (ap size e ∙ none m);
  queued = λ i h. absurd (omega arith);
  waits = λ x h. absurd (both_ways (has mark x) (ap (λ l. has l x) e ∙ has_none m x) h);
}
  where
    none : (m : ℕ) → size (replicate m false) ≡ 0
    none zero = refl
    none (suc m) = let e = none m in omega arith

marking_cases : (m : ℕ) (mark : List Bool) (queue : List ℕ) (put y : ℕ) → IsMarking m mark queue put → y < m → (b : Bool) → has mark y ≡ b →
    IsMarking m (set mark y true) (cond b queue (set queue put y)) (cond b put (put + 1))
marking_cases m mark queue put y k h true e = rw (set_same mark y e) k
marking_cases m mark queue put y k h false e = marking_more m mark queue put y k h e

pub marking_visit : (m : ℕ) (mark mark' : List Bool) (queue queue' : List ℕ) (put put' y : ℕ) → IsMarking m mark queue put → y < m → mark' ≡ set mark y true →
    queue' ≡ cond (has mark y) queue (set queue put y) → put' ≡ cond (has mark y) put (put + 1) → IsMarking m mark' queue' put'
marking_visit m mark mark' queue queue' put put' y k h a b c = rw (a, b, c) (marking_cases m mark queue put y k h (has mark y) refl)

places_cases : (m : ℕ) (mark : List Bool) (queue from level : List ℕ) (put y x depth : ℕ) → HasPlaces m mark queue from level → (b : Bool) →
    HasPlaces m (set mark y true) (cond b queue (set queue put y)) (cond b from (set from y x)) (cond b level (set level y depth))
places_cases m mark queue from level put y x depth p true =
    record { mark_full = length-set mark y true ∙ p.mark_full; queue_full = p.queue_full; from_full = p.from_full; level_full = p.level_full }
places_cases m mark queue from level put y x depth p false = record {
  mark_full = length-set mark y true ∙ p.mark_full;
  queue_full = length-set queue put y ∙ p.queue_full;
  from_full = length-set from y x ∙ p.from_full;
  level_full = length-set level y depth ∙ p.level_full;
}

pub places_visit : (m : ℕ) (mark mark' : List Bool) (queue queue' from from' level level' : List ℕ) (put y x depth : ℕ) → HasPlaces m mark queue from level → mark' ≡ set mark y true →
    queue' ≡ cond (has mark y) queue (set queue put y) → from' ≡ cond (has mark y) from (set from y x) → level' ≡ cond (has mark y) level (set level y depth) →
    HasPlaces m mark' queue' from' level'
places_visit m mark mark' queue queue' from from' level level' put y x depth p a b c d = rw (a, b, c, d) (places_cases m mark queue from level put y x depth p (has mark y))

started_cases : (total : ℕ) (place : List ℕ) (mark : List Bool) (level : List ℕ) (put x : ℕ) → IsStarted total place mark level put → x < length level → total ≤ at place x →
    (b : Bool) → has mark x ≡ b → IsStarted total place (set mark x true) (cond b level (set level x 0)) (cond b put (put + 1))
started_cases total place mark level put x s h out true e = rw (set_same mark x e) s
started_cases total place mark level put x s h out false e = record {
  only = λ y l. elim (has-set_new mark x y l) [
    | inl new ↦ rw new out
    | inr old ↦ s.only y old
  ];
  levels = λ y l. elim (has-set_new mark x y l) [
    | inl new ↦ rw (new, put_same level x 0 h) (omega arith)
    | inr old ↦ rw (put_other level x y 0 (unlike mark y x old e)) (let f = s.levels y old in omega (arith, f))
  ];
}

pub started_visit : (total : ℕ) (place : List ℕ) (mark mark' : List Bool) (level level' : List ℕ) (put put' x : ℕ) → IsStarted total place mark level put → x < length level → total ≤ at place x →
    mark' ≡ set mark x true → level' ≡ cond (has mark x) level (set level x 0) → put' ≡ cond (has mark x) put (put + 1) → IsStarted total place mark' level' put'
started_visit total place mark mark' level level' put put' x s h out a b c = rw (a, b, c) (started_cases total place mark level put x s h out (has mark x) refl)

pub started_none : (total m : ℕ) (place : List ℕ) (mark : List Bool) (level : List ℕ) → mark ≡ replicate m false → IsStarted total place mark level 0
started_none total m place mark level e = record {
  only = λ x h. absurd (both_ways (has mark x) (ap (λ l. has l x) e ∙ has_none m x) h);
  levels = λ x h. absurd (both_ways (has mark x) (ap (λ l. has l x) e ∙ has_none m x) h);
}

ways_cases : (ends : List (ℕ × ℕ)) (cut : ℕ → ℕ → Bool) (place : List ℕ) (total : ℕ) (mark : List Bool) (from level : List ℕ) (put y x depth : ℕ) →
    HasWays ends cut place total mark from level put → y < length from → y < length level → has mark x ≡ true → depth ≡ at level x + 1 →
    separates (cut (at place y)) (edge_at ends x) ≡ true → (b : Bool) → has mark y ≡ b →
    HasWays ends cut place total (set mark y true) (cond b from (set from y x)) (cond b level (set level y depth)) (cond b put (put + 1))
ways_cases ends cut place total mark from level put y x depth w h k mx de cr true e = rw (set_same mark y e) w
ways_cases ends cut place total mark from level put y x depth w h k mx de cr false e = record {
  back = λ z l low. elim (has-set_new mark y z l) [
    | inl new ↦
        let f : at (set from y x) z ≡ x = rw (new, put_same from y x h) refl in
        let lx : at (set level y depth) x ≡ at level x = put_other level y x depth (unlike mark x y mx e) in
        let lz : at (set level y depth) z ≡ depth = rw (new, put_same level y depth k) refl in
        record {
          marked = rw f (has-set mark y x mx);
          nearer = rw f (omega (arith, lx, lz, de));
          crossing = rw (f, new) cr;
        }
    | inr old ↦
        let b = w.back z old low in
        let f : at (set from y x) z ≡ at from z = put_other from y z x (unlike mark z y old e) in
        let lf : at (set level y depth) (at from z) ≡ at level (at from z) = put_other level y (at from z) depth (unlike mark (at from z) y b.marked e) in
        let lz : at (set level y depth) z ≡ at level z = put_other level y z depth (unlike mark z y old e) in
        let near = b.nearer in
        record {
          marked = rw f (has-set mark y (at from z) b.marked);
          nearer = rw f (omega (arith, lf, lz, near));
          crossing = rw f b.crossing;
        }
  ];
  levels = λ z l. elim (has-set_new mark y z l) [
    | inl new ↦ rw (new, put_same level y depth k) (let f = w.levels x mx in omega (arith, f, de))
    | inr old ↦ rw (put_other level y z depth (unlike mark z y old e)) (let f = w.levels z old in omega (arith, f))
  ];
}

-- the edges of all slots whose cuts the edge crosses are marked
pub record IsHandled (ends : List (ℕ × ℕ)) (cut : ℕ → ℕ → Bool) (slot : List ℕ) (mark : List Bool) (x t : ℕ) : Type 0 where
  pub held : (s : ℕ) → s < t → separates (cut s) (edge_at ends x) ≡ true → at slot s < length ends
  pub marked : (s : ℕ) → s < t → separates (cut s) (edge_at ends x) ≡ true → has mark (at slot s) ≡ true

handled_later : (ends : List (ℕ × ℕ)) (cut : ℕ → ℕ → Bool) (slot : List ℕ) (mark : List Bool) (y x t : ℕ) → IsHandled ends cut slot mark x t → IsHandled ends cut slot (set mark y true) x t
handled_later ends cut slot mark y x t d = record { held = d.held; marked = λ s h c. has-set mark y (at slot s) (d.marked s h c) }

pub record IsSearching (ends : List (ℕ × ℕ)) (cut : ℕ → ℕ → Bool) (slot place : List ℕ) (total : ℕ) (mark : List Bool) (queue from level : List ℕ) (taken put : ℕ) : Type 0 where
  pub places : HasPlaces (length ends) mark queue from level
  pub marking : IsMarking (length ends) mark queue put
  pub ways : HasWays ends cut place total mark from level put
  pub roots : (x : ℕ) → x < length ends → has mark x ≡ false → at place x < total
  pub order : taken ≤ put
  pub done : (i : ℕ) → i < taken → IsHandled ends cut slot mark (at queue i) total

-- the same while the slots are gone through for the edge x, the last one taken
pub record IsScanning (ends : List (ℕ × ℕ)) (cut : ℕ → ℕ → Bool) (slot place : List ℕ) (total : ℕ) (mark : List Bool) (queue from level : List ℕ) (taken put x t depth : ℕ) : Type 0 where
  pub places : HasPlaces (length ends) mark queue from level
  pub marking : IsMarking (length ends) mark queue put
  pub ways : HasWays ends cut place total mark from level put
  pub roots : (x : ℕ) → x < length ends → has mark x ≡ false → at place x < total
  pub order : taken ≤ put
  pub done : (i : ℕ) → i + 1 < taken → IsHandled ends cut slot mark (at queue i) total
  pub now : (i : ℕ) → i + 1 ≡ taken → at queue i ≡ x
  pub marked : has mark x ≡ true
  pub depth_is : depth ≡ at level x + 1
  pub seen : IsHandled ends cut slot mark x t

-- the number of slots, told by the table
pub placed_whole : (m t : ℕ) (slot place : List ℕ) → IsPlaced m t slot place → IsPlaced m (length slot) slot place
placed_whole m t slot place p = subst (λ n. IsPlaced m n slot place) (sym p.slots_full) p

pub scan_skip : (ends : List (ℕ × ℕ)) (cut : ℕ → ℕ → Bool) (slot place : List ℕ) (total : ℕ) (mark : List Bool) (queue from level : List ℕ) (taken put x t depth : ℕ) →
    IsScanning ends cut slot place total mark queue from level taken put x t depth → separates (cut t) (edge_at ends x) ≡ false →
    IsScanning ends cut slot place total mark queue from level taken put x (t + 1) depth
scan_skip ends cut slot place total mark queue from level taken put x t depth s none = record {
  places = s.places;
  marking = s.marking;
  ways = s.ways;
  roots = s.roots;
  order = s.order;
  done = s.done;
  now = s.now;
  marked = s.marked;
  depth_is = s.depth_is;
  seen = record {
    held = λ i l c. elim (cases_eq i t) [
      | inl e ↦ absurd (both_ways (separates (cut t) (edge_at ends x)) none (ap (λ k. separates (cut k) (edge_at ends x)) (sym e) ∙ c))
      | inr ne ↦ s.seen.held i (omega arith) c
    ];
    marked = λ i l c. elim (cases_eq i t) [
      | inl e ↦ absurd (both_ways (separates (cut t) (edge_at ends x)) none (ap (λ k. separates (cut k) (edge_at ends x)) (sym e) ∙ c))
      | inr ne ↦ s.seen.marked i (omega arith) c
    ];
  };
}

seen_more : (ends : List (ℕ × ℕ)) (cut : ℕ → ℕ → Bool) (slot : List ℕ) (mark : List Bool) (x t y : ℕ) → IsHandled ends cut slot mark x t → y ≡ at slot t → y < length ends → y < length mark →
    IsHandled ends cut slot (set mark y true) x (t + 1)
seen_more ends cut slot mark x t y s e h k = record {
  held = λ i l c. elim (cases_eq i t) [
    | inl f ↦ rw (f, ← e) h
    | inr ne ↦ s.held i (omega arith) c
  ];
  marked = λ i l c. elim (cases_eq i t) [
    | inl f ↦ rw (f, ← e) (has-set_here mark y k)
    | inr ne ↦ has-set mark y (at slot i) (s.marked i (omega arith) c)
  ];
}

scan_cases : (ends : List (ℕ × ℕ)) (cut : ℕ → ℕ → Bool) (slot place : List ℕ) (total : ℕ) (mark : List Bool) (queue from level : List ℕ) (taken put x t depth y : ℕ) →
    IsScanning ends cut slot place total mark queue from level taken put x t depth → separates (cut t) (edge_at ends x) ≡ true → y ≡ at slot t → y < length ends → at place y ≡ t →
    (b : Bool) → has mark y ≡ b →
    IsScanning ends cut slot place total (set mark y true) (cond b queue (set queue put y)) (cond b from (set from y x)) (cond b level (set level y depth)) taken (cond b put (put + 1)) x (t + 1) depth
scan_cases ends cut slot place total mark queue from level taken put x t depth y s c e h p true m =
    let full = s.places.mark_full in
    let seen = seen_more ends cut slot mark x t y s.seen e h (omega arith) in
    let seen' : IsHandled ends cut slot mark x (t + 1) = subst (λ l. IsHandled ends cut slot l x (t + 1)) (set_same mark y m) seen in
    rw (set_same mark y m) (record {
      places = s.places;
      marking = s.marking;
      ways = s.ways;
      roots = s.roots;
      order = s.order;
      done = s.done;
      now = s.now;
      marked = s.marked;
      depth_is = s.depth_is;
      seen = seen';
    })
scan_cases ends cut slot place total mark queue from level taken put x t depth y s c e h p false m =
    let full = s.places.mark_full in
    let ff = s.places.from_full in
    let lf = s.places.level_full in
    let o = s.order in
    record {
      places = places_cases (length ends) mark queue from level put y x depth s.places false;
      marking = marking_more (length ends) mark queue put y s.marking h m;
      ways = ways_cases ends cut place total mark from level put y x depth s.ways (omega arith) (omega arith) s.marked s.depth_is (ap (λ k. separates (cut k) (edge_at ends x)) p ∙ c) false m;
      roots = λ z l none. s.roots z l (false_from_ne_true (has mark z) (λ was. both_ways (has (set mark y true) z) none (has-set mark y z was)));
      order = omega arith;
      done = λ i l. rw (put_other queue put i y (λ f. omega (arith, f))) (handled_later ends cut slot mark y (at queue i) total (s.done i l));
      now = λ i l. put_other queue put i y (λ f. omega (arith, f)) ∙ s.now i l;
      marked = has-set mark y x s.marked;
      depth_is = s.depth_is ∙ ap (λ k. k + 1) (sym (put_other level y x depth (unlike mark x y s.marked m)));
      seen = seen_more ends cut slot mark x t y s.seen e h (omega arith);
    }

pub scan_visit : (ends : List (ℕ × ℕ)) (cut : ℕ → ℕ → Bool) (slot place : List ℕ) (total : ℕ) (mark mark' : List Bool) (queue queue' from from' level level' : List ℕ) (taken put put' x t depth y : ℕ) →
    IsScanning ends cut slot place total mark queue from level taken put x t depth → IsPlaced (length ends) total slot place → t < total → separates (cut t) (edge_at ends x) ≡ true →
    y ≡ at slot t → y ≢ length ends → mark' ≡ set mark y true →
    queue' ≡ cond (has mark y) queue (set queue put y) → from' ≡ cond (has mark y) from (set from y x) → level' ≡ cond (has mark y) level (set level y depth) →
    put' ≡ cond (has mark y) put (put + 1) →
    IsScanning ends cut slot place total mark' queue' from' level' taken put' x (t + 1) depth
scan_visit ends cut slot place total mark mark' queue queue' from from' level level' taken put put' x t depth y s p ht c e ne a1 a2 a3 a4 a5 =
    let most = p.slots_most t ht in
    let low : y < length ends = omega arith in
    let there : at place y ≡ t = ap (at place) e ∙ p.back t ht (omega arith) in
    rw (a1, a2, a3, a4, a5) (scan_cases ends cut slot place total mark queue from level taken put x t depth y s c e low there (has mark y) refl)

pub search_ends : (ends : List (ℕ × ℕ)) (cut : ℕ → ℕ → Bool) (slot place : List ℕ) (total : ℕ) (mark : List Bool) (queue from level : List ℕ) (taken put : ℕ) →
    IsSearching ends cut slot place total mark queue from level taken put → put ≤ taken → IsClosed total ends cut slot place mark
search_ends ends cut slot place total mark queue from level taken put s h = record {
  roots = s.roots;
  held = λ x t hx mx ht c.
      let w = s.marking.waits x mx in
      let u = w.upto in
      let d = s.done w.index (omega arith) in
      d.held t ht (ap (λ e. separates (cut t) (edge_at ends e)) w.holds ∙ c);
  closed = λ x t hx mx ht c.
      let w = s.marking.waits x mx in
      let u = w.upto in
      let d = s.done w.index (omega arith) in
      d.marked t ht (ap (λ e. separates (cut t) (edge_at ends e)) w.holds ∙ c);
}

pub ways_put : (ends : List (ℕ × ℕ)) (cut : ℕ → ℕ → Bool) (place : List ℕ) (total : ℕ) (mark : List Bool) (from level : List ℕ) (put m : ℕ) → HasWays ends cut place total mark from level put → put ≤ m →
    HasWays ends cut place total mark from level m
ways_put ends cut place total mark from level put m w h = record { back = w.back; levels = λ x k. let l = w.levels x k in omega (arith, l) }

pub marked_low : (ends : List (ℕ × ℕ)) (mark : List Bool) (x : ℕ) → length mark ≡ length ends → has mark x ≡ true → x < length ends
marked_low ends mark x e h = let i = inside mark x h in omega (arith, i, e)
