-- A generated text is accepted, line by line.
use Rattle.std.proofs.Common.{◌≡◌, ◌≢◌, ℕ, zero, suc, ◌+◌, ◌-◌, ◌*◌, ◌%◌, ◌<◌, ◌≤◌, Bool, true, false, cond, eqb, not, ◌&&◌, ◌||◌, List, [], ◌∷◌, ◌++◌, length, map, Option, Some, None, Result, Ok, refl, sym, ap, ◌∙◌, append_assoc, arith}
use Rattle.std.specs.Prelude.{ℤ, pos, neg_ℤ, ◌≤ℤ◌, int_le, int_lt, nat_abs, codes}
use Rattle.std.specs.List.{join_with_byte, list_all, AllByRecursion}
use Rattle.std.specs.Fmt.{decimal, signed_decimal}
use Rattle.std.proofs.lemmas.Bool.{le-leb}
use Rattle.std.proofs.lemmas.Bool.Decides.{nat_tests}
use Rattle.std.proofs.lemmas.Int.{ints}
use Rattle.std.proofs.lemmas.List.{append-nil}
use Rattle.pf_model.specs.declared.AffineArc.{AffineArc}
use Rattle.pf_model.specs.declared.Sense.TheVariants.{Rising}
use Rattle.pf_model.specs.Fraction.{lowest}
use Rattle.pf_model.specs.Network.{Network, capacity_at, keeps_slope}
use Rattle.pf_text.specs.declared.RuleKind.{RuleKind}
use Rattle.pf_text.specs.declared.TextBad.{TextBad}
use Rattle.pf_text.specs.declared.RuleKind.TheVariants.{Monotone, Negative}
use Rattle.pf_text.specs.Lines.{Line, in_front, raw_lines, fields, is_passed_over, lines_from}
use Rattle.pf_text.specs.Numbers.{natural_of, whole_of, billion}
use Rattle.pf_text.specs.Kinds.{number, word, State, Accepted, match_of, broken_if, header, step, is_end, body}
use Rattle.pf_text.specs.Spelling.{line}
use Rattle.pf_text.proofs.LinesLemmas.{lines_give, fields_of_line, not_true}
use Rattle.pf_text.proofs.NumbersLemmas.{whole_of-signed_decimal}
use Rattle.pf_text.proofs.TextLines.{is_plain, IsPlain, ArePlain, are_fields, is_inside, join_inside, decimal_plain, signed_plain}
use Rattle.pf_gen.proofs.Judging.{problem_of_header, header_ok, body_end, body_step, step_ok, end_ok, range_ok}
use Rattle.pf_par.specs.Text.{ParameterInterval, Given, par, coefficient, end_form, arc_form, end_rules, arc_rules, arc_rules_by}
use Rattle.pf_par.specs.declared.given.End.TheVariants.{Source, Sink}
use Rattle.pf_gen.specs.declared.drawing.Words.{Words}
use Rattle.pf_gen.specs.Generator.{inner_node, source_arc, sink_arc, inner_arc, drawn_arc, words_from, drawn_arcs, net_of, text_of_lines, arc_fields, net_text}
use Rattle.pf_gen.specs.Laws.{GeneratedIsAccepted}

-- ---- a line that is spelled by its fields

both : (a b : Bool) → (a && b) ≡ true → (a ≡ true) × (b ≡ true)
both true true e = (refl, refl)
both true false e = absurd cc
both false b e = absurd cc

raw_line : (bytes rest : List ℕ) → list_all is_inside bytes ≡ true → raw_lines (bytes ++ 10 ∷ rest) ≡ record { bytes = bytes; rest = rest } ∷ raw_lines rest
unfolding raw_lines
raw_line [] rest all = refl
raw_line (b ∷ bytes) rest all =
    let p = both (is_inside b) (list_all is_inside bytes) all in
    let inside = not_true (eqb b 10) p.0 in
    rw inside (ap (in_front b) (raw_line bytes rest p.1))

-- line k with these fields, and the text after it
abbrev spelled : ℕ → List (List ℕ) → List ℕ → Line
spelled k parts rest = record { number = k; fields = parts; rest = rest }

line_read : (k : ℕ) (parts : List (List ℕ)) (rest : List ℕ) → ArePlain parts → is_passed_over parts ≡ false
    → lines_from k (line parts ++ rest) ≡ spelled k parts rest ∷ lines_from (k + 1) rest
line_read k parts rest plain kept =
    let same : fields (join_with_byte 32 parts) ≡ parts = fields_of_line parts (are_fields parts plain) in
    let raw : raw_lines (line parts ++ rest) ≡ record { bytes = join_with_byte 32 parts; rest = rest } ∷ raw_lines rest =
    ap raw_lines (append_assoc (join_with_byte 32 parts) (10 ∷ []) rest) ∙ raw_line (join_with_byte 32 parts) rest (join_inside parts plain) in
    lines_give k (line parts ++ rest) (join_with_byte 32 parts) rest raw (ap is_passed_over same ∙ kept)
    ∙ ap (λ (parts : List (List ℕ)). spelled k parts rest ∷ lines_from (k + 1) rest) same

-- a line after the header that is taken
goes_on : (state next : State Given) (k : ℕ) (parts : List (List ℕ)) (rest : List ℕ) → ArePlain parts → is_passed_over parts ≡ false → is_end parts ≡ false
    → step par state (spelled k parts rest) ≡ Ok next → body par state (lines_from k (line parts ++ rest)) ≡ body par next (lines_from (k + 1) rest)
goes_on state next k parts rest plain kept goes ok =
    ap (body par state) (line_read k parts rest plain kept) ∙ body_step par state next (spelled k parts rest) (lines_from (k + 1) rest) goes ok

-- ---- numbers

small_whole : (k : ℕ) → k ≤ 10000 → whole_of (decimal k) ≡ Some (pos k)
small_whole k small = whole_of-signed_decimal (pos k) (omega arith)

within : (low high n : ℕ) → low ≤ n → n ≤ high → (int_le (pos low) (pos n) && int_le (pos n) (pos high)) ≡ true
within low high n above below = grind (arith, nat_tests)

in_range : (low high z : ℤ) → low ≤ℤ z → z ≤ℤ high → (int_le low z && int_le z high) ≡ true
in_range low high z above below = grind (arith, ints)

not_below : (z : ℤ) → pos 0 ≤ℤ z → int_lt z (pos 0) ≡ false
not_below z above = grind (arith, ints)

other : (a b : ℕ) → a ≢ b → eqb a b ≡ false
other a b differ = grind (arith, nat_tests)

-- ---- the lines before the arcs

abbrev interval : ParameterInterval
interval = record { low = record { p = pos 0; q = pos 1 }; high = record { p = pos 1000; q = pos 1 } }

abbrev state : ℕ → ℕ → Option ParameterInterval → Option ℕ → Option ℕ → ℕ → List AffineArc → State Given
state n m i s t count arcs = record { header_numbers = pos n ∷ pos m ∷ []; counted_lines = count; given = record { interval = i; source = s; sink = t; sense = None; arcs = arcs } }

header_read : (n m k : ℕ) (rest : List ℕ) → 3 ≤ n → n ≤ 1000 → m ≤ 10000
    → header par (spelled k (codes "p" ∷ codes "par" ∷ decimal n ∷ decimal m ∷ []) rest) ≡ Ok (state n m None None None 0 [])
unfolding par
header_read n m k rest low high count =
    let en = small_whole n (omega arith) in
    let em = small_whole m count in
    header_ok par (spelled k (codes "p" ∷ codes "par" ∷ decimal n ∷ decimal m ∷ []) rest) (pos n ∷ pos m ∷ []) refl (rw (en, em) refl)
    (range_ok (pos 2) (pos 1000) (pos n) (number (pos 0) (pos 10000) ∷ []) (pos m ∷ []) (within 2 1000 n (omega arith) high)
    (range_ok (pos 0) (pos 10000) (pos m) [] [] (within 0 10000 m (omega arith) count) refl))

interval_read : (n m k : ℕ) (rest : List ℕ)
    → step par (state n m None None None 0 []) (spelled k (codes "i" ∷ codes "0" ∷ codes "1" ∷ codes "1000" ∷ codes "1" ∷ []) rest) ≡ Ok (state n m (Some interval) None None 0 [])
unfolding par step whole_of natural_of lowest
interval_read n m k rest = refl

source_found : (n m : ℕ) → match_of (par.forms (pos n ∷ pos m ∷ [])) (codes "n" ∷ codes "1" ∷ codes "s" ∷ []) ≡ Some (record { form = end_form Source (pos n ∷ pos m ∷ []); numbers = pos 1 ∷ [] })
unfolding par whole_of natural_of
source_found n m = refl

source_read : (n m k : ℕ) (rest : List ℕ) → 3 ≤ n
    → step par (state n m (Some interval) None None 0 []) (spelled k (codes "n" ∷ codes "1" ∷ codes "s" ∷ []) rest) ≡ Ok (state n m (Some interval) (Some 0) None 0 [])
source_read n m k rest low =
    step_ok par (state n m (Some interval) None None 0 []) (spelled k (codes "n" ∷ codes "1" ∷ codes "s" ∷ []) rest)
    (record { form = end_form Source (pos n ∷ pos m ∷ []); numbers = pos 1 ∷ [] }) (record { interval = Some interval; source = Some 0; sink = None; sense = None; arcs = [] })
    (source_found n m) (range_ok (pos 1) (pos n) (pos 1) (word (codes "s") ∷ []) [] (within 1 n 1 (omega arith) (omega arith)) refl) refl refl

sink_found : (n m : ℕ) → whole_of (decimal n) ≡ Some (pos n)
    → match_of (par.forms (pos n ∷ pos m ∷ [])) (codes "n" ∷ decimal n ∷ codes "t" ∷ []) ≡ Some (record { form = end_form Sink (pos n ∷ pos m ∷ []); numbers = pos n ∷ [] })
unfolding par
sink_found n m e = rw e refl

sink_rules_ok : (n : ℕ) → 3 ≤ n
    → end_rules Sink (pos n ∷ []) (record { interval = Some interval; source = Some 0; sink = None; sense = None; arcs = [] }) ≡ Ok (record { interval = Some interval; source = Some 0; sink = Some (n - 1); sense = None; arcs = [] })
sink_rules_ok n low = let e : eqb 0 (n - 1) ≡ false = other 0 (n - 1) (λ same. omega arith) in rw e refl

sink_read : (n m k : ℕ) (rest : List ℕ) → 3 ≤ n → n ≤ 1000
    → step par (state n m (Some interval) (Some 0) None 0 []) (spelled k (codes "n" ∷ decimal n ∷ codes "t" ∷ []) rest) ≡ Ok (state n m (Some interval) (Some 0) (Some (n - 1)) 0 [])
sink_read n m k rest low high =
    step_ok par (state n m (Some interval) (Some 0) None 0 []) (spelled k (codes "n" ∷ decimal n ∷ codes "t" ∷ []) rest)
    (record { form = end_form Sink (pos n ∷ pos m ∷ []); numbers = pos n ∷ [] }) (record { interval = Some interval; source = Some 0; sink = Some (n - 1); sense = None; arcs = [] })
    (sink_found n m (small_whole n (omega arith))) (range_ok (pos 1) (pos n) (pos n) (word (codes "t") ∷ []) [] (within 1 n n (omega arith) (omega arith)) refl) refl (sink_rules_ok n low)

-- ---- an arc

-- what the rules ask of an arc among n nodes
record IsTaken (n : ℕ) (arc : AffineArc) : Type 0 where
  pub tail : arc.tail < n
  pub head : arc.head < n
  pub a_low : neg_ℤ (pos billion) ≤ℤ arc.a
  pub a_high : arc.a ≤ℤ pos billion
  pub b_low : neg_ℤ (pos billion) ≤ℤ arc.b
  pub b_high : arc.b ≤ℤ pos billion
  pub slope : keeps_slope Rising 0 (n - 1) arc ≡ true
  pub low : pos 0 ≤ℤ capacity_at interval.low arc
  pub high : pos 0 ≤ℤ capacity_at interval.high arc

arc_found : (n m u v : ℕ) (a b : ℤ) → whole_of (decimal u) ≡ Some (pos u) → whole_of (decimal v) ≡ Some (pos v) → whole_of (signed_decimal a) ≡ Some a → whole_of (signed_decimal b) ≡ Some b
    → match_of (par.forms (pos n ∷ pos m ∷ [])) (codes "a" ∷ decimal u ∷ decimal v ∷ signed_decimal a ∷ signed_decimal b ∷ [])
    ≡ Some (record { form = arc_form (pos n ∷ pos m ∷ []); numbers = pos u ∷ pos v ∷ a ∷ b ∷ [] })
unfolding par
arc_found n m u v a b eu ev ea eb = rw (eu, ev, ea, eb) refl

kept_on : {X : Type 0} (test : Bool) (rule : RuleKind) (next : Result X RuleKind) → test ≡ false → broken_if test rule next ≡ next
kept_on true rule next e = absurd cc
kept_on false rule next e = refl

neither : (a b : Bool) → a ≡ false → b ≡ false → (a || b) ≡ false
neither true b ea eb = absurd cc
neither false b ea eb = eb

abbrev given : ℕ → List AffineArc → Given
given n arcs = record { interval = Some interval; source = Some 0; sink = Some (n - 1); sense = None; arcs = arcs }

rules_ok : (n : ℕ) (arc : AffineArc) (arcs : List AffineArc) → IsTaken n arc
    → arc_rules_by Rising (Some interval) (Some 0) (Some (n - 1)) arc (given n arcs) ≡ Ok (given n (arcs ++ arc ∷ []))
rules_ok n arc arcs taken =
    kept_on (not (keeps_slope Rising 0 (n - 1) arc)) Monotone _ (ap not taken.slope)
    ∙ kept_on (int_lt (capacity_at interval.low arc) (pos 0) || int_lt (capacity_at interval.high arc) (pos 0)) Negative _
    (neither _ _ (not_below _ taken.low) (not_below _ taken.high))

back : (v : ℕ) → (v + 1) - 1 ≡ v
back v = omega arith

arc_rules_ok : (n : ℕ) (arc : AffineArc) (arcs : List AffineArc) → IsTaken n arc
    → arc_rules (pos (arc.tail + 1) ∷ pos (arc.head + 1) ∷ arc.a ∷ arc.b ∷ []) (given n arcs) ≡ Ok (given n (arcs ++ arc ∷ []))
arc_rules_ok n arc arcs taken =
    let by : ℕ → ℕ → Result Given RuleKind = λ tail head. arc_rules_by Rising (Some interval) (Some 0) (Some (n - 1)) (record { tail = tail; head = head; a = arc.a; b = arc.b }) (given n arcs) in
    ap (λ tail. by tail ((arc.head + 1) - 1)) (back arc.tail) ∙ ap (λ head. by arc.tail head) (back arc.head) ∙ rules_ok n arc arcs taken

arc_read : (n m k count : ℕ) (arc : AffineArc) (arcs : List AffineArc) (rest : List ℕ) → n ≤ 1000 → count < m → IsTaken n arc
    → step par (state n m (Some interval) (Some 0) (Some (n - 1)) count arcs) (spelled k (arc_fields arc) rest) ≡ Ok (state n m (Some interval) (Some 0) (Some (n - 1)) (count + 1) (arcs ++ arc ∷ []))
unfolding par
arc_read n m k count arc arcs rest high few taken =
    let a_small : nat_abs arc.a ≤ billion = omega (arith, ints, taken.a_low, taken.a_high) in
    let b_small : nat_abs arc.b ≤ billion = omega (arith, ints, taken.b_low, taken.b_high) in
    step_ok par (state n m (Some interval) (Some 0) (Some (n - 1)) count arcs) (spelled k (arc_fields arc) rest)
    (record { form = arc_form (pos n ∷ pos m ∷ []); numbers = pos (arc.tail + 1) ∷ pos (arc.head + 1) ∷ arc.a ∷ arc.b ∷ [] }) (given n (arcs ++ arc ∷ []))
    (arc_found n m (arc.tail + 1) (arc.head + 1) arc.a arc.b
    (small_whole (arc.tail + 1) (let t = taken.tail in omega arith)) (small_whole (arc.head + 1) (let h = taken.head in omega arith))
    (whole_of-signed_decimal arc.a (omega arith)) (whole_of-signed_decimal arc.b (omega arith)))
    (range_ok (pos 1) (pos n) (pos (arc.tail + 1)) (number (pos 1) (pos n) ∷ coefficient ∷ coefficient ∷ []) (pos (arc.head + 1) ∷ arc.a ∷ arc.b ∷ [])
    (within 1 n (arc.tail + 1) (omega arith) (let t = taken.tail in omega arith))
    (range_ok (pos 1) (pos n) (pos (arc.head + 1)) (coefficient ∷ coefficient ∷ []) (arc.a ∷ arc.b ∷ [])
    (within 1 n (arc.head + 1) (omega arith) (let h = taken.head in omega arith))
    (range_ok (neg_ℤ (pos billion)) (pos billion) arc.a (coefficient ∷ []) (arc.b ∷ []) (in_range (neg_ℤ (pos billion)) (pos billion) arc.a taken.a_low taken.a_high)
    (range_ok (neg_ℤ (pos billion)) (pos billion) arc.b [] [] (in_range (neg_ℤ (pos billion)) (pos billion) arc.b taken.b_low taken.b_high) refl))))
    (other count m (λ same. omega arith)) (arc_rules_ok n arc arcs taken)

letter : (b : ℕ) → 32 < b → IsPlain (b ∷ [])
letter b large = record { some = omega arith; all = grind (arith, nat_tests) }

arc_plain : (arc : AffineArc) → ArePlain (arc_fields arc)
arc_plain arc = (letter 97 (omega arith), (decimal_plain (arc.tail + 1), (decimal_plain (arc.head + 1), (signed_plain arc.a, (signed_plain arc.b, tt)))))

-- ---- arcs

arcs_read : (n m k count : ℕ) (arcs later : List AffineArc) (rest : List ℕ) → n ≤ 1000 → count + length later ≤ m → AllByRecursion (IsTaken n) later
    → body par (state n m (Some interval) (Some 0) (Some (n - 1)) count arcs) (lines_from k (text_of_lines (map arc_fields later) ++ rest))
    ≡ body par (state n m (Some interval) (Some 0) (Some (n - 1)) (count + length later) (arcs ++ later)) (lines_from (k + length later) rest)
arcs_read n m k count arcs [] rest high few all =
    let to : ℕ → ℕ → List AffineArc → Result (Accepted Network) TextBad =
    λ at counted given. body par (state n m (Some interval) (Some 0) (Some (n - 1)) counted given) (lines_from at rest) in
    ap (λ at. to at count arcs) (omega arith) ∙ ap (λ counted. to (k + 0) counted arcs) (omega arith) ∙ ap (λ given. to (k + 0) (count + 0) given) (sym (append-nil arcs))
arcs_read n m k count arcs (arc ∷ later) rest high few all =
    let to : ℕ → ℕ → List AffineArc → Result (Accepted Network) TextBad =
    λ at counted given. body par (state n m (Some interval) (Some 0) (Some (n - 1)) counted given) (lines_from at rest) in
    ap (λ text. body par (state n m (Some interval) (Some 0) (Some (n - 1)) count arcs) (lines_from k text)) (append_assoc (line (arc_fields arc)) (text_of_lines (map arc_fields later)) rest)
    ∙ goes_on _ _ k (arc_fields arc) (text_of_lines (map arc_fields later) ++ rest) (arc_plain arc) refl refl
    (arc_read n m k count arc arcs (text_of_lines (map arc_fields later) ++ rest) high (omega arith) all.0)
    ∙ arcs_read n m (k + 1) (count + 1) (arcs ++ arc ∷ []) later rest high (omega arith) all.1
    ∙ ap (λ at. to at ((count + 1) + length later) ((arcs ++ arc ∷ []) ++ later)) (omega arith)
    ∙ ap (λ counted. to (k + suc (length later)) counted ((arcs ++ arc ∷ []) ++ later)) (omega arith)
    ∙ ap (λ given. to (k + suc (length later)) (count + suc (length later)) given) (append_assoc arcs (arc ∷ []) later)

end_read : (n m k : ℕ) (arcs : List AffineArc)
    → body par (state n m (Some interval) (Some 0) (Some (n - 1)) m arcs) (lines_from k (line (codes "end" ∷ []) ++ []))
    ≡ Ok (record { problem = record { nodes = n; source = 0; sink = n - 1; sense = Rising; low = interval.low; high = interval.high; arcs = arcs }; rest = []; line = k })
unfolding par
end_read n m k arcs =
    let plain : ArePlain (codes "end" ∷ []) = (record { some = omega arith; all = refl }, tt) in
    ap (body par (state n m (Some interval) (Some 0) (Some (n - 1)) m arcs)) (line_read k (codes "end" ∷ []) [] plain refl)
    ∙ body_end par (state n m (Some interval) (Some 0) (Some (n - 1)) m arcs) (spelled k (codes "end" ∷ []) []) (lines_from (k + 1) []) refl
    ∙ end_ok par (state n m (Some interval) (Some 0) (Some (n - 1)) m arcs) (spelled k (codes "end" ∷ []) []) _ (omega arith) refl

-- ---- the arcs that are drawn

either : (n : ℕ) (test : Bool) (a b : AffineArc) → IsTaken n a → IsTaken n b → IsTaken n (cond test a b)
either n true a b ta tb = ta
either n false a b ta tb = tb

source_taken : (n : ℕ) (w : Words) → 3 ≤ n → IsTaken n (source_arc n w)
source_taken n w low =
    let inner : inner_node n w.x + 1 < n = omega arith in
    let apart : eqb (inner_node n w.x) 0 ≡ false = other _ _ (λ same. omega arith) in
    let before : eqb (inner_node n w.x) (n - 1) ≡ false = other _ _ (λ same. omega arith) in
    record {
      tail = omega arith;
      head = omega arith;
      a_low = omega (arith, ints);
      a_high = omega (arith, ints);
      b_low = omega (arith, ints);
      b_high = omega (arith, ints);
      slope = rw (apart, before) (le-leb 0 (w.z % 101) (omega arith));
      low = omega (arith, ints);
      high = omega (arith, ints);
    }

sink_taken : (n : ℕ) (w : Words) → 3 ≤ n → IsTaken n (sink_arc n w)
sink_taken n w low =
    let inner : inner_node n w.x + 1 < n = omega arith in
    let apart : eqb (inner_node n w.x) 0 ≡ false = other _ _ (λ same. omega arith) in
    let before : eqb (inner_node n w.x) (n - 1) ≡ false = other _ _ (λ same. omega arith) in
    let last : eqb (n - 1) (n - 1) ≡ true = grind (arith, nat_tests) in
    let falls : int_le (neg_ℤ (pos (w.z % 11))) (pos 0) ≡ true = grind (arith, ints) in
    record {
      tail = omega arith;
      head = omega arith;
      a_low = omega (arith, ints);
      a_high = omega (arith, ints);
      b_low = omega (arith, ints);
      b_high = omega (arith, ints);
      slope = rw (apart, last, before) falls;
      low = omega (arith, ints);
      high = omega (arith, ints);
    }

inner_taken : (n : ℕ) (w : Words) → 3 ≤ n → IsTaken n (inner_arc n w)
inner_taken n w low =
    let tail_inner : inner_node n w.x + 1 < n = omega arith in
    let head_inner : inner_node n w.y + 1 < n = omega arith in
    let apart : eqb (inner_node n w.x) 0 ≡ false = other _ _ (λ same. omega arith) in
    let before : eqb (inner_node n w.y) (n - 1) ≡ false = other _ _ (λ same. omega arith) in
    record {
      tail = omega arith;
      head = omega arith;
      a_low = omega (arith, ints);
      a_high = omega (arith, ints);
      b_low = omega (arith, ints);
      b_high = omega (arith, ints);
      slope = rw (apart, before) refl;
      low = omega (arith, ints);
      high = omega (arith, ints);
    }

drawn_taken : (n k : ℕ) (w : Words) → 3 ≤ n → IsTaken n (drawn_arc n k w)
unfolding drawn_arc
drawn_taken n k w low =
    either n (eqb (k % 4) 0) _ _ (source_taken n w low) (either n (eqb (k % 4) 1) _ _ (sink_taken n w low) (inner_taken n w low))

one_more : (n : ℕ) (arcs : List AffineArc) (arc : AffineArc) → AllByRecursion (IsTaken n) arcs → IsTaken n arc → AllByRecursion (IsTaken n) (arcs ++ arc ∷ [])
one_more n [] arc all here = (here, tt)
one_more n (first ∷ arcs) arc all here = (all.0, one_more n arcs arc all.1 here)

all_taken : (seed n m : ℕ) → 3 ≤ n → AllByRecursion (IsTaken n) (drawn_arcs seed n m)
all_taken seed n zero low = tt
all_taken seed n (suc m) low = one_more n (drawn_arcs seed n m) _ (all_taken seed n m low) (drawn_taken n (suc m) (words_from seed (3 * m)) low)

length_more : {X : Type 0} (xs : List X) (x : X) → length (xs ++ x ∷ []) ≡ suc (length xs)
length_more [] x = refl
length_more (y ∷ xs) x = ap suc (length_more xs x)

pub drawn_count : (seed n m : ℕ) → length (drawn_arcs seed n m) ≡ m
drawn_count seed n zero = refl
drawn_count seed n (suc m) = length_more (drawn_arcs seed n m) _ ∙ ap suc (drawn_count seed n m)

pub text_of_lines-append : (a b : List (List (List ℕ))) → text_of_lines (a ++ b) ≡ text_of_lines a ++ text_of_lines b
text_of_lines-append [] b = refl
text_of_lines-append (parts ∷ a) b = ap (λ (t : List ℕ). line parts ++ t) (text_of_lines-append a b) ∙ sym (append_assoc (line parts) (text_of_lines a) (text_of_lines b))

-- ---- the whole text

-- after the lines before the arcs
behind_front : (n m : ℕ) (arcs : List AffineArc) → n ≤ 1000 → length arcs ≡ m → AllByRecursion (IsTaken n) arcs
    → body par (state n m (Some interval) (Some 0) (Some (n - 1)) 0 []) (lines_from 5 (text_of_lines (map arc_fields arcs ++ (codes "end" ∷ []) ∷ [])))
    ≡ Ok (record { problem = record { nodes = n; source = 0; sink = n - 1; sense = Rising; low = interval.low; high = interval.high; arcs = arcs }; rest = []; line = m + 5 })
behind_front n m arcs high count all =
    let to : ℕ → ℕ → Result (Accepted Network) TextBad =
    λ at counted. body par (state n m (Some interval) (Some 0) (Some (n - 1)) counted arcs) (lines_from at (line (codes "end" ∷ []) ++ [])) in
    ap (λ text. body par (state n m (Some interval) (Some 0) (Some (n - 1)) 0 []) (lines_from 5 text)) (text_of_lines-append (map arc_fields arcs) ((codes "end" ∷ []) ∷ []))
    ∙ arcs_read n m 5 0 [] arcs (line (codes "end" ∷ []) ++ []) high (omega arith) all
    ∙ ap (λ at. to at (0 + length arcs)) (omega arith)
    ∙ ap (λ counted. to (m + 5) counted) (omega arith)
    ∙ end_read n m (m + 5) arcs

word_plain : (field : List ℕ) → 0 < length field → list_all is_plain field ≡ true → IsPlain field
word_plain field some all = record { some = some; all = all }

pub generated_is_accepted : GeneratedIsAccepted
unfolding net_text net_of
generated_is_accepted = λ seed n m low high few.
    let arcs = drawn_arcs seed n m in
    let end_text : List ℕ = text_of_lines (map arc_fields (drawn_arcs seed n m) ++ (codes "end" ∷ []) ∷ []) in
    let sink_fields : List (List ℕ) = codes "n" ∷ decimal n ∷ codes "t" ∷ [] in
    let source_fields : List (List ℕ) = codes "n" ∷ codes "1" ∷ codes "s" ∷ [] in
    let interval_fields : List (List ℕ) = codes "i" ∷ codes "0" ∷ codes "1" ∷ codes "1000" ∷ codes "1" ∷ [] in
    let header_fields : List (List ℕ) = codes "p" ∷ codes "par" ∷ decimal n ∷ decimal m ∷ [] in
    let sink_text : List ℕ = line sink_fields ++ end_text in
    let source_text : List ℕ = line source_fields ++ sink_text in
    let interval_text : List ℕ = line interval_fields ++ source_text in
    let header_plain : ArePlain header_fields = (word_plain (codes "p") (omega arith) refl, (word_plain (codes "par") (omega arith) refl, (decimal_plain n, (decimal_plain m, tt)))) in
    let interval_plain : ArePlain interval_fields = (word_plain (codes "i") (omega arith) refl, (word_plain (codes "0") (omega arith) refl, (word_plain (codes "1") (omega arith) refl, (word_plain (codes "1000") (omega arith) refl, (word_plain (codes "1") (omega arith) refl, tt))))) in
    let source_plain : ArePlain source_fields = (word_plain (codes "n") (omega arith) refl, (word_plain (codes "1") (omega arith) refl, (word_plain (codes "s") (omega arith) refl, tt))) in
    let sink_plain : ArePlain sink_fields = (word_plain (codes "n") (omega arith) refl, (decimal_plain n, (word_plain (codes "t") (omega arith) refl, tt))) in
    problem_of_header par (line header_fields ++ interval_text) (spelled 1 header_fields interval_text) (lines_from 2 interval_text) (state n m None None None 0 [])
    (line_read 1 header_fields interval_text header_plain refl) (header_read n m 1 interval_text low high few)
    ∙ goes_on _ _ 2 interval_fields source_text interval_plain refl refl (interval_read n m 2 source_text)
    ∙ goes_on _ _ 3 source_fields sink_text source_plain refl refl (source_read n m 3 sink_text low)
    ∙ goes_on _ _ 4 sink_fields end_text sink_plain refl refl (sink_read n m 4 end_text low high)
    ∙ behind_front n m (drawn_arcs seed n m) high (drawn_count seed n m) (all_taken seed n m low)
