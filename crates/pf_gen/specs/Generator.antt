-- The network that a seed draws, and its text.
use Rattle.std.specs.Prelude.{ℕ, zero, suc, ◌+◌, ◌-◌, ◌*◌, ◌%◌, ◌<◌, ◌≤◌, ◌==◌, nat_abs, if◌then◌else◌, List, [], ◌∷◌, ◌++◌, map, pos, neg_ℤ, codes}
use Rattle.std.specs.Fmt.{decimal, signed_decimal}
use Rattle.rand_pcg.specs.Lcg.{Lcg, started, increment_of}
use Rattle.rand_pcg.specs.Pcg.{pcg32, multiplier_64}
use Rattle.pf_model.specs.declared.AffineArc.{AffineArc}
use Rattle.pf_model.specs.declared.Sense.TheVariants.{Rising}
use Rattle.pf_model.specs.Network.{Network}
use Rattle.pf_text.specs.Numbers.{billion}
use Rattle.pf_text.specs.Spelling.{line}
use Rattle.pf_gen.specs.declared.drawing.Words.{Words}

-- ---- the words: O'Neill's generator PCG XSH RR 64/32, which gives 32 bits a word

-- the word that a generator gives, and the generator after it
unfoldable pub word_of : Lcg → ℕ
word_of generator = (pcg32 generator).0

unfoldable pub behind : Lcg → Lcg
behind generator = (pcg32 generator).1

-- the generator of a seed, in stream 54
unfoldable pub first_generator : ℕ → Lcg
first_generator seed = started 64 multiplier_64 seed (increment_of 64 54)

-- the generator after its first i words
abbrev pub generator_behind : ℕ → ℕ → Lcg
generator_behind seed zero = first_generator seed
generator_behind seed (suc i) = behind (generator_behind seed i)

-- word i of a seed, counted from 0
abbrev pub word_at : ℕ → ℕ → ℕ
word_at seed i = word_of (generator_behind seed i)

-- three words in a row, the first of which is word i
abbrev pub words_from : ℕ → ℕ → Words
words_from seed i = record { x = word_at seed i; y = word_at seed (i + 1); z = word_at seed (i + 2) }

-- the three words that a generator gives next
abbrev pub three_words : Lcg → Words
three_words generator = record { x = word_of generator; y = word_of (behind generator); z = word_of (behind (behind generator)) }

-- ---- the arcs among n nodes, where nodes are numbered from 0: node 0 is the source, and the last one the sink

-- the node that a word draws among the others
abbrev pub inner_node : ℕ → ℕ → ℕ
inner_node n word = 1 + word % (n - 2)

-- out of the source: the capacity does not fall
abbrev pub source_arc : ℕ → Words → AffineArc
source_arc n w = record { tail = 0; head = inner_node n w.x; a = pos (w.y % 1001); b = pos (w.z % 101) }

-- into the sink: the capacity does not rise, and is not below 0 at 1000
abbrev pub sink_arc : ℕ → Words → AffineArc
sink_arc n w = record { tail = inner_node n w.x; head = n - 1; a = pos (1000 * (w.z % 11) + w.y % 1001); b = neg_ℤ (pos (w.z % 11)) }

-- between the others: the capacity is constant
abbrev pub inner_arc : ℕ → Words → AffineArc
inner_arc n w = record { tail = inner_node n w.x; head = inner_node n w.y; a = pos (w.z % 1001); b = pos 0 }

-- arc k, counted from 1
unfoldable pub drawn_arc : ℕ → ℕ → Words → AffineArc
drawn_arc n k w = if k % 4 == 0 then source_arc n w else (if k % 4 == 1 then sink_arc n w else inner_arc n w)

-- the first m arcs: three words for each
abbrev pub drawn_arcs : ℕ → ℕ → ℕ → List AffineArc
drawn_arcs seed n zero = []
drawn_arcs seed n (suc m) = drawn_arcs seed n m ++ drawn_arc n (suc m) (words_from seed (3 * m)) ∷ []

-- the network of n nodes and m arcs that a seed draws, for the parameters from 0 to 1000
unfoldable pub net_of : ℕ → ℕ → ℕ → Network
net_of seed n m = record {
  nodes = n;
  source = 0;
  sink = n - 1;
  sense = Rising;
  low = record { p = pos 0; q = pos 1 };
  high = record { p = pos 1000; q = pos 1 };
  arcs = drawn_arcs seed n m;
}

-- what is known of each arc that is drawn: its ends are nodes, and its numbers are small
pub record IsAmong (n : ℕ) (arc : AffineArc) : Type 0 where
  pub tail : arc.tail < n
  pub head : arc.head < n
  pub constant : nat_abs arc.a ≤ billion
  pub slope : nat_abs arc.b ≤ billion

-- ---- its text, where nodes are numbered from 1

-- the text of lines of these fields
abbrev pub text_of_lines : List (List (List ℕ)) → List ℕ
text_of_lines [] = []
text_of_lines (fields ∷ later) = line fields ++ text_of_lines later

-- the header, the interval, the source and the sink
abbrev pub front_lines : ℕ → ℕ → List (List (List ℕ))
front_lines n m =
    (codes "p" ∷ codes "par" ∷ decimal n ∷ decimal m ∷ [])
    ∷ (codes "i" ∷ codes "0" ∷ codes "1" ∷ codes "1000" ∷ codes "1" ∷ [])
    ∷ (codes "n" ∷ codes "1" ∷ codes "s" ∷ [])
    ∷ (codes "n" ∷ decimal n ∷ codes "t" ∷ [])
    ∷ []

abbrev pub arc_fields : AffineArc → List (List ℕ)
arc_fields arc = codes "a" ∷ decimal (arc.tail + 1) ∷ decimal (arc.head + 1) ∷ signed_decimal arc.a ∷ signed_decimal arc.b ∷ []

abbrev pub net_lines : ℕ → ℕ → ℕ → List (List (List ℕ))
net_lines seed n m = front_lines n m ++ map arc_fields (drawn_arcs seed n m) ++ (codes "end" ∷ []) ∷ []

unfoldable pub net_text : ℕ → ℕ → ℕ → List ℕ
net_text seed n m = text_of_lines (net_lines seed n m)
