-- The lines of levels and of shares, one after another.
use Rattle.std.proofs.Common.{◌≡◌, ℕ, suc, ◌+◌, ◌<◌, ◌≤◌, List, [], ◌∷◌, ◌++◌, length, get_or, drop, refl, arith, ap, sym, add-one, ◌∙◌, append_assoc, length-append}
use Rattle.std.specs.Prelude.{ℤ, ◌==◌, if◌then◌else◌, pos, nat_abs, All}
use Rattle.std.proofs.lemmas.List.{append-nil}
use Rattle.std.proofs.Math.Seq.{drop-cons}
use Rattle.pf_model.specs.Fraction.{Fraction}
use Rattle.pf_model.specs.Answer.{IsFractionShape}
use Rattle.pf_model.specs.Cut.{at_arc}
use Rattle.pf_lines.proofs.ItemsTaken.{Items, Stand}
use Rattle.pf_share.specs.Certificate.{level_at}
use Rattle.pf_share.specs.Text.{level_line, levels_text, share_line, node_text, shares_lines}
use Rattle.pf_model.proofs.Facts.{same_front}

-- ---- levels

abbrev pub level_items : Items Fraction
level_items = record {
  text = λ j levels. levels_text j levels;
  item = λ j level. level_line (j + 1) level;
  none = λ j. refl;
  more = λ j level levels. refl;
  Is = IsFractionShape;
  MayFollow = λ rest. Unit {0};
  follows = λ j level rest. tt;
}

pub levels_stand : (count : ℕ) (old : List ℕ) (levels : List Fraction) (rest : List ℕ) → length levels ≡ count → All IsFractionShape levels →
    old ≡ levels_text 0 levels ++ rest → Stand level_items count old levels rest
levels_stand count old levels rest full each there = record { full = full; each = each; behind = tt; text = there }

pub levels_text_at : (j : ℕ) (levels : List Fraction) (x : Fraction) → j < length levels →
    levels_text j (drop j levels) ≡ level_line (j + 1) (get_or levels j x) ++ levels_text (j + 1) (drop (j + 1) levels)
levels_text_at j levels x low =
    let next : drop j levels ≡ get_or levels j x ∷ drop (j + 1) levels = rw add-one (drop-cons levels j x low) in
    ap (levels_text j) next

-- a text of levels has at least as many bytes as levels
pub levels_bytes : (j : ℕ) (levels : List Fraction) → length levels ≤ length (levels_text j levels)
levels_bytes j [] = omega arith
levels_bytes j (level ∷ levels) =
    let here = level_line (j + 1) level in
    let some : length here ≡ suc (length (drop 1 here)) = refl in
    let back = levels_bytes (j + 1) levels in
    omega (arith, some, back, length-append here (levels_text (j + 1) levels))

-- ---- shares

pub no_source : (levels : List Fraction) (v : ℕ) (weight group : ℤ) → nat_abs weight ≡ 0 → node_text levels v weight group ≡ []
no_source levels v weight group e = ap (λ n. if n == 0 then [] else share_line (v + 1) (level_at levels (nat_abs group)) weight) e

pub shares_at : (levels : List Fraction) (v : ℕ) (weights groups : List ℤ) → v < length weights → v < length groups →
    shares_lines levels v (drop v weights) (drop v groups)
    ≡ node_text levels v (at_arc weights v) (at_arc groups v) ++ shares_lines levels (v + 1) (drop (v + 1) weights) (drop (v + 1) groups)
shares_at levels v weights groups low low' =
    let first : drop v weights ≡ at_arc weights v ∷ drop (v + 1) weights = rw add-one (drop-cons weights v (pos 0) low) in
    let second : drop v groups ≡ at_arc groups v ∷ drop (v + 1) groups = rw add-one (drop-cons groups v (pos 0) low') in
    ap (λ (l : List ℤ). shares_lines levels v l (drop v groups)) first
    ∙ ap (λ (l : List ℤ). shares_lines levels v (at_arc weights v ∷ drop (v + 1) weights) l) second

-- ---- what was read of a text that is known

pub record HasRead (old now whole left : List ℕ) : Type 0 where
  pub passed : List ℕ
  pub split : whole ≡ passed ++ left
  pub taken : old ≡ passed ++ now

pub read_begin : (old whole : List ℕ) → HasRead old old whole whole
read_begin old whole = record { passed = []; split = refl; taken = refl }

pub read_more : (old now new whole left piece later : List ℕ) → HasRead old now whole left → left ≡ piece ++ later → now ≡ piece ++ new → HasRead old new whole later
read_more old now new whole left piece later h e f = record {
  passed = h.passed ++ piece;
  split = h.split ∙ ap (λ (t : List ℕ). h.passed ++ t) e ∙ sym (append_assoc h.passed piece later);
  taken = h.taken ∙ ap (λ (t : List ℕ). h.passed ++ t) f ∙ sym (append_assoc h.passed piece new);
}

-- what stands there now, where the whole text stood there first
pub read_front : (old now whole left rest : List ℕ) → HasRead old now whole left → old ≡ whole ++ rest → now ≡ left ++ rest
read_front old now whole left rest h there =
    same_front h.passed now (left ++ rest) (sym h.taken ∙ there ∙ ap (λ (t : List ℕ). t ++ rest) h.split ∙ append_assoc h.passed left rest)

pub read_piece : (old now whole left piece later rest : List ℕ) → HasRead old now whole left → left ≡ piece ++ later → old ≡ whole ++ rest → now ≡ piece ++ (later ++ rest)
read_piece old now whole left piece later rest h e there =
    read_front old now whole left rest h there ∙ ap (λ (t : List ℕ). t ++ rest) e ∙ append_assoc piece later rest

pub read_end : (old now whole left : List ℕ) → HasRead old now whole left → left ≡ [] → old ≡ whole ++ now
read_end old now whole left h none =
    h.taken ∙ ap (λ (t : List ℕ). t ++ now) (sym (append-nil h.passed) ∙ ap (λ (t : List ℕ). h.passed ++ t) (sym none) ∙ sym h.split)
