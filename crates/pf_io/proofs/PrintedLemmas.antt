-- A text that is printed front to back: what was printed, and what is left.
use Rattle.std.proofs.Common.{◌≡◌, ℕ, List, [], ◌++◌, false, Ok, Err, refl, sym, ap, ◌∙◌, append_assoc}
use Rattle.std.proofs.lemmas.List.{append-nil}
use Rattle.pf_io.specs.Printing.{Adds, is_spent}
use Rattle.pf_io.specs.declared.device.Failed.{Failed}
use Rattle.pf_io.specs.declared.device.Sink.{Ghosts}
use Rattle.pf_io.specs.declared.printer.Printer.{Printer}
use Rattle.pf_io.proofs.PrintingLemmas.{adds_then, adds_stopped, adds_nothing}

pub record HasPrinted {K : Type 0} {S : Ghosts K} (old new : Printer K S) (whole left : List ℕ) : Type 0 where
  pub printed : List ℕ
  pub split : whole ≡ printed ++ left
  pub adds : Adds {T = Unit {0}} old new printed (Ok tt)

pub printed_begin : {K : Type 0} {S : Ghosts K} (p : Printer K S) (whole : List ℕ) → is_spent p ≡ false → HasPrinted p p whole whole
printed_begin {K} {S} p whole usable = record { printed = []; split = refl; adds = adds_nothing p usable }

-- what is left may be written in another way
pub printed_begin_by : {K : Type 0} {S : Ghosts K} (p : Printer K S) (whole left : List ℕ) → is_spent p ≡ false → whole ≡ left → HasPrinted p p whole left
printed_begin_by {K} {S} p whole left usable e = record { printed = []; split = e; adds = adds_nothing p usable }

-- a piece more
pub printed_more : {K : Type 0} {S : Ghosts K} {old mid new : Printer K S} {whole left piece later : List ℕ} → HasPrinted old mid whole left → left ≡ piece ++ later
    → Adds {T = Unit {0}} mid new piece (Ok tt) → HasPrinted old new whole later
printed_more {K} {S} {old} {mid} {new} {whole} {left} {piece} {later} p e q = record {
  printed = p.printed ++ piece;
  split = p.split ∙ ap (λ (text : List ℕ). p.printed ++ text) e ∙ sym (append_assoc p.printed piece later);
  adds = adds_then p.adds q;
}

-- a piece that failed
pub printed_stopped : {K T U : Type 0} {S : Ghosts K} {old mid new : Printer K S} {whole left piece : List ℕ} {failed : Failed} (later : List ℕ) → HasPrinted old mid whole left → left ≡ piece ++ later
    → Adds {T = T} mid new piece (Err failed) → Adds {T = U} old new whole (Err failed)
printed_stopped {K} {T} {U} {S} {old} {mid} {new} {whole} {left} {piece} {failed} later p e q =
    rw (p.split ∙ ap (λ (text : List ℕ). p.printed ++ text) e ∙ sym (append_assoc p.printed piece later)) (adds_stopped {T = T} {U = U} later (adds_then p.adds q))

-- nothing is left
pub printed_end : {K : Type 0} {S : Ghosts K} {old new : Printer K S} {whole left : List ℕ} → HasPrinted old new whole left → left ≡ [] → Adds {T = Unit {0}} old new whole (Ok tt)
printed_end {K} {S} {old} {new} {whole} {left} p e = rw (p.split ∙ ap (λ (text : List ℕ). p.printed ++ text) e ∙ append-nil p.printed) p.adds
