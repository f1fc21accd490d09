-- The code of each status, and the line that it writes.
use Rattle.std.specs.Prelude.{◌≡◌, ◌⊎◌, ℕ, List, [], ◌∷◌, ◌++◌, codes}
use Rattle.std.specs.Fmt.{decimal}
use Rattle.pf_io.specs.declared.device.Sink.{Ghosts as Sink}
use Rattle.pf_io.specs.Faults.{Rose}
use Rattle.pf_io.specs.Told.{Took, IsFrontOf, after_told, told_length}
use Rattle.pf_text.specs.declared.RuleKind.{RuleKind}
use Rattle.pf_text.specs.declared.RuleKind.TheVariants as rules
use Rattle.pf_text.specs.declared.TextBad.{TextBad}
use Rattle.pf_text.specs.declared.TextBad.TheVariants as bad
use Rattle.pf_text.specs.declared.Refusal.{Refusal}
use Rattle.pf_text.specs.declared.Refusal.TheVariants as refusals
use Rattle.pf_top.specs.declared.status.Status.{Status}
use Rattle.pf_top.specs.declared.status.Status.TheVariants.{Done, No, Usage, Refused, ReadFault, WriteFault, NoMemory}

abbrev pub status_code : Status → ℕ
status_code Done = 0
status_code No = 1
status_code Usage = 2
status_code (Refused refusal) = 3
status_code ReadFault = 4
status_code WriteFault = 5
status_code NoMemory = 6

abbrev pub rule_word : RuleKind → List ℕ
rule_word rules.Repeated = codes "repeated"
rule_word rules.Missing = codes "missing"
rule_word rules.Ends = codes "ends"
rule_word rules.Interval = codes "interval"
rule_word rules.Monotone = codes "monotone"
rule_word rules.Negative = codes "negative"
rule_word rules.Loop = codes "loop"

abbrev pub bad_words : TextBad → List ℕ
bad_words (bad.Syntax n) = codes "line " ++ decimal n ++ codes ": syntax"
bad_words (bad.Range n) = codes "line " ++ decimal n ++ codes ": range"
bad_words (bad.Count n) = codes "line " ++ decimal n ++ codes ": count"
bad_words (bad.WrongKind n) = codes "line " ++ decimal n ++ codes ": wrong kind"
bad_words (bad.Rule n rule) = codes "line " ++ decimal n ++ codes ": rule " ++ rule_word rule
bad_words bad.NoEnd = codes "no end"

abbrev pub refusal_words : Refusal → List ℕ
refusal_words (refusals.Text why) = bad_words why
refusal_words refusals.TooLong = codes "too long"
refusal_words refusals.Outside = codes "outside"
refusal_words refusals.TooFine = codes "too fine"

-- the words of the line that a status writes, where it writes one
abbrev pub status_words : Status → List ℕ
status_words Usage = codes "usage"
status_words (Refused refusal) = refusal_words refusal
status_words ReadFault = codes "read fault"
status_words WriteFault = codes "write fault"
status_words NoMemory = codes "no memory"
status_words Done = []
status_words No = []

abbrev pub status_line : Status → List ℕ
status_line status = codes "ppart: " ++ status_words status ++ 10 ∷ []

-- The sink took all of these bytes and they were flushed, or its count of faults rose and it took a prefix of them.
abbrev pub TookLine : {T : Type 0} → Sink T → T → T → List ℕ → Type 0
TookLine E old new bytes =
    (Took (E.taken old) (E.taken new) bytes × (E.flushed new ≡ told_length (E.taken new)))
    ⊎ (Rose (E.faults old) (E.faults new) × IsFrontOf (E.taken old) (E.taken new) × IsFrontOf (E.taken new) (after_told (E.taken old) bytes))

-- What the sink of messages took: nothing where there is an answer, and else the line of the status.
abbrev pub ErrAfter : {T : Type 0} → Sink T → T → T → Status → Type 0
ErrAfter E old new Done = new ≡ old
ErrAfter E old new No = new ≡ old
ErrAfter E old new status = TookLine E old new (status_line status)
