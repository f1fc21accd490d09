-- What stands after a run: what its status says of what was asked, and what it did with the source and the sink of answers.
use Rattle.std.specs.Prelude.{◌≡◌, ◌≢◌, ◌⊎◌, ℕ, ◌+◌, ◌^◌, ◌≤◌, List, Option, Some, None, IfSome}
use Rattle.pf_io.specs.declared.device.Source.{Ghosts as Source}
use Rattle.pf_io.specs.declared.device.Sink.{Ghosts as Sink}
use Rattle.pf_io.specs.Faults.{Rose}
use Rattle.pf_io.specs.Told.{Gave, GaveCount, Took, IsFrontOf, NoneLeft, after_told, told_length}
use Rattle.pf_text.specs.declared.Refusal.TheVariants.{TooLong}
use Rattle.pf_gen.specs.Right.{IsRightSummary}
use Rattle.pf_top.specs.Job.{TextCommand, Command, reads, draws}
use Rattle.pf_top.specs.Asked.{Asked, usage, refused, accepted, drawn, asked_of_bytes, asked, command_of, IsRight, SaysNo}
use Rattle.pf_top.specs.declared.status.Status.{Status}
use Rattle.pf_top.specs.declared.status.Status.TheVariants.{Done, No, Usage, Refused, ReadFault, WriteFault, NoMemory}

-- the text is that of a right answer to what was asked
abbrev pub IsAnswerTo : Asked → List ℕ → Type 0
IsAnswerTo (accepted command problem rest) text = IsRight command problem rest text
IsAnswerTo (drawn seed) text = IsRightSummary seed 300 3000 text
IsAnswerTo usage text = ⊥
IsAnswerTo (refused refusal) text = ⊥

-- the text is that of the answer `no`
abbrev pub IsNoTo : Asked → List ℕ → Type 0
IsNoTo (accepted command problem rest) text = SaysNo command text
IsNoTo (drawn seed) text = ⊥
IsNoTo usage text = ⊥
IsNoTo (refused refusal) text = ⊥

-- the sink took this whole text, and it was flushed
abbrev pub TookWhole : {U : Type 0} → Sink U → U → U → List ℕ → Type 0
TookWhole O old new text = Took (O.taken old) (O.taken new) text × (O.flushed new ≡ told_length (O.taken new))

-- the sink took a prefix of this text
abbrev pub TookFront : {U : Type 0} → Sink U → U → U → List ℕ → Type 0
TookFront O old new text = IsFrontOf (O.taken old) (O.taken new) × IsFrontOf (O.taken new) (after_told (O.taken old) text)

-- What a status says of what was asked, and what the sink of answers then took: with `Done` and `No` the whole text of a
-- right answer, after a fault of its own a prefix of one, and nothing with all others.
abbrev pub Says : {U : Type 0} → Sink U → U → U → Asked → Status → Type 0
Says O old new ask Done = (text : List ℕ) × IsAnswerTo ask text × ¬ IsNoTo ask text × TookWhole O old new text
Says O old new ask No = (text : List ℕ) × IsAnswerTo ask text × IsNoTo ask text × TookWhole O old new text
Says O old new ask Usage = (ask ≡ usage) × (new ≡ old)
Says O old new ask (Refused refusal) = (ask ≡ refused refusal) × (new ≡ old)
Says O old new ask ReadFault = (ask ≢ usage) × (new ≡ old)
Says O old new ask WriteFault = (text : List ℕ) × IsAnswerTo ask text × Rose (O.faults old) (O.faults new) × TookFront O old new text
Says O old new ask NoMemory = (ask ≢ usage) × (new ≡ old)

-- What a command over a text has left of the source: after a read fault, and where memory was not found, at most 2^29
-- bytes are gone, with `TooLong` exactly one more, and with all others it gave the whole input, and nothing is left.
abbrev pub WasRead : {T : Type 0} → Source T → T → T → List ℕ → Status → Type 0
WasRead S old new bytes ReadFault = Rose (S.faults old) (S.faults new) × GaveCount (S.left old) (S.left new) (λ n. n ≤ 2 ^ 29)
WasRead S old new bytes NoMemory = GaveCount (S.left old) (S.left new) (λ n. n ≤ 2 ^ 29)
WasRead S old new bytes (Refused TooLong) = GaveCount (S.left old) (S.left new) (λ n. n ≡ 2 ^ 29 + 1)
WasRead S old new bytes Usage = ⊥
WasRead S old new bytes status = Gave (S.left old) (S.left new) bytes × NoneLeft (S.left new)

-- the status comes without a source
abbrev pub IsWithoutSource : Status → Type 0
IsWithoutSource Done = Unit {0}
IsWithoutSource WriteFault = Unit {0}
IsWithoutSource NoMemory = Unit {0}
IsWithoutSource status = ⊥

-- What is left of the source of this input, by the command. Words that are no command leave it as it was, and so does a
-- command that reads nothing.
abbrev pub SourceAfter : {T : Type 0} → Source T → T → T → List ℕ → Option Command → Status → Type 0
SourceAfter S old new bytes None status = (status ≡ Usage) × (new ≡ old)
SourceAfter S old new bytes (Some (reads command)) status = WasRead S old new bytes status
SourceAfter S old new bytes (Some (draws seed)) status = IsWithoutSource status × (new ≡ old)

-- the status that is due for what was asked
abbrev pub IsDue : Asked → Status → Type 0
IsDue usage status = status ≡ Usage
IsDue (refused refusal) status = status ≡ Refused refusal
IsDue (accepted command problem rest) status = (status ≡ Done) ⊎ (status ≡ No)
IsDue (drawn seed) status = status ≡ Done

-- the status comes only where the source was read to its end
abbrev pub IsAfterReading : Status → Type 0
IsAfterReading Usage = ⊥
IsAfterReading ReadFault = ⊥
IsAfterReading (Refused TooLong) = ⊥
IsAfterReading status = Unit {0}

-- What stands after a command over a text that had all its bytes: what its status says of them, and what the sink of answers took.
pub record IsEnd {U : Type 0} (O : Sink U) (out_old out_new : U) (command : TextCommand) (bytes : List ℕ) (status : Status) : Type 0 where
  pub says : Says O out_old out_new (asked_of_bytes command bytes) status
  pub out_count : O.faults out_old ≤ O.faults out_new
  pub read : IsAfterReading status

-- What stands after a command over the network of a seed.
pub record IsDrawn {U : Type 0} (O : Sink U) (out_old out_new : U) (seed : ℕ) (status : Status) : Type 0 where
  pub says : Says O out_old out_new (drawn seed) status
  pub out_count : O.faults out_old ≤ O.faults out_new
  pub without : IsWithoutSource status

-- What stands after a run.
pub record IsRun {T U : Type 0} (S : Source T) (source_old source_new : T) (O : Sink U) (out_old out_new : U) (words : List (List ℕ)) (status : Status) : Type 0 where
  -- the input, which is what the source had left, where it tells
  pub bytes : List ℕ
  pub told : IfSome (S.left source_old) (λ left. left ≡ bytes)
  -- what the status says, and what the sink of answers took
  pub says : Says O out_old out_new (asked words bytes) status
  pub source : SourceAfter S source_old source_new bytes (command_of words) status
  -- counts of faults never fall
  pub source_count : S.faults source_old ≤ S.faults source_new
  pub out_count : O.faults out_old ≤ O.faults out_new
  -- where no count rose and memory was found, the status is the one that is due
  pub complete : ¬ Rose (S.faults source_old) (S.faults source_new) → ¬ Rose (O.faults out_old) (O.faults out_new) → status ≢ NoMemory → IsDue (asked words bytes) status
