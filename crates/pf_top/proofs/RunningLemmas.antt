-- What stands after each way for a run to end.
use Rattle.std.proofs.Common.{◌≡◌, ◌≢◌, ℕ, ◌+◌, ◌<◌, ◌≤◌, ◌^◌, Bool, true, false, cond, List, [], ◌++◌, length, Option, Some, None, Result, Ok, Err, refl, ap, ◌∙◌, inl, inr, arith}
use Rattle.std.proofs.lemmas.List.{append-nil, length-append}
use Rattle.std.specs.Prelude.{OnOk, IfSome, ◌↔◌, if◌then◌else◌, nat_lt}
use Rattle.pf_io.specs.declared.device.Failed.{Failed}
use Rattle.pf_io.specs.declared.device.Sink.{Ghosts as Sink}
use Rattle.pf_io.specs.declared.device.Source.{Ghosts as Source}
use Rattle.pf_io.specs.Faults.{Rose, HasCause}
use Rattle.pf_io.specs.Told.{Gave, GaveCount, Took, IsFrontOf, NoneLeft, after_told, told_length}
use Rattle.pf_text.specs.declared.Refusal.{Refusal}
use Rattle.pf_text.specs.declared.Refusal.TheVariants as refusals
use Rattle.std.proofs.lemmas.Bool.{lt-ltb}
use Rattle.pf_text.specs.declared.TextBad.{TextBad}
use Rattle.pf_text.specs.Lines.{lines_from}
use Rattle.pf_text.specs.Kinds.{Accepted}
use Rattle.pf_text.specs.Verdict.{verdict_text, IsRightVerdict}
use Rattle.pf_text.proofs.VerdictLemmas.{same_verdict}
use Rattle.pf_gen.specs.Right.{IsRightSummary}
use Rattle.pf_top.specs.Job.{Row, job_of, ProblemOf, TextCommand, check, row_of, Command, reads, draws}
use Rattle.pf_top.specs.Asked.{Asked, usage, refused, accepted, drawn, unless, refusal_behind, problem_refusal, asked_of_read, asked_of_bytes, asked, command_of, IsRight}
use Rattle.pf_top.specs.Answering.{IsRefused, status_of}
use Rattle.pf_top.specs.declared.job.Stop.{Stop}
use Rattle.pf_top.specs.declared.job.Stop.TheVariants as Stopped
use Rattle.pf_top.specs.Messages.{TookLine, ErrAfter, status_line}
use Rattle.pf_top.specs.Running.{IsAnswerTo, IsNoTo, TookWhole, TookFront, Says, WasRead, SourceAfter, IsAfterReading, IsWithoutSource, IsEnd, IsDrawn, IsDue, IsRun}
use Rattle.pf_top.specs.declared.status.Status.{Status}
use Rattle.pf_top.specs.declared.status.Status.TheVariants.{Done, No, Usage, Refused, ReadFault, WriteFault, NoMemory}

-- ---- messages

pub took_line : {T X : Type 0} (E : Sink T) (old new : T) (bytes : List ℕ) (r : Result X Failed) → OnOk r (Took (E.taken old) (E.taken new) bytes)
    → OnOk r (E.flushed new ≡ told_length (E.taken new)) → HasCause (E.faults old) (E.faults new) r
    → IsFrontOf (E.taken old) (E.taken new) → IsFrontOf (E.taken new) (after_told (E.taken old) bytes) → TookLine E old new bytes
took_line E old new bytes (Ok x) ok flushed cause grows front = inl (ok, flushed)
took_line E old new bytes (Err e) ok flushed cause grows front = inr (cause.failed, grows, front)

-- a status that is no answer
pub err_after : {T : Type 0} (E : Sink T) (old new : T) (status : Status) → status ≢ Done → status ≢ No → TookLine E old new (status_line status) → ErrAfter E old new status
err_after E old new Done other other' took = absurd (other refl)
err_after E old new No other other' took = absurd (other' refl)
err_after E old new Usage other other' took = took
err_after E old new (Refused refusal) other other' took = took
err_after E old new ReadFault other other' took = took
err_after E old new WriteFault other other' took = took
err_after E old new NoMemory other other' took = took

-- ---- the input

-- what the source had left, where it tells
abbrev input_of : Option (List ℕ) → List ℕ → List ℕ
input_of None given = given
input_of (Some all) given = all

told_input : (told : Option (List ℕ)) (given : List ℕ) → IfSome told (λ left. left ≡ input_of told given)
told_input None given = tt
told_input (Some all) given = refl

pub told_whole : (told now : Option (List ℕ)) (bytes : List ℕ) → Gave told now bytes → NoneLeft now → IfSome told (λ left. left ≡ bytes)
told_whole None now bytes gave ended = tt
told_whole (Some all) None bytes gave ended = absurd cc
told_whole (Some all) (Some rest) bytes gave ended =
    let same : all ≡ bytes ++ rest = cc in
    same ∙ ap (λ (r : List ℕ). bytes ++ r) ended ∙ append-nil bytes

long_input : (told now : Option (List ℕ)) (given : List ℕ) → Gave told now given → length given ≡ 2 ^ 29 + 1 → 2 ^ 29 < length (input_of told given)
long_input None now given gave long = omega (arith, long)
long_input (Some all) None given gave long = absurd cc
long_input (Some all) (Some rest) given gave long =
    let same : all ≡ given ++ rest = cc in
    rw same (omega (arith, length-append given rest, long))

-- ---- the status that is due

due_done : (ask : Asked) (text : List ℕ) → IsAnswerTo ask text → IsDue ask Done
due_done usage text right = absurd right
due_done (refused refusal) text right = absurd right
due_done (accepted command problem rest) text right = inl refl
due_done (drawn seed) text right = refl

due_no : (ask : Asked) (text : List ℕ) → IsAnswerTo ask text → IsNoTo ask text → IsDue ask No
due_no usage text right no' = absurd right
due_no (refused refusal) text right no' = absurd right
due_no (accepted command problem rest) text right no' = inr refl
due_no (drawn seed) text right no' = absurd no'

pub is_due : {T U : Type 0} (S : Source T) (so sn : T) (O : Sink U) (oo on : U) (ask : Asked) (status : Status) → Says O oo on ask status
    → (status ≡ ReadFault → Rose (S.faults so) (S.faults sn)) → ¬ Rose (S.faults so) (S.faults sn) → ¬ Rose (O.faults oo) (O.faults on) → status ≢ NoMemory → IsDue ask status
is_due S so sn O oo on ask Done says fault read wrote memory = due_done ask says.0 says.1
is_due S so sn O oo on ask No says fault read wrote memory = due_no ask says.0 says.1 says.2
is_due S so sn O oo on ask Usage says fault read wrote memory = rw says.0 refl
is_due S so sn O oo on ask (Refused refusal) says fault read wrote memory = rw says.0 refl
is_due S so sn O oo on ask ReadFault says fault read wrote memory = absurd (read (fault refl))
is_due S so sn O oo on ask WriteFault says fault read wrote memory = absurd (wrote says.2)
is_due S so sn O oo on ask NoMemory says fault read wrote memory = absurd (memory refl)

-- ---- what words and bytes ask

asked_usage : (words : List (List ℕ)) (bytes : List ℕ) → command_of words ≡ None → asked words bytes ≡ usage
unfolding asked
asked_usage words bytes none = rw none refl

asked_command : (words : List (List ℕ)) (bytes : List ℕ) (command : TextCommand) → command_of words ≡ Some (reads command) → asked words bytes ≡ asked_of_bytes command bytes
unfolding asked
asked_command words bytes command some = rw some refl

asked_drawn : (words : List (List ℕ)) (bytes : List ℕ) (seed : ℕ) → command_of words ≡ Some (draws seed) → asked words bytes ≡ drawn seed
unfolding asked
asked_drawn words bytes seed some = rw some refl

-- too many bytes are refused before they are looked at
asks_long : (command : TextCommand) (bytes : List ℕ) → 2 ^ 29 < length bytes → asked_of_bytes command bytes ≡ refused refusals.TooLong
asks_long command bytes long = rw (lt-ltb (2 ^ 29) (length bytes) long) refl

either : (b : Bool) (x y : Asked) → x ≢ usage → y ≢ usage → cond b x y ≢ usage
either true x y p q = p
either false x y p q = q

unless_not_usage : (refusal : Option Refusal) (next : Asked) → next ≢ usage → unless refusal next ≢ usage
unless_not_usage (Some refusal) next h = λ e. cc
unless_not_usage None next h = h

read_not_usage : (command : TextCommand) (read : Result (Accepted (ProblemOf (row_of command))) TextBad) → asked_of_read command read ≢ usage
read_not_usage command (Err bad) = λ e. cc
read_not_usage command (Ok read) =
    let last : accepted command read.problem read.rest ≢ usage = (λ e. cc) in
    unless_not_usage (refusal_behind command read) (unless (problem_refusal command read.problem) (accepted command read.problem read.rest))
    (unless_not_usage (problem_refusal command read.problem) (accepted command read.problem read.rest) last)

-- a command asks for something
asks_something : (command : TextCommand) (bytes : List ℕ) → asked_of_bytes command bytes ≢ usage
asks_something command bytes =
    let read = asked_of_read command ((job_of (row_of command)).read (lines_from 1 bytes)) in
    either (nat_lt (2 ^ 29) (length bytes)) (refused refusals.TooLong) read (λ e. cc) (read_not_usage command ((job_of (row_of command)).read (lines_from 1 bytes)))

not_usage : (words : List (List ℕ)) (bytes : List ℕ) (command : TextCommand) → command_of words ≡ Some (reads command) → asked words bytes ≢ usage
not_usage words bytes command some = rw (asked_command words bytes command some) (asks_something command bytes)

-- ---- the ends of a command

after_reading : (refusal : Refusal) → refusal ≢ refusals.TooLong → IsAfterReading (Refused refusal)
after_reading (refusals.Text bad) other = tt
after_reading refusals.TooLong other = absurd (other refl)
after_reading refusals.Outside other = tt
after_reading refusals.TooFine other = tt

pub end_refused : {U : Type 0} (O : Sink U) (o : U) (command : TextCommand) (bytes : List ℕ) (refusal : Refusal) → IsRefused command bytes refusal → IsEnd O o o command bytes (Refused refusal)
end_refused O o command bytes refusal r = record { says = (r.asks, refl); out_count = omega arith; read = after_reading refusal r.short }

pub end_no_memory : {U : Type 0} (O : Sink U) (o : U) (command : TextCommand) (bytes : List ℕ) → IsEnd O o o command bytes NoMemory
end_no_memory O o command bytes = record { says = (asks_something command bytes, refl); out_count = omega arith; read = tt }

-- no answer was made
pub end_stopped : {U : Type 0} (O : Sink U) (o : U) (command : TextCommand) (bytes : List ℕ) (stop : Stop) → ((refusal : Refusal) → stop ≡ Stopped.Refused refusal → IsRefused command bytes refusal)
    → IsEnd O o o command bytes (status_of stop)
end_stopped O o command bytes (Stopped.Refused refusal) why = end_refused O o command bytes refusal (why refusal refl)
end_stopped O o command bytes Stopped.NoMemory why = end_no_memory O o command bytes

pub end_checked : {U : Type 0} (O : Sink U) (oo on : U) (row : Row) (bytes : List ℕ) (problem : ProblemOf row) (rest : List ℕ) (holds : Bool)
    → asked_of_bytes (check row) bytes ≡ accepted (check row) problem rest → IsRightVerdict ((job_of row).Certifies problem rest) (verdict_text holds)
    → O.faults oo ≤ O.faults on → TookWhole O oo on (verdict_text holds) → IsEnd O oo on (check row) bytes (if holds then Done else No)
end_checked O oo on row bytes problem rest true asks right later took = record {
  says = (verdict_text true, rw asks right, rw asks (λ no'. absurd (let same = same_verdict true false no' in cc)), took);
  out_count = later;
  read = tt;
}
end_checked O oo on row bytes problem rest false asks right later took = record {
  says = (verdict_text false, rw asks right, rw asks refl, took);
  out_count = later;
  read = tt;
}

pub end_write_fault : {U : Type 0} (O : Sink U) (oo on : U) (command : TextCommand) (bytes : List ℕ) (problem : ProblemOf (row_of command)) (rest text : List ℕ)
    → asked_of_bytes command bytes ≡ accepted command problem rest → IsRight command problem rest text
    → O.faults oo ≤ O.faults on → Rose (O.faults oo) (O.faults on) → TookFront O oo on text → IsEnd O oo on command bytes WriteFault
end_write_fault O oo on command bytes problem rest text asks right later rose took = record {
  says = (text, rw asks right, rose, took);
  out_count = later;
  read = tt;
}

-- ---- the ends of a command that reads nothing

pub drawn_no_memory : {U : Type 0} (O : Sink U) (o : U) (seed : ℕ) → IsDrawn O o o seed NoMemory
drawn_no_memory O o seed = record { says = ((λ e. cc), refl); out_count = omega arith; without = tt }

pub drawn_answered : {U : Type 0} (O : Sink U) (oo on : U) (seed : ℕ) (text : List ℕ) → IsRightSummary seed 300 3000 text → O.faults oo ≤ O.faults on → TookWhole O oo on text
    → IsDrawn O oo on seed Done
drawn_answered O oo on seed text right later took = record { says = (text, right, (λ no'. no'), took); out_count = later; without = tt }

pub drawn_write_fault : {U : Type 0} (O : Sink U) (oo on : U) (seed : ℕ) (text : List ℕ) → IsRightSummary seed 300 3000 text → O.faults oo ≤ O.faults on → Rose (O.faults oo) (O.faults on)
    → TookFront O oo on text → IsDrawn O oo on seed WriteFault
drawn_write_fault O oo on seed text right later rose took = record { says = (text, right, rose, took); out_count = later; without = tt }

-- ---- the ends of a run

pub run_usage : {T U : Type 0} (S : Source T) (s : T) (O : Sink U) (o : U) (words : List (List ℕ)) → command_of words ≡ None → IsRun S s s O o o words Usage
run_usage S s O o words none =
    let bytes = input_of (S.left s) [] in
    let asks : asked words bytes ≡ usage = asked_usage words bytes none in
    record {
      bytes = bytes;
      told = told_input (S.left s) [];
      says = (asks, refl);
      source = rw none (refl, refl);
      source_count = omega arith;
      out_count = omega arith;
      complete = λ read wrote memory. is_due S s s O o o (asked words bytes) Usage (asks, refl) (λ e. absurd cc) read wrote memory;
    }

pub run_read_fault : {T U : Type 0} (S : Source T) (so sn : T) (O : Sink U) (o : U) (command : TextCommand) (words : List (List ℕ)) → command_of words ≡ Some (reads command)
    → GaveCount (S.left so) (S.left sn) (λ n. n ≤ 2 ^ 29) → Rose (S.faults so) (S.faults sn) → S.faults so ≤ S.faults sn → IsRun S so sn O o o words ReadFault
run_read_fault S so sn O o command words some gave rose later =
    let bytes = input_of (S.left so) gave.0 in
    record {
      bytes = bytes;
      told = told_input (S.left so) gave.0;
      says = (not_usage words bytes command some, refl);
      source = rw some (rose, gave);
      source_count = later;
      out_count = omega arith;
      complete = λ read wrote memory. absurd (read rose);
    }

pub run_too_long : {T U : Type 0} (S : Source T) (so sn : T) (O : Sink U) (o : U) (command : TextCommand) (words : List (List ℕ)) → command_of words ≡ Some (reads command)
    → GaveCount (S.left so) (S.left sn) (λ n. n ≡ 2 ^ 29 + 1) → S.faults so ≤ S.faults sn → IsRun S so sn O o o words (Refused refusals.TooLong)
run_too_long S so sn O o command words some gave later =
    let bytes = input_of (S.left so) gave.0 in
    let asks : asked words bytes ≡ refused refusals.TooLong = asked_command words bytes command some ∙ asks_long command bytes (long_input (S.left so) (S.left sn) gave.0 gave.1 gave.2) in
    record {
      bytes = bytes;
      told = told_input (S.left so) gave.0;
      says = (asks, refl);
      source = rw some gave;
      source_count = later;
      out_count = omega arith;
      complete = λ read wrote memory. rw asks refl;
    }

pub run_no_memory : {T U : Type 0} (S : Source T) (so sn : T) (O : Sink U) (o : U) (command : TextCommand) (words : List (List ℕ)) → command_of words ≡ Some (reads command)
    → GaveCount (S.left so) (S.left sn) (λ n. n ≤ 2 ^ 29) → S.faults so ≤ S.faults sn → IsRun S so sn O o o words NoMemory
run_no_memory S so sn O o command words some gave later =
    let bytes = input_of (S.left so) gave.0 in
    record {
      bytes = bytes;
      told = told_input (S.left so) gave.0;
      says = (not_usage words bytes command some, refl);
      source = rw some gave;
      source_count = later;
      out_count = omega arith;
      complete = λ read wrote memory. absurd (memory refl);
    }

was_read : {T : Type 0} (S : Source T) (so sn : T) (bytes : List ℕ) (status : Status) → IsAfterReading status → Gave (S.left so) (S.left sn) bytes → NoneLeft (S.left sn) → length bytes ≤ 2 ^ 29
    → WasRead S so sn bytes status
was_read S so sn bytes Done read gave ended short = (gave, ended)
was_read S so sn bytes No read gave ended short = (gave, ended)
was_read S so sn bytes Usage read gave ended short = absurd read
was_read S so sn bytes (Refused (refusals.Text bad)) read gave ended short = (gave, ended)
was_read S so sn bytes (Refused refusals.TooLong) read gave ended short = absurd read
was_read S so sn bytes (Refused refusals.Outside) read gave ended short = (gave, ended)
was_read S so sn bytes (Refused refusals.TooFine) read gave ended short = (gave, ended)
was_read S so sn bytes ReadFault read gave ended short = absurd read
was_read S so sn bytes WriteFault read gave ended short = (gave, ended)
was_read S so sn bytes NoMemory read gave ended short = (bytes, gave, short)

-- a command that had all its bytes
pub run_ended : {T U : Type 0} (S : Source T) (so sn : T) (O : Sink U) (oo on : U) (command : TextCommand) (words : List (List ℕ)) (bytes : List ℕ) (status : Status)
    → command_of words ≡ Some (reads command) → Gave (S.left so) (S.left sn) bytes → NoneLeft (S.left sn) → length bytes ≤ 2 ^ 29 → S.faults so ≤ S.faults sn
    → IsEnd O oo on command bytes status → IsRun S so sn O oo on words status
run_ended S so sn O oo on command words bytes status some gave ended short later e =
    let says : Says O oo on (asked words bytes) status = rw (asked_command words bytes command some) e.says in
    record {
      bytes = bytes;
      told = told_whole (S.left so) (S.left sn) bytes gave ended;
      says = says;
      source = rw some (was_read S so sn bytes status e.read gave ended short);
      source_count = later;
      out_count = e.out_count;
      complete = λ read wrote memory. is_due S so sn O oo on (asked words bytes) status says (λ same. absurd (rw same at e.read)) read wrote memory;
    }

without_read_fault : (status : Status) → IsWithoutSource status → status ≡ ReadFault → ⊥
without_read_fault status without same = rw same at without

-- a command that reads nothing
pub run_drawn : {T U : Type 0} (S : Source T) (s : T) (O : Sink U) (oo on : U) (seed : ℕ) (words : List (List ℕ)) (status : Status)
    → command_of words ≡ Some (draws seed) → IsDrawn O oo on seed status → IsRun S s s O oo on words status
run_drawn S s O oo on seed words status some e =
    let bytes = input_of (S.left s) [] in
    let says : Says O oo on (asked words bytes) status = rw (asked_drawn words bytes seed some) e.says in
    record {
      bytes = bytes;
      told = told_input (S.left s) [];
      says = says;
      source = rw some (e.without, refl);
      source_count = omega arith;
      out_count = e.out_count;
      complete = λ read wrote memory. is_due S s s O oo on (asked words bytes) status says (λ same. absurd (without_read_fault status e.without same)) read wrote memory;
    }

-- the words decide alone whether they are a command
pub usage_by_words : {T U : Type 0} (S : Source T) (so sn : T) (O : Sink U) (oo on : U) (words : List (List ℕ)) (status : Status) → IsRun S so sn O oo on words status
    → (status ≡ Usage) ↔ (command_of words ≡ None)
usage_by_words S so sn O oo on words status run = by (command_of words) refl run.source
  where
    by : (command : Option Command) → command_of words ≡ command → SourceAfter S so sn run.bytes command status → (status ≡ Usage) ↔ (command ≡ None)
    by None e after = (λ same. refl, λ same. after.0)
    by (Some (reads command)) e after = (λ same. absurd (rw same at after), λ same. absurd cc)
    by (Some (draws seed)) e after = (λ same. absurd (rw same at after.0), λ same. absurd cc)
