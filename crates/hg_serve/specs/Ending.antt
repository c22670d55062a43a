-- What each status says of the script and of what was written.
use Rattle.std.specs.Prelude.{◌≡◌, ℕ, ◌<◌, ◌≤◌, ◌^◌, true, false, List, take, Option, Result, MatchResult}
use Rattle.hg_io.specs.Bytes.{before, AtEnd}
use Rattle.hg_machine.specs.Plain.Outcome.{Meaning, Outside, AnswersAll, AnswersWholeLines, AnswersUpToLimit, AnswersInPart}
use Rattle.hg_reply.specs.Steps.{DeviceFacts}
use Rattle.hg_serve.specs.declared.statuses.Status.{Status}
use Rattle.hg_serve.specs.declared.statuses.Status.TheVariants as status

-- the outside at one moment
abbrev pub outside : Option (List ℕ) → ℕ → Option (List ℕ) → DeviceFacts → Outside
outside left given written faults =
    record { left = left; given = given; written = written; main_faults = faults.main; temp_faults = faults.temp }

-- a read that asks for so many bytes
abbrev pub ReadsSome : {E : Type 0} → Option (List ℕ) → Option (List ℕ) → Result ℕ E → List ℕ → ℕ → Type 0
ReadsSome old new result buffer room =
    MatchResult result (λ n. (old ≡ before (take n buffer) new) × (n ≡ 0 → 0 < room → AtEnd new)) (λ _. new ≡ old)

-- `Run` says what is a run, and `Stopped` what is a run that stopped
abbrev pub Ends : Meaning → Meaning → Outside → Outside → Status → Type 0
Ends Run Stopped old new status.Clean = AnswersAll Run old new false
Ends Run Stopped old new status.Errors = AnswersAll Run old new true
Ends Run Stopped old new status.Usage = ⊥
Ends Run Stopped old new status.SourceFault = AnswersWholeLines Run old new
Ends Run Stopped old new status.SinkFault = AnswersInPart Stopped old new
Ends Run Stopped old new status.NoMemory = ⊥
Ends Run Stopped old new status.TooLong = AnswersUpToLimit Run old new

-- how many bytes of a script were taken
abbrev pub TakesSoMany : Status → ℕ → Type 0
TakesSoMany status.Clean n = n < 2 ^ 32
TakesSoMany status.Errors n = n < 2 ^ 32
TakesSoMany status.Usage n = ⊥
TakesSoMany status.SourceFault n = n < 2 ^ 32
TakesSoMany status.SinkFault n = n ≤ 2 ^ 32
TakesSoMany status.NoMemory n = ⊥
TakesSoMany status.TooLong n = n ≡ 2 ^ 32
