-- What a run took from its source and gave to its sink, over what these tell, and over any meaning of a
-- run.
use Rattle.std.specs.Prelude.{◌≡◌, ℕ, ◌≤◌, ◌^◌, ◌<◌, ◌⊎◌, Bool, List, ◌++◌, length, Option}
use Rattle.hg_base.specs.declared.File.TheVariants.{Main, Temp}
use Rattle.hg_io.specs.Bytes.{then, before, AtEnd}
use Rattle.hg_base.specs.Count.{raised}
use Rattle.hg_machine.specs.Plain.Replies.{ReplyLine, text_of, has_error, fault_lines}
use Rattle.hg_model.specs.Script.{Line, lines_of, whole_lines}

-- the outside at one moment: the bytes left and the count of bytes given of the source, the bytes written
-- of the sink, and the counts of faults of the two devices
pub record Outside : Type 0 where
  pub left : Option (List ℕ)
  pub given : ℕ
  pub written : Option (List ℕ)
  pub main_faults : ℕ
  pub temp_faults : ℕ

-- the source gave just these bytes
pub record Took (old new : Outside) (taken : List ℕ) : Type 0 where
  pub left : old.left ≡ before taken new.left
  pub given : new.given ≡ raised old.given (length taken)

-- which reply lines are those of a run over which lines of a script
abbrev pub Meaning : Type 1
Meaning = List Line → List ReplyLine → Type 0

-- these are reply lines of a run over these lines; and no more of them say that a device failed than that
-- device's count rose
pub record AreRepliesTo (Run : Meaning) (old new : Outside) (script : List Line) (lines : List ReplyLine) : Type 0 where
  pub run : Run script lines
  pub main_faults : raised old.main_faults (fault_lines Main lines) ≤ new.main_faults
  pub temp_faults : raised old.temp_faults (fault_lines Temp lines) ≤ new.temp_faults

-- what was written are the reply lines to these lines
pub record AnswersScript (Run : Meaning) (old new : Outside) (script : List Line) (lines : List ReplyLine) : Type 0 where
  pub of_run : AreRepliesTo Run old new script lines
  pub text : new.written ≡ then old.written (text_of lines)

-- the script was read to its end and answered, with an error line or with none
pub record AnswersAll (Run : Meaning) (old new : Outside) (errors : Bool) : Type 0 where
  pub taken : List ℕ
  pub took : Took old new taken
  pub few : length taken < 2 ^ 32
  pub at_end : AtEnd new.left
  pub lines : List ReplyLine
  pub answers : AnswersScript Run old new (lines_of taken) lines
  pub errors_shown : has_error lines ≡ errors

-- fewer than 2^32 bytes were taken, and just the lines that a line feed ends were answered
pub record AnswersWholeLines (Run : Meaning) (old new : Outside) : Type 0 where
  pub taken : List ℕ
  pub took : Took old new taken
  pub few : length taken < 2 ^ 32
  pub lines : List ReplyLine
  pub answers : AnswersScript Run old new (whole_lines taken) lines

-- 2^32 bytes were taken, and just the lines that a line feed ends were answered
pub record AnswersUpToLimit (Run : Meaning) (old new : Outside) : Type 0 where
  pub taken : List ℕ
  pub took : Took old new taken
  pub all : length taken ≡ 2 ^ 32
  pub lines : List ReplyLine
  pub answers : AnswersScript Run old new (whole_lines taken) lines

-- These are the first lines of what was taken: of the lines that a line feed ends, or, where the script
-- was read to its end, of all lines.
abbrev pub FirstLines : List ℕ → Option (List ℕ) → List Line → List Line → Type 0
FirstLines taken left script later = (whole_lines taken ≡ script ++ later) ⊎ (AtEnd left × (lines_of taken ≡ script ++ later))

-- At most 2^32 bytes were taken; the run stopped behind the first lines, or in the midst of the last of
-- them; and what was written is a front of its text. `Stops` says which reply lines are those of a run that
-- stops in these lines.
pub record AnswersInPart (Stops : Meaning) (old new : Outside) : Type 0 where
  pub taken : List ℕ
  pub took : Took old new taken
  pub few : length taken ≤ 2 ^ 32
  pub script : List Line
  pub later : List Line
  pub first : FirstLines taken new.left script later
  pub lines : List ReplyLine
  pub of_run : AreRepliesTo Stops old new script lines
  pub front : List ℕ
  pub rest : List ℕ
  pub parts : text_of lines ≡ front ++ rest
  pub text : new.written ≡ then old.written front
