-- Where a session stands, over the bytes of the script that it took and any engine.
use Rattle.std.specs.Prelude.{◌≡◌, ◌≢◌, ◌≤◌, ◌+◌, ℕ, Bool, true, false, List, [], ◌++◌, length, take, Option}
use Rattle.std.specs.List.{AllByRecursion}
use Rattle.hg_io.specs.Bytes.{then}
use Rattle.hg_machine.specs.Plain.Replies.{ReplyLine, text_of, has_error}
use Rattle.hg_machine.specs.Plain.Run.{RunsLines, StopsIn}
use Rattle.hg_machine.specs.Plain.State.{State}
use Rattle.hg_model.specs.Script.{Line, whole_lines, last_part}
use Rattle.hg_reply.specs.Steps.{Moves, Counted, manner}
use Rattle.hg_serve.specs.declared.output.Output.{Output}
use Rattle.hg_serve.specs.declared.session.Session.{Session}
use Rattle.hg_serve.specs.declared.statuses.Status.{Status}
use Rattle.hg_serve.specs.declared.statuses.Status.TheVariants as status
use Rattle.hg_serve.specs.Output.{Moment, Passes, Breaks}
use Rattle.hg_serve.specs.Session.{BreaksOff}

-- the machine runs the lines
abbrev pub Running : Bool → List Line → State → List ReplyLine → State → Type 0
Running tells lines old replies new = RunsLines (manner tells) old lines replies new

-- the machine runs the lines, and stops behind them or in the midst of the last of them
abbrev pub Halting : Bool → List Line → State → List ReplyLine → State → Type 0
Halting tells lines old replies new = StopsIn (manner tells) old lines replies new

-- no line feed stands among these bytes
abbrev pub HasNoFeed : List ℕ → Type 0
HasNoFeed bytes = AllByRecursion (λ b. b ≢ 10) bytes

-- the whole lines among the bytes taken were answered, and the front of the line at hand is kept
pub record Serves {E : Type 0} (Stands : E → State → Type 0) (tells : Bool) (first now : E) (old new : Moment) (s : Session) (taken : List ℕ) : Type 0 where
  pub replies : List ReplyLine
  pub moves : Moves Stands first now (Running tells (whole_lines taken)) replies
  pub passes : Passes old.written new.written [] s.output.bytes.items (text_of replies)
  pub errors : s.output.errors ≡ has_error replies
  pub counted : Counted old.faults new.faults replies
  pub said : new.said ≤ old.said + length (text_of replies)
  pub part : s.line.items ≡ take 4097 (last_part [] taken)

-- the replies to all lines were written or wait
pub record AnswersLines {E : Type 0} (Stands : E → State → Type 0) (tells : Bool) (first now : E) (old new : Moment) (output : Output) (lines : List Line) : Type 0 where
  pub replies : List ReplyLine
  pub moves : Moves Stands first now (Running tells lines) replies
  pub passes : Passes old.written new.written [] output.bytes.items (text_of replies)
  pub errors : output.errors ≡ has_error replies
  pub counted : Counted old.faults new.faults replies
  pub said : new.said ≤ old.said + length (text_of replies)

-- the sink failed in these lines: the run stopped behind the first of them or in the midst of the last of
-- these, and a front of its reply lines was written
pub record Halts {E : Type 0} (Stands : E → State → Type 0) (tells : Bool) (first now : E) (old new : Moment) (lines : List Line) : Type 0 where
  pub front : List Line
  pub later : List Line
  pub parts : lines ≡ front ++ later
  pub breaks : BreaksOff Stands first now old new [] (Halting tells front)

-- the lines were answered, with an error line or with none
pub record AllAnswered {E : Type 0} (Stands : E → State → Type 0) (tells : Bool) (first now : E) (old new : Moment) (lines : List Line) (errors : Bool) : Type 0 where
  pub replies : List ReplyLine
  pub moves : Moves Stands first now (Running tells lines) replies
  pub text : new.written ≡ then old.written (text_of replies)
  pub counted : Counted old.faults new.faults replies
  pub shown : has_error replies ≡ errors

-- what waited was written at the end of a script, or the sink failed
abbrev pub Finishes : Option (List ℕ) → Option (List ℕ) → Output → Status → Type 0
Finishes old new output status.Clean = Passes old new output.bytes.items [] [] × (output.errors ≡ false)
Finishes old new output status.Errors = Passes old new output.bytes.items [] [] × (output.errors ≡ true)
Finishes old new output status.SinkFault = Breaks old new output.bytes.items [] × (length output.bytes.items ≤ 49152)
Finishes old new output status.Usage = ⊥
Finishes old new output status.NoMemory = ⊥
Finishes old new output status.SourceFault = ⊥
Finishes old new output status.TooLong = ⊥

-- a session over these lines was closed with this status
abbrev pub Closes : {E : Type 0} → (E → State → Type 0) → Bool → E → E → Moment → Moment → List Line → Status → Type 0
Closes Stands tells first now old new lines status.Clean = AllAnswered Stands tells first now old new lines false
Closes Stands tells first now old new lines status.Errors = AllAnswered Stands tells first now old new lines true
Closes Stands tells first now old new lines status.SinkFault = Halts Stands tells first now old new lines
Closes Stands tells first now old new lines status.Usage = ⊥
Closes Stands tells first now old new lines status.NoMemory = ⊥
Closes Stands tells first now old new lines status.SourceFault = ⊥
Closes Stands tells first now old new lines status.TooLong = ⊥
