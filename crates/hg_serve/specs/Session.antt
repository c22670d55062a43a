-- What a session promises from line to line, over any engine.
use Rattle.std.specs.Prelude.{◌≡◌, ℕ, Bool, List, ◌++◌, if◌then◌else◌}
use Rattle.hg_machine.specs.Plain.Replies.{ReplyLine}
use Rattle.hg_machine.specs.Plain.Run.{Manner, GivesTurns, Finishes, RunsLine, lines_of_turns, is_pending, dropped}
use Rattle.hg_machine.specs.Plain.State.{State}
use Rattle.hg_model.specs.Script.{Line}
use Rattle.hg_reply.specs.Steps.{Moves, manner}
use Rattle.hg_serve.specs.declared.output.Output.{Output}
use Rattle.hg_serve.specs.Output.{Moment, Tells, TellsInPart, Stops}

-- the turns of a command at work to its end, and its end
abbrev pub Finishing : Bool → State → List ReplyLine → State → Type 0
Finishing tells old replies new = Finishes (manner tells) old replies new

-- the machine runs the line
abbrev pub Answering : Bool → Line → State → List ReplyLine → State → Type 0
Answering tells line old replies new = RunsLine (manner tells) old line replies new

-- all turns, or some, behind which the command is dropped
pub data StopsTurns (m : Manner) (old : State) (replies : List ReplyLine) (new : State) : Type 0 where
  all_given : Finishes m old replies new → StopsTurns m old replies new
  some_given : (turns : List (List ReplyLine)) (now : State) → GivesTurns m old turns now → replies ≡ lines_of_turns turns → new ≡ dropped now
      → StopsTurns m old replies new

-- a line, or its beginning and some of its turns, behind which the command is dropped
pub data StopsLine (m : Manner) (line : Line) (old : State) (replies : List ReplyLine) (new : State) : Type 0 where
  whole_line : RunsLine m old line replies new → StopsLine m line old replies new
  in_its_turns : (begun : List ReplyLine) (turns : List (List ReplyLine)) (at_work now : State) → m.begins old line begun at_work
      → GivesTurns m at_work turns now → replies ≡ begun ++ lines_of_turns turns → new ≡ dropped now → StopsLine m line old replies new

abbrev pub StoppingTurns : Bool → State → List ReplyLine → State → Type 0
StoppingTurns tells old replies new = StopsTurns (manner tells) old replies new

abbrev pub StoppingLine : Bool → Line → State → List ReplyLine → State → Type 0
StoppingLine tells line old replies new = StopsLine (manner tells) line old replies new

-- a state in which the command at work, if there is one, is dropped
abbrev pub stopped : State → State
stopped s = if is_pending s then dropped s else s

pub record StopsWork {E : Type 0} (Stands : E → State → Type 0) (old new : E) : Type 0 where
  pub to : (before : State) → Stands old before → Stands new (stopped before)

-- a line was answered
pub record AnswersLine {E : Type 0} (Stands : E → State → Type 0) (tells : Bool) (first now : E) (old new : Moment) (before after : Output) (line : Line) : Type 0 where
  pub replies : List ReplyLine
  pub moves : Moves Stands first now (Answering tells line) replies
  pub told : Tells old new before after replies

-- the machine takes this step with reply lines of which a front was written, to a state that the engine
-- stands for
pub record TellsFront {E : Type 0} (Stands : E → State → Type 0) (now : E) (old new : Moment) (waiting : List ℕ) (Step : List ReplyLine → State → Type 0) : Type 0 where
  pub replies : List ReplyLine
  pub after : State
  pub stands : Stands now after
  pub step : Step replies after
  pub told : TellsInPart old new waiting replies

-- The sink failed within this step, and nothing more was run: from each state that the engine stood for
-- the machine takes the step, and a front of its lines was written.
pub record BreaksOff {E : Type 0} (Stands : E → State → Type 0) (first now : E) (old new : Moment) (waiting : List ℕ) (Step : State → List ReplyLine → State → Type 0) : Type 0 where
  pub from : (before : State) → Stands first before → TellsFront Stands now old new waiting (Step before)
  pub stops : Stops old new waiting
