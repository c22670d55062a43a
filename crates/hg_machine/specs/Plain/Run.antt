-- The plain machine in small steps: a line begins with its immediate lines; then turns are given one by
-- one while the command at work has turns to give; then it closes by a step of its own. A run is the lines
-- of a script in order. Our own rule.
use Rattle.std.specs.Prelude.{◌≡◌, ℕ, Bool, true, false, List, [], ◌∷◌, ◌++◌, Option, None, Some, is_some, ◌&&◌, not, if◌then◌else◌}
use Rattle.std.specs.List.{flat_map}
use Rattle.hg_machine.specs.Plain.Begin.{BeginsLine}
use Rattle.hg_machine.specs.Plain.Replies.{ReplyLine, worked}
use Rattle.hg_machine.specs.Plain.Rounds.{closes, has_turns}
use Rattle.hg_machine.specs.Plain.State.{State, Sizes, Task, Works, Fetches, first_state}
use Rattle.hg_machine.specs.Plain.Turn.{Turn}
use Rattle.hg_model.specs.Script.{Line}
use Rattle.hg_model.specs.Statements.{CommandTree}

-- the command at work ends; a SELECT closes its cursor
abbrev pub rests : State → State
rests s = record s { task = None }

-- The closing step: WORK says how many turns it gave, all others say nothing.
pub data Closes (old : State) (lines : List ReplyLine) (new : State) : Type 0 where
  nothing_at_work : old.task ≡ None → lines ≡ [] → new ≡ old → Closes old lines new
  work_ends : (turns given : ℕ) → old.task ≡ Some (Works turns given) → has_turns old ≡ false → lines ≡ worked given ∷ []
      → new ≡ rests old → Closes old lines new
  fetch_ends : (name : List ℕ) → old.task ≡ Some (Fetches (Some name)) → has_turns old ≡ false → lines ≡ [] → new ≡ rests old
      → Closes old lines new
  select_ends : old.task ≡ Some (Fetches None) → has_turns old ≡ false → lines ≡ [] → new ≡ rests (closes old None) → Closes old lines new

-- How the steps are taken: exactly as the machine takes them, or loosely.
pub record Manner : Type 1 where
  pub begins : State → Line → List ReplyLine → State → Type 0
  pub turn : State → List ReplyLine → State → Type 0
  pub closes : State → List ReplyLine → State → Type 0

abbrev pub exactly : (CommandTree → Bool) → Manner
exactly built = record { begins = BeginsLine built; turn = Turn; closes = Closes }

-- so many turns, each with its lines
unfoldable pub GivesTurns : Manner → State → List (List ReplyLine) → State → Type 0
GivesTurns m old [] new = new ≡ old
GivesTurns m old (turn ∷ turns) new = (between : State) × m.turn old turn between × GivesTurns m between turns new

-- the lines of turns
abbrev pub lines_of_turns : List (List ReplyLine) → List ReplyLine
lines_of_turns turns = flat_map (λ lines. lines) turns

-- all turns of the command at work, and its closing
pub record Finishes (m : Manner) (old : State) (lines : List ReplyLine) (new : State) : Type 0 where
  pub turns : List (List ReplyLine)
  pub between : State
  pub last : List ReplyLine
  pub given : GivesTurns m old turns between
  pub close : m.closes between last new
  pub joined : lines ≡ lines_of_turns turns ++ last

-- a whole line: its beginning, its turns and its closing
pub record RunsLine (m : Manner) (old : State) (line : Line) (lines : List ReplyLine) (new : State) : Type 0 where
  pub between : State
  pub first : List ReplyLine
  pub others : List ReplyLine
  pub begins : m.begins old line first between
  pub finishes : Finishes m between others new
  pub joined : lines ≡ first ++ others

-- lines in order
unfoldable pub RunsLines : Manner → State → List Line → List ReplyLine → State → Type 0
RunsLines m old [] lines new = (lines ≡ []) × (new ≡ old)
RunsLines m old (line ∷ script) lines new =
    (first : List ReplyLine) × (others : List ReplyLine) × (between : State) × RunsLine m old line first between
    × RunsLines m between script others new × (lines ≡ first ++ others)

-- these lines are a run over this script, from no table and no cursor
pub record IsRun (m : Manner) (sizes : Sizes) (script : List Line) (lines : List ReplyLine) : Type 0 where
  pub last : State
  pub runs : RunsLines m (first_state sizes) script lines last

-- ---- what one call of an engine does behind the beginning

-- whether the command at work has turns or a closing line to give
abbrev pub is_pending : State → Bool
is_pending s = is_some s.task

-- a command that closes with no line: all but WORK
abbrev pub is_silent : Option Task → Bool
is_silent None = false
is_silent (Some (Works turns given)) = false
is_silent (Some (Fetches name)) = true

abbrev pub closes_silently : State → Bool
closes_silently s = is_silent s.task

-- whether the command at work has a turn or a closing line to give
abbrev pub goes_on_working : State → Bool
goes_on_working s = if has_turns s then true else (is_pending s && not (closes_silently s))

-- A turn, with the closing behind it where no turn is left and nothing is to be said; or the closing line.
pub data Continues (m : Manner) (old : State) (lines : List ReplyLine) (new : State) : Type 0 where
  turn_given : m.turn old lines new → goes_on_working new ≡ true → Continues m old lines new
  last_turn_given : (between : State) → m.turn old lines between → goes_on_working between ≡ false → m.closes between [] new
      → Continues m old lines new
  closing_line_said : has_turns old ≡ false → m.closes old lines new → Continues m old lines new

-- ---- a run that stops in the midst of a line

-- the command at work is dropped: the cursor without a name is closed, others are as between two turns
abbrev pub dropped : State → State
dropped s = rests (closes s None)

-- Whole lines, and then the beginning and some turns of one more line, whose command is dropped.
pub data StopsIn (m : Manner) (old : State) (script : List Line) (lines : List ReplyLine) (new : State) : Type 0 where
  between_lines : RunsLines m old script lines new → StopsIn m old script lines new
  in_a_line : (before : List Line) (line : Line) (first begun : List ReplyLine) (turns : List (List ReplyLine)) (ready at_work now : State)
      → script ≡ before ++ line ∷ [] → RunsLines m old before first ready → m.begins ready line begun at_work
      → GivesTurns m at_work turns now → lines ≡ first ++ (begun ++ lines_of_turns turns) → new ≡ dropped now
      → StopsIn m old script lines new
