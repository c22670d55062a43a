-- Laws of the plain machine. Each stands on the contract of a small function of this crate.
use Rattle.std.specs.Prelude.{◌≡◌, ℕ, zero, suc, ◌+◌, ◌≤◌, ◌<◌, ◌⊎◌, Bool, true, false, List, [], ◌∷◌, ◌++◌, Option, None, Some, length, map}
use Rattle.std.specs.List.{AllByRecursion, sum_by}
use Rattle.hg_base.specs.declared.File.{File}
use Rattle.hg_base.specs.declared.File.TheVariants as file
use Rattle.hg_machine.specs.Plain.Begin.{BeginsCommand}
use Rattle.hg_machine.specs.Plain.Licences.{temp_taken}
use Rattle.hg_machine.specs.Plain.Limits.{ceiling}
use Rattle.hg_machine.specs.Plain.Loose.{loosely}
use Rattle.hg_machine.specs.Plain.Replies.{ReplyLine, CursorName, row, fault_lines, full_lines, code_lines}
use Rattle.hg_machine.specs.Plain.Rounds.{wants_more, has_turns}
use Rattle.hg_machine.specs.Plain.Run.{Manner, exactly, GivesTurns, lines_of_turns, Closes, Finishes, RunsLine, RunsLines, StopsIn}
use Rattle.hg_machine.specs.Plain.State.{State, CursorState, Sizes, first_state, cursor_named, tables_of, versions_of}
use Rattle.hg_machine.specs.Plain.Turn.{Turn}
use Rattle.hg_model.specs.CommandNeeds.{PageNeed, needs_of}
use Rattle.hg_model.specs.LineReading.{ReadsLine, ReadAs}
use Rattle.hg_model.specs.Reading.{Statement}
use Rattle.hg_model.specs.Script.{Line}
use Rattle.hg_model.specs.Statements.{CommandTree}

-- ---- turns come to an end

-- how many turns a cursor may have before it rests: with all rows wanted, one for each row that is left and
-- one for the end
abbrev pub turns_wanted : Option ℕ → ℕ → ℕ
turns_wanted None left = suc left
turns_wanted (Some n) left = n

abbrev pub cursor_turns : CursorState → ℕ
cursor_turns c = turns_wanted c.wanted (length c.left)

abbrev pub turns_left : State → ℕ
turns_left s = sum_by cursor_turns s.cursors

-- each turn leaves fewer turns
abbrev pub TurnsEnd : Type 0
TurnsEnd = (old new : State) (lines : List ReplyLine) → Turn old lines new → turns_left new < turns_left old

-- ---- what every state of a run is like

-- the cursor of that name is open and wants rows
pub record WantsRows (cursors : List CursorState) (name : CursorName) : Type 0 where
  pub cursor : CursorState
  pub is_there : cursor_named cursors name ≡ Some cursor
  pub wants : wants_more cursor.wanted ≡ true

-- Whoever is active or waits is open and wants rows; nobody waits while more may be active; one at least
-- may be.
pub record IsSteady (s : State) : Type 0 where
  pub round : AllByRecursion (WantsRows s.cursors) s.round
  pub waiting : AllByRecursion (WantsRows s.cursors) s.waiting
  pub full : (s.waiting ≡ []) ⊎ (s.mpl ≤ length s.round)
  pub some_may : 1 ≤ s.mpl

abbrev pub BeginningIsSteady : Type 0
BeginningIsSteady = (sizes : Sizes) → 1 ≤ sizes.mpl → IsSteady (first_state sizes)

abbrev pub LinesKeepSteady : Type 0
LinesKeepSteady = (built : CommandTree → Bool) (old new : State) (script : List Line) (lines : List ReplyLine)
    → RunsLines (exactly built) old script lines new → IsSteady old → IsSteady new

-- so does each step of a line by itself, and each over devices that do not tell
pub record StepsKeepSteady (m : Manner) : Type 0 where
  pub begins : (old new : State) (line : Line) (lines : List ReplyLine) → m.begins old line lines new → IsSteady old → IsSteady new
  pub turns : (old new : State) (lines : List ReplyLine) → m.turn old lines new → IsSteady old → IsSteady new
  pub closes : (old new : State) (lines : List ReplyLine) → m.closes old lines new → IsSteady old → IsSteady new

abbrev pub ExactStepsKeepSteady : Type 0
ExactStepsKeepSteady = (built : CommandTree → Bool) → StepsKeepSteady (exactly built)

abbrev pub LooseStepsKeepSteady : Type 0
LooseStepsKeepSteady = (built : CommandTree → Bool) → StepsKeepSteady (loosely (exactly built))

abbrev pub LooseLinesKeepSteady : Type 0
LooseLinesKeepSteady = (built : CommandTree → Bool) (old new : State) (script : List Line) (lines : List ReplyLine)
    → RunsLines (loosely (exactly built)) old script lines new → IsSteady old → IsSteady new

-- Between two lines no command is at work, and every open cursor has a name.
pub record IsBetweenLines (s : State) : Type 0 where
  pub idle : s.task ≡ None
  pub all_named : cursor_named s.cursors None ≡ None

abbrev pub LinesEndAtRest : Type 0
LinesEndAtRest = (built : CommandTree → Bool) (old new : State) (script : List Line) (lines : List ReplyLine)
    → RunsLines (exactly built) old script lines new → IsBetweenLines old → IsBetweenLines new

-- ---- a command at work can always finish, and no device need fail for that

abbrev pub NoFault : List ReplyLine → Type 0
NoFault lines = (f : File) → fault_lines f lines ≡ 0

pub record CanFinish (m : Manner) (s : State) : Type 0 where
  pub lines : List ReplyLine
  pub last : State
  pub finishes : Finishes m s lines last
  pub no_fault : NoFault lines

abbrev pub CanAlwaysFinish : Type 0
CanAlwaysFinish = (built : CommandTree → Bool) (s : State) → IsSteady s → CanFinish (exactly built) s

-- So what a run says that stops in the midst of a line is a front of what a whole run says.
pub record GoesOn (m : Manner) (old : State) (script : List Line) (lines : List ReplyLine) : Type 0 where
  pub more : List ReplyLine
  pub last : State
  pub runs : RunsLines m old script (lines ++ more) last
  pub no_fault : NoFault more

abbrev pub StoppedRunsAreFronts : Type 0
StoppedRunsAreFronts = (built : CommandTree → Bool) (old new : State) (script : List Line) (lines : List ReplyLine)
    → StopsIn (exactly built) old script lines new → IsSteady old → GoesOn (exactly built) old script lines

-- and the same over devices that do not tell
abbrev pub CanAlwaysFinishLoosely : Type 0
CanAlwaysFinishLoosely = (built : CommandTree → Bool) (s : State) → IsSteady s → CanFinish (loosely (exactly built)) s

abbrev pub LooseStoppedRunsAreFronts : Type 0
LooseStoppedRunsAreFronts = (built : CommandTree → Bool) (old new : State) (script : List Line) (lines : List ReplyLine)
    → StopsIn (loosely (exactly built)) old script lines new → IsSteady old → GoesOn (loosely (exactly built)) old script lines

-- ---- completeness

-- the needs of a line, as a function of the state and its command
abbrev pub need_of : State → CommandTree → List ℕ → PageNeed
need_of s c texts = needs_of (versions_of s) (tables_of s) s.indexes texts c

pub record NeedFits (s : State) (need : PageNeed) : Type 0 where
  pub main : s.used + need.main ≤ s.main_limit
  pub temp : temp_taken s + need.temp ≤ s.temp_limit

-- whatever command a line asks for, the pages that it needs at most fit the two files
abbrev pub LineFits : State → Line → Type 0
LineFits s line = (c : CommandTree) (texts : List ℕ) → ReadsLine s.max line (ReadAs (Statement c texts)) → NeedFits s (need_of s c texts)

-- a line whose needs fit the files never says that one of them is full
abbrev pub NeverFull : List ReplyLine → Type 0
NeverFull lines = (f : File) → full_lines f lines ≡ 0

abbrev pub FittingLinesNeverFill : Type 0
FittingLinesNeverFill = (built : CommandTree → Bool) (old new : State) (line : Line) (lines : List ReplyLine)
    → RunsLine (exactly built) old line lines new → IsBetweenLines old → LineFits old line → NeverFull lines

-- A whole line raises the counts of pages taken and of pages left behind by no more than it needs at most,
-- and neither passes the limit of its file where it did not before.
pub record RaisesAtMost (most : PageNeed) (old new : State) : Type 0 where
  pub main : new.used ≤ old.used + most.main
  pub temp : new.over ≤ old.over + most.temp
  pub main_fits : old.used ≤ old.main_limit → new.used ≤ new.main_limit
  pub temp_fits : old.over ≤ old.temp_limit → new.over ≤ new.temp_limit

abbrev pub NeedsAtMost : PageNeed → PageNeed → Type 0
NeedsAtMost most need = (need.main ≤ most.main) × (need.temp ≤ most.temp)

-- whatever command a line asks for, it needs at most so many pages
abbrev pub LineNeeds : PageNeed → State → Line → Type 0
LineNeeds most s line = (c : CommandTree) (texts : List ℕ) → ReadsLine s.max line (ReadAs (Statement c texts)) → NeedsAtMost most (need_of s c texts)

abbrev pub LinesRaiseAtMostTheirNeed : Type 0
LinesRaiseAtMostTheirNeed = (built : CommandTree → Bool) (old new : State) (line : Line) (lines : List ReplyLine) (most : PageNeed)
    → RunsLine (exactly built) old line lines new → LineNeeds most old line → RaisesAtMost most old new

-- no turn ends with the limit error where the ceiling is at least the floor of the cursor at the front,
-- whatever those of the others are
abbrev pub FloorFits : State → Type 0
FloorFits s = (name : CursorName) (others : List CursorName) (c : CursorState) → s.round ≡ name ∷ others → cursor_named s.cursors name ≡ Some c
    → c.floor ≤ ceiling s

abbrev pub FloorsPreventTheLimit : Type 0
FloorsPreventTheLimit = (old new : State) (lines : List ReplyLine) → Turn old lines new → FloorFits old → code_lines 16 lines ≡ 0

-- ---- over devices that do not tell, the machine's own steps are among those that may come

abbrev pub RunsAreLooseRuns : Type 0
RunsAreLooseRuns = (built : CommandTree → Bool) (old new : State) (script : List Line) (lines : List ReplyLine)
    → RunsLines (exactly built) old script lines new → RunsLines (loosely (exactly built)) old script lines new
