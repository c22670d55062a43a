-- What a turn leaves to each cursor: a row that was given is taken from what was left to its cursor, and
-- nothing else is taken from anybody.
use Rattle.std.specs.Prelude.{◌≡◌, ℕ, Bool, true, false, List, [], ◌∷◌, ◌++◌, Option, Some, ◌⊎◌, if◌then◌else◌}
use Rattle.std.specs.List.{Contains, flat_map, list_any}
use Rattle.hg_machine.specs.Plain.Replies.{ReplyLine, CursorName, row, ended}
use Rattle.hg_machine.specs.Plain.Run.{exactly, GivesTurns, lines_of_turns}
use Rattle.hg_machine.specs.Plain.State.{State, CursorState, same_cursor, cursor_named}
use Rattle.hg_machine.specs.Plain.Turn.{Turn}
use Rattle.hg_model.specs.Bag.{TakesOne}
use Rattle.hg_model.specs.Order.{Pair, MayComeNext, IsAnswer}
use Rattle.hg_model.specs.Statements.{CommandTree}
use Rattle.hg_model.specs.declared.values.Value.{Value}

-- a pair that might come next was given under that name, and the others are left to its cursor
pub record TookOne (name : CursorName) (before now : CursorState) (lines : List ReplyLine) : Type 0 where
  pub pair : Pair
  pub may : MayComeNext pair before.left
  pub took : TakesOne before.left pair now.left
  pub said : Contains lines (row name pair.row)

-- of a cursor that is open before and behind a turn
abbrev pub TurnsTakeWhatTheyGive : Type 0
TurnsTakeWhatTheyGive = (old new : State) (lines : List ReplyLine) → Turn old lines new → (name : CursorName) (before now : CursorState)
    → cursor_named old.cursors name ≡ Some before → cursor_named new.cursors name ≡ Some now
    → (now.left ≡ before.left) ⊎ TookOne name before now lines

-- the rows that lines give under a name, in their order
abbrev pub row_under : CursorName → ReplyLine → List (List Value)
row_under name (row cursor values) = if same_cursor name cursor then values ∷ [] else []
row_under name _ = []

unfoldable pub rows_under : CursorName → List ReplyLine → List (List Value)
rows_under name lines = flat_map (row_under name) lines

-- Of a cursor that is open before some turns and behind them: the rows that it gave in them, with any answer
-- of what is left behind them, are an answer of what was left before. So what a cursor gives up to its end
-- is an answer of its SELECT over the tables as they stood when it was opened.
abbrev pub TurnsGiveAnswers : Type 0
TurnsGiveAnswers = (built : CommandTree → Bool) (old new : State) (turns : List (List ReplyLine)) → GivesTurns (exactly built) old turns new
    → (name : CursorName) (before now : CursorState) → cursor_named old.cursors name ≡ Some before → cursor_named new.cursors name ≡ Some now
    → (more : List (List Value)) → IsAnswer now.left more → IsAnswer before.left (rows_under name (lines_of_turns turns) ++ more)

-- the end of that cursor was said
abbrev pub is_end_of : CursorName → ReplyLine → Bool
is_end_of name (ended cursor) = same_cursor name cursor
is_end_of name _ = false

unfoldable pub says_end : CursorName → List ReplyLine → Bool
says_end name lines = list_any (is_end_of name) lines

-- Where its end was said in these turns, the rows that it gave in them are an answer, whole.
abbrev pub EndedTurnsGiveAnswers : Type 0
EndedTurnsGiveAnswers = (built : CommandTree → Bool) (old new : State) (turns : List (List ReplyLine)) → GivesTurns (exactly built) old turns new
    → (name : CursorName) (before now : CursorState) → cursor_named old.cursors name ≡ Some before → cursor_named new.cursors name ≡ Some now
    → says_end name (lines_of_turns turns) ≡ true → IsAnswer before.left (rows_under name (lines_of_turns turns))
