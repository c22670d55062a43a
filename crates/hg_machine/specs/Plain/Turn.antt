-- A turn of the cursor at the front of the round. Our own rule: it gives one row or the end; or it is
-- refused, and the cursor is closed.
use Rattle.std.specs.Prelude.{◌≡◌, ℕ, suc, ◌≤◌, ◌<◌, true, false, List, [], ◌∷◌, ◌++◌, Option, None, Some, ◌⊎◌, if◌then◌else◌}
use Rattle.hg_machine.specs.Plain.Licences.{Licensed, temp_alone}
use Rattle.hg_machine.specs.Plain.Limits.{ceiling, cap}
use Rattle.hg_machine.specs.Plain.Refused.{too_many_line, limit_reached}
use Rattle.hg_machine.specs.Plain.Replies.{ReplyLine, CursorName, row, done, ended, closed}
use Rattle.hg_machine.specs.Plain.Rounds.{becomes, leaves, closes, wants_more, one_less, has_turns}
use Rattle.hg_machine.specs.Plain.State.{State, CursorState, Task, Works, Fetches, cursor_named}
use Rattle.hg_model.specs.Bag.{TakesOne}
use Rattle.hg_model.specs.CommandNeeds.{needs}
use Rattle.hg_model.specs.Order.{Pair, MayComeNext}
use Rattle.hg_model.specs.declared.trees.Count.TheVariants as count

-- the cursor of that name has the turn: a command has turns to give, and it stands at the front and wants
-- rows
pub record HasTurn (s : State) (name : CursorName) (c : CursorState) (others : List CursorName) : Type 0 where
  pub turns : has_turns s ≡ true
  pub front : s.round ≡ name ∷ others
  pub is_there : cursor_named s.cursors name ≡ Some c
  pub wants : wants_more c.wanted ≡ true

-- what it holds behind a row or an end: no more than before, or no more than the cap
abbrev pub MayHold : State → CursorState → ℕ → Type 0
MayHold s c held = (held ≤ c.held) ⊎ (held ≤ cap s c)

-- one turn more was given
abbrev pub one_more : Option Task → Option Task
one_more None = None
one_more (Some (Works turns given)) = Some (Works turns (suc given))
one_more (Some (Fetches name)) = Some (Fetches name)

abbrev pub counted : State → State
counted s = record s { task = one_more s.task }

-- where it still wants rows it goes to the back of the round, else it leaves it
abbrev pub goes_on : State → CursorName → List CursorName → CursorState → State
goes_on s name others c =
    if wants_more c.wanted
    then record (becomes s name c) { round = others ++ name ∷ [] }
    else leaves (becomes s name c) name

-- behind the last row that was wanted
abbrev pub done_line : CursorName → Option ℕ → List ReplyLine
done_line name wanted = if wants_more wanted then [] else done name ∷ []

pub data Turn (old : State) (lines : List ReplyLine) (new : State) : Type 0 where
  gives_row : (name : CursorName) (c : CursorState) (others : List CursorName) (pair : Pair) (left : List Pair) (held : ℕ)
      → HasTurn old name c others → c.is_too_many ≡ false → MayComeNext pair c.left → TakesOne c.left pair left → MayHold old c held
      → lines ≡ row name pair.row ∷ done_line name (one_less c.wanted)
      → new ≡ counted (goes_on old name others (record c { left = left; wanted = one_less c.wanted; held = held }))
      → Turn old lines new
  ends : (name : CursorName) (c : CursorState) (others : List CursorName) (held : ℕ)
      → HasTurn old name c others → c.is_too_many ≡ false → c.left ≡ [] → MayHold old c held
      → lines ≡ ended name ∷ [] → new ≡ counted (goes_on old name others (record c { wanted = Some 0; held = held }))
      → Turn old lines new
  groups_too_many : (name : CursorName) (c : CursorState) (others : List CursorName)
      → HasTurn old name c others → c.is_too_many ≡ true
      → lines ≡ too_many_line count.RowsGrouped ∷ closed name ∷ [] → new ≡ counted (closes old name) → Turn old lines new
  reaches_limit : (name : CursorName) (c : CursorState) (others : List CursorName) (held : ℕ)
      → HasTurn old name c others → ceiling old ≤ held → held < c.floor → 128 < c.need
      → lines ≡ limit_reached held (ceiling old) ∷ closed name ∷ [] → new ≡ counted (closes old name) → Turn old lines new
  fails : (name : CursorName) (c : CursorState) (others : List CursorName) (line : ReplyLine)
      → HasTurn old name c others → Licensed old temp_alone (needs 0 0) line
      → lines ≡ line ∷ closed name ∷ [] → new ≡ counted (closes old name) → Turn old lines new
