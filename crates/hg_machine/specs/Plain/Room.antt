-- What a step may print at most: it fits the 16,384 bytes of a reply. Our own rule.
use Rattle.std.specs.Prelude.{ℕ, ◌*◌, ◌+◌, ◌≤◌, ◌<◌, ◌^◌, List, [], length, nat_abs}
use Rattle.std.specs.List.{AllByRecursion}
use Rattle.hg_machine.specs.Plain.Replies.{ReplyLine, shown, row_text, text_of}
use Rattle.hg_machine.specs.Plain.ShowMemory.{memory_lines}
use Rattle.hg_machine.specs.Plain.State.{State, CursorState}
use Rattle.hg_machine.specs.Plain.Turn.{Turn}
use Rattle.hg_model.specs.Changes.{row_length}
use Rattle.hg_model.specs.Order.{Pair}
use Rattle.hg_model.specs.Width.{IsBelow}
use Rattle.hg_model.specs.declared.values.Value.{Value}

-- the bytes of lines
abbrev pub room_of : List ReplyLine → ℕ
room_of lines = length (text_of lines)

abbrev pub FitsReply : List ReplyLine → Type 0
FitsReply lines = room_of lines ≤ 16384

-- A row of at most 64 values and 3,900 coded bytes, with numbers below 2^126 in magnitude, prints as at most
-- 14,400 bytes.
pub record IsWorkingRow (values : List Value) : Type 0 where
  pub few : length values ≤ 64
  pub short : row_length values ≤ 3900
  pub narrow : AllByRecursion (IsBelow 126) values

abbrev pub WorkingRowsPrintShort : Type 0
WorkingRowsPrintShort = (values : List Value) → IsWorkingRow values → length (row_text values) ≤ 14400

-- a cursor with a name of at most 30 letters, whose rows that are left are working rows
pub record CursorPrints (c : CursorState) : Type 0 where
  pub name : length (shown c.name) ≤ 30
  pub held : c.held < 2 ^ 32
  pub floor : c.floor ≤ 4
  pub left : AllByRecursion (λ (p : Pair). IsWorkingRow p.row) c.left

pub record Prints (s : State) : Type 0 where
  pub cursors : AllByRecursion CursorPrints s.cursors
  pub few : length s.cursors ≤ 16
  pub round : length s.round < 2 ^ 32
  pub waiting : length s.waiting < 2 ^ 32
  pub max : s.max < 2 ^ 32
  pub current : s.current < 2 ^ 32
  pub mpl : s.mpl < 2 ^ 32

-- SHOW MEMORY with sixteen cursors fits a reply
abbrev pub MemoryFits : Type 0
MemoryFits = (s : State) → Prints s → FitsReply (memory_lines s)

-- and so does each turn
abbrev pub TurnsFit : Type 0
TurnsFit = (old new : State) (lines : List ReplyLine) → Turn old lines new → Prints old → FitsReply lines
