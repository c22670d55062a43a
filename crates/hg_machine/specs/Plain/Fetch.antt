-- FETCH. SQL-92, section 13.3, in part; our own rule: it starts a cursor for so many rows, and gives turns
-- from the front of the round until that cursor is idle again or closed.
use Rattle.std.specs.Prelude.{◌≡◌, ℕ, List, [], Option, Some}
use Rattle.hg_machine.specs.Plain.Replies.{ReplyLine}
use Rattle.hg_machine.specs.Plain.Rounds.{starts}
use Rattle.hg_machine.specs.Plain.Start.{Refuses, IsIdle}
use Rattle.hg_machine.specs.Plain.State.{State, CursorState, Fetches}

abbrev pub with_fetch : State → List ℕ → CursorState → ℕ → State
with_fetch s name c n = record (starts s (Some name) c (Some n)) { task = Some (Fetches (Some name)) }

pub data BeginsFetch (old : State) (name : List ℕ) (n : ℕ) (lines : List ReplyLine) (new : State) : Type 0 where
  refused : Refuses old name lines → new ≡ old → BeginsFetch old name n lines new
  begun : (c : CursorState) → IsIdle old name c → lines ≡ [] → new ≡ with_fetch old name c n → BeginsFetch old name n lines new
