-- START. Our own rule: it asks for so many rows of an idle cursor, which joins the round or waits.
use Rattle.std.specs.Prelude.{◌≡◌, ℕ, true, false, List, [], ◌∷◌, Option, None, Some}
use Rattle.hg_machine.specs.Plain.Refused.{unknown_cursor, cursor_busy}
use Rattle.hg_machine.specs.Plain.Replies.{ReplyLine, started}
use Rattle.hg_machine.specs.Plain.Rounds.{is_started, starts}
use Rattle.hg_machine.specs.Plain.State.{State, CursorState, cursor_named}

-- the causes against START and FETCH
pub data Refuses (s : State) (name : List ℕ) (lines : List ReplyLine) : Type 0 where
  unknown : cursor_named s.cursors (Some name) ≡ None → lines ≡ unknown_cursor name ∷ [] → Refuses s name lines
  busy : (c : CursorState) → cursor_named s.cursors (Some name) ≡ Some c → is_started s (Some name) ≡ true → lines ≡ cursor_busy name ∷ []
      → Refuses s name lines

-- an idle cursor of that name is open
pub record IsIdle (s : State) (name : List ℕ) (c : CursorState) : Type 0 where
  pub is_there : cursor_named s.cursors (Some name) ≡ Some c
  pub rests : is_started s (Some name) ≡ false

pub data Starts (old : State) (name : List ℕ) (n : ℕ) (lines : List ReplyLine) (new : State) : Type 0 where
  refused : Refuses old name lines → new ≡ old → Starts old name n lines new
  made : (c : CursorState) → IsIdle old name c → lines ≡ started name ∷ [] → new ≡ starts old (Some name) c (Some n) → Starts old name n lines new
