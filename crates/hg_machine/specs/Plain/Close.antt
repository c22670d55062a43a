-- CLOSE. SQL-92, section 13.4. It is allowed whether the cursor is idle, waiting or active.
use Rattle.std.specs.Prelude.{◌≡◌, ℕ, true, false, List, [], ◌∷◌, Option, Some}
use Rattle.hg_machine.specs.Plain.Refused.{unknown_cursor}
use Rattle.hg_machine.specs.Plain.Replies.{ReplyLine, closed}
use Rattle.hg_machine.specs.Plain.Rounds.{closes}
use Rattle.hg_machine.specs.Plain.State.{State, is_open}

pub data ClosesCursor (old : State) (name : List ℕ) (lines : List ReplyLine) (new : State) : Type 0 where
  unknown : is_open old (Some name) ≡ false → lines ≡ unknown_cursor name ∷ [] → new ≡ old → ClosesCursor old name lines new
  made : is_open old (Some name) ≡ true → lines ≡ closed (Some name) ∷ [] → new ≡ closes old (Some name) → ClosesCursor old name lines new
