-- VACUUM, which throws away the versions of rows that nobody sees any more. Our own rule: it changes no
-- rows and no open cursor; where no cursor is open, as many versions stay as the table has rows.
use Rattle.std.specs.Prelude.{◌≡◌, ℕ, true, List, [], ◌∷◌, Option, None, Some, length}
use Rattle.hg_machine.specs.Plain.Licences.{Licensed, temp_alone, Allowance, Spends}
use Rattle.hg_machine.specs.Plain.Refused.{refusal_line}
use Rattle.hg_machine.specs.Plain.Replies.{ReplyLine, vacuumed}
use Rattle.hg_machine.specs.Plain.State.{State, CursorState, tables_of, versions_of}
use Rattle.hg_model.specs.ChangeBinding.{table_cause}
use Rattle.hg_model.specs.CommandNeeds.{PageNeed, removing_need, index_count}
use Rattle.hg_model.specs.Refusal.{Refusal}
use Rattle.hg_model.specs.Tables.{Table, table_named}

abbrev pub vacuum_need : State → List ℕ → PageNeed
vacuum_need s name = removing_need (versions_of s name) (index_count s.indexes name)

-- it may lower each count, and raises none but, where it is ended, that of temporary pages
abbrev pub vacuum_allowance : ℕ → ℕ → Allowance
vacuum_allowance temp versions = record { main = 0; temp = temp; versions = versions; stamps = 0; lowers = true }

-- Where no cursor is open, just the versions of its rows stay, however many were counted before; else
-- their count does not rise.
abbrev pub versions_beyond : List CursorState → Table → ℕ
versions_beyond [] table = length table.rows
versions_beyond (c ∷ cs) table = 0

pub data Vacuums (old : State) (name : List ℕ) (lines : List ReplyLine) (new : State) : Type 0 where
  refused : (r : Refusal) → table_cause (tables_of old) name ≡ Some r → lines ≡ refusal_line r ∷ [] → new ≡ old → Vacuums old name lines new
  made : (table : Table) → table_named (tables_of old) name ≡ Some table → lines ≡ vacuumed ∷ [] → Spends (vacuum_allowance 0 (versions_beyond old.cursors table)) name old new
      → (old.cursors ≡ [] → versions_of new name ≡ length table.rows) → Vacuums old name lines new
  failed : (line : ReplyLine) → table_cause (tables_of old) name ≡ None → Licensed old temp_alone (vacuum_need old name) line
      → lines ≡ line ∷ [] → Spends (vacuum_allowance (vacuum_need old name).temp 0) name old new → Vacuums old name lines new
