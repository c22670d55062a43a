-- CREATE INDEX. Our own rule. A device or a full file may forestall that two rows break the index.
use Rattle.std.specs.Prelude.{◌≡◌, ℕ, false, List, [], ◌∷◌, ◌++◌, Option, None, Some, ◌⊎◌}
use Rattle.hg_machine.specs.Plain.Licences.{Licensed, both_files, Allowance, Spends}
use Rattle.hg_machine.specs.Plain.Refused.{refusal_line}
use Rattle.hg_machine.specs.Plain.Replies.{ReplyLine, created}
use Rattle.hg_machine.specs.Plain.State.{State, tables_of, versions_of}
use Rattle.hg_model.specs.CommandNeeds.{PageNeed, indexing_need, index_count}
use Rattle.hg_model.specs.Creation.{created_index, create_index_refusal}
use Rattle.hg_model.specs.Refusal.{Refusal, DuplicateKey}
use Rattle.hg_model.specs.Statements.{IndexTree}
use Rattle.hg_model.specs.Tables.{Table, table_named}

abbrev pub index_need : State → IndexTree → PageNeed
index_need s i = indexing_need (versions_of s i.table) (index_count s.indexes i.table)

abbrev pub index_allowance : State → IndexTree → ℕ → Allowance
index_allowance s i temp = record { main = (index_need s i).main; temp = temp; versions = 0; stamps = 0; lowers = false }

abbrev pub with_index : State → Table → IndexTree → State
with_index s table i = record s { indexes = s.indexes ++ created_index table i ∷ [] }

pub data CreatesIndex (old : State) (i : IndexTree) (lines : List ReplyLine) (new : State) : Type 0 where
  refused : (r : Refusal) → create_index_refusal (tables_of old) old.indexes i ≡ Some r → lines ≡ refusal_line r ∷ [] → new ≡ old
      → CreatesIndex old i lines new
  made : (table : Table) → create_index_refusal (tables_of old) old.indexes i ≡ None → table_named (tables_of old) i.table ≡ Some table
      → lines ≡ created ∷ [] → Spends (index_allowance old i 0) i.table (with_index old table i) new → CreatesIndex old i lines new
  failed : (line : ReplyLine)
      → (create_index_refusal (tables_of old) old.indexes i ≡ None) ⊎ (create_index_refusal (tables_of old) old.indexes i ≡ Some DuplicateKey)
      → Licensed old both_files (index_need old i) line → lines ≡ line ∷ []
      → Spends (index_allowance old i (index_need old i).temp) i.table old new → CreatesIndex old i lines new
