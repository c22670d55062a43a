-- CREATE TABLE. SQL-92, sections 11.3 and 11.7. Each key has an index, for which it takes a main page; it
-- calls no device where it has no key.
use Rattle.std.specs.Prelude.{◌≡◌, ℕ, ◌<◌, false, List, [], ◌∷◌, ◌++◌, Option, None, Some}
use Rattle.std.specs.List.{count_by}
use Rattle.hg_machine.specs.Plain.Licences.{Licensed, main_alone, Allowance, Spends}
use Rattle.hg_machine.specs.Plain.Refused.{refusal_line}
use Rattle.hg_machine.specs.Plain.Replies.{ReplyLine, created}
use Rattle.hg_machine.specs.Plain.State.{State, TableState, tables_of}
use Rattle.hg_model.specs.CommandNeeds.{PageNeed, needs}
use Rattle.hg_model.specs.Creation.{created_table, created_indexes, create_table_refusal, is_key}
use Rattle.hg_model.specs.Needs.{main_need_of_table}
use Rattle.hg_model.specs.Refusal.{Refusal}
use Rattle.hg_model.specs.Statements.{TableTree}

abbrev pub keys_of : TableTree → ℕ
keys_of t = count_by is_key t.columns

abbrev pub table_need : TableTree → PageNeed
table_need t = needs (main_need_of_table (keys_of t)) 0

abbrev pub table_allowance : TableTree → Allowance
table_allowance t = record { main = (table_need t).main; temp = 0; versions = 0; stamps = 0; lowers = false }

-- the state with one more table, which has no row, and with its indexes
abbrev pub new_table : TableTree → TableState
new_table t = record { table = created_table t; versions = 0 }

abbrev pub with_table : State → TableTree → State
with_table s t = record s { tables = s.tables ++ new_table t ∷ []; indexes = s.indexes ++ created_indexes t }

pub data CreatesTable (old : State) (t : TableTree) (lines : List ReplyLine) (new : State) : Type 0 where
  refused : (r : Refusal) → create_table_refusal (tables_of old) old.indexes t ≡ Some r → lines ≡ refusal_line r ∷ [] → new ≡ old
      → CreatesTable old t lines new
  made : create_table_refusal (tables_of old) old.indexes t ≡ None → lines ≡ created ∷ []
      → Spends (table_allowance t) t.name (with_table old t) new → CreatesTable old t lines new
  failed : (line : ReplyLine) → create_table_refusal (tables_of old) old.indexes t ≡ None → 0 < keys_of t
      → Licensed old main_alone (table_need t) line → lines ≡ line ∷ [] → Spends (table_allowance t) t.name old new
      → CreatesTable old t lines new
