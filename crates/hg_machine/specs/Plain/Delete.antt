-- DELETE. SQL-92, section 13.7. It takes no main page and adds no version.
use Rattle.std.specs.Prelude.{ℕ, List}
use Rattle.hg_machine.specs.Plain.Changes.{OneChange, ChangesRows}
use Rattle.hg_machine.specs.Plain.Licences.{temp_alone}
use Rattle.hg_machine.specs.Plain.Replies.{ReplyLine}
use Rattle.hg_machine.specs.Plain.State.{State, tables_of}
use Rattle.hg_model.specs.ChangeMeaning.{delete_cause, delete_meaning, delete_count}
use Rattle.hg_model.specs.CommandNeeds.{removing_need, index_count}
use Rattle.hg_model.specs.Statements.{DeleteTree}

unfoldable pub deletion : State → List ℕ → DeleteTree → OneChange
deletion s texts d = record {
  table = d.table;
  cause = delete_cause s.stamps (tables_of s) d;
  change = delete_meaning s.stamps (tables_of s) texts d;
  asks = temp_alone;
  need = removing_need (delete_count (tables_of s) texts d) (index_count s.indexes d.table);
  versions = 0;
}

abbrev pub Deletes : State → List ℕ → DeleteTree → List ReplyLine → State → Type 0
Deletes old texts d lines new = ChangesRows old (deletion old texts d) lines new
