-- INSERT. SQL-92, section 13.8.
use Rattle.std.specs.Prelude.{ℕ, List}
use Rattle.hg_machine.specs.Plain.Changes.{OneChange, ChangesRows}
use Rattle.hg_machine.specs.Plain.Licences.{both_files}
use Rattle.hg_machine.specs.Plain.Replies.{ReplyLine}
use Rattle.hg_machine.specs.Plain.State.{State, tables_of}
use Rattle.hg_model.specs.ChangeMeaning.{insert_cause, insert_meaning, insert_count}
use Rattle.hg_model.specs.CommandNeeds.{storing_need, index_count}
use Rattle.hg_model.specs.Statements.{InsertTree}

unfoldable pub insertion : State → List ℕ → InsertTree → OneChange
insertion s texts i = record {
  table = i.table;
  cause = insert_cause s.stamps (tables_of s) i;
  change = insert_meaning s.stamps (tables_of s) s.indexes texts i;
  asks = both_files;
  need = storing_need (insert_count i) (index_count s.indexes i.table);
  versions = insert_count i;
}

abbrev pub Inserts : State → List ℕ → InsertTree → List ReplyLine → State → Type 0
Inserts old texts i lines new = ChangesRows old (insertion old texts i) lines new
