-- UPDATE. SQL-92, section 13.10. Each row that it changes may leave its old version behind.
use Rattle.std.specs.Prelude.{ℕ, List}
use Rattle.hg_machine.specs.Plain.Changes.{OneChange, ChangesRows}
use Rattle.hg_machine.specs.Plain.Licences.{both_files}
use Rattle.hg_machine.specs.Plain.Replies.{ReplyLine}
use Rattle.hg_machine.specs.Plain.State.{State, tables_of}
use Rattle.hg_model.specs.ChangeMeaning.{update_cause, update_meaning, update_count}
use Rattle.hg_model.specs.CommandNeeds.{storing_need, index_count}
use Rattle.hg_model.specs.Statements.{UpdateTree}

unfoldable pub updating : State → List ℕ → UpdateTree → OneChange
updating s texts u = record {
  table = u.table;
  cause = update_cause s.stamps (tables_of s) u;
  change = update_meaning s.stamps (tables_of s) s.indexes texts u;
  asks = both_files;
  need = storing_need (update_count (tables_of s) texts u) (index_count s.indexes u.table);
  versions = update_count (tables_of s) texts u;
}

abbrev pub Updates : State → List ℕ → UpdateTree → List ReplyLine → State → Type 0
Updates old texts u lines new = ChangesRows old (updating old texts u) lines new
