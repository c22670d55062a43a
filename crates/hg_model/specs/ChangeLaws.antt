-- Laws of changes.
use Rattle.std.specs.Prelude.{◌≡◌, ℕ, List}
use Rattle.hg_model.specs.ChangeMeaning.{insert_meaning, update_meaning, delete_meaning, vacuum_meaning, tables_after, insert_count, update_count, delete_count}
use Rattle.hg_model.specs.Changes.{Made}
use Rattle.hg_model.specs.Creation.{Index}
use Rattle.hg_model.specs.Statements.{InsertTree, UpdateTree, DeleteTree}
use Rattle.hg_model.specs.Tables.{Table}
use Rattle.hg_model.specs.declared.values.Value.{Value}

-- a change that is made says how many rows it inserts, changes or deletes
abbrev pub InsertsCounted : Type 0
InsertsCounted = (given n : ℕ) (tables : List Table) (indexes : List Index) (texts : List ℕ) (i : InsertTree) (rows : List (List Value))
    → insert_meaning given tables indexes texts i ≡ Made rows n → n ≡ insert_count i

abbrev pub UpdatesCounted : Type 0
UpdatesCounted = (given n : ℕ) (tables : List Table) (indexes : List Index) (texts : List ℕ) (u : UpdateTree) (rows : List (List Value))
    → update_meaning given tables indexes texts u ≡ Made rows n → n ≡ update_count tables texts u

abbrev pub DeletesCounted : Type 0
DeletesCounted = (given n : ℕ) (tables : List Table) (texts : List ℕ) (d : DeleteTree) (rows : List (List Value))
    → delete_meaning given tables texts d ≡ Made rows n → n ≡ delete_count tables texts d

-- VACUUM changes no table's rows
abbrev pub VacuumKeepsTables : Type 0
VacuumKeepsTables = (tables : List Table) (name : List ℕ) → tables_after tables name (vacuum_meaning tables name) ≡ tables
