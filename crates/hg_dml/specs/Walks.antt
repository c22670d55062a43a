-- What a walk along a table, which changes the rows that go, has done when it ends. Our own rule.
use Rattle.std.specs.Prelude.{◌≡◌, ℕ, ◌≤◌, Bool, false, List, length}
use Rattle.std.specs.List.{filter, count_by}
use Rattle.hg_base.specs.Space.{Space}
use Rattle.hg_base.specs.declared.Table.{Table}
use Rattle.hg_model.specs.declared.trees.Column.{Column}
use Rattle.hg_model.specs.declared.values.Value.{Value}
use Rattle.hg_table.specs.Agreement.{IsTableOver}
use Rattle.hg_table.specs.Versions.{Placed}
use Rattle.hg_dml.specs.Deleting.{IsHidden, IsDeleted}
use Rattle.hg_table.specs.Seen.{seen_rows}

-- All versions were looked at. Where no cause was known, all rows that go were deleted.
pub record HasEnded (b : Space) (t : Table) (columns : List Column) (c : ℕ → Bool) (s stamp : ℕ) (goes : List Value → Bool) (known : Bool) (pages : List ℕ) (versions : List Placed) (gone : List (List Value)) : Type 0 where
  pub now : List Placed
  pub table : IsTableOver b t columns pages now
  pub hidden : IsHidden c s stamp versions now
  pub concerned : gone ≡ filter goes (seen_rows c s versions)
  pub deleted : known ≡ false → IsDeleted c s stamp goes versions now (length gone)

-- It stopped on the way. `gone` are some of the rows that go.
pub record HasStopped (b : Space) (t : Table) (columns : List Column) (c : ℕ → Bool) (s stamp : ℕ) (goes : List Value → Bool) (pages : List ℕ) (versions : List Placed) (gone : List (List Value)) : Type 0 where
  pub now : List Placed
  pub table : IsTableOver b t columns pages now
  pub hidden : IsHidden c s stamp versions now
  pub few : length gone ≤ count_by goes (seen_rows c s versions)
