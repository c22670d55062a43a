-- What loops owe as they begin. Our own rule.
use Rattle.std.specs.Prelude.{◌≡◌, ℕ, Bool, List}
use Rattle.hg_base.specs.Space.{Space}
use Rattle.hg_catalog.specs.Contents.{CatalogTable}
use Rattle.hg_table.specs.Seen.{seen_rows}
use Rattle.hg_model.specs.declared.values.Value.{Value}
use Rattle.hg_table.specs.Agreement.{IsTableOver}
use Rattle.hg_table.specs.Versions.{Placed}
use Rattle.hg_exec.specs.Standing.{entry}

-- these are the rows of a table that the snapshot sees, in the order of its versions
pub record IsShown (s : Space) (committed : ℕ → Bool) (snapshot : ℕ) (tables : List CatalogTable) (pages : ℕ → List ℕ) (t : ℕ) (rows : List (List Value)) : Type 0 where
  pub versions : List Placed
  pub table : IsTableOver s (entry tables t).pages (entry tables t).columns (pages t) versions
  pub seen : rows ≡ seen_rows committed snapshot versions
