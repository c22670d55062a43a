-- The SELECT at work: what it is made of, and how its loops begin. Our own rule.
use Rattle.std.specs.Prelude.{◌≡◌, ℕ, ◌<◌, Bool, true, List, [], length}
use Rattle.std.specs.List.{AllByRecursion}
use Rattle.hg_base.specs.Space.{Space}
use Rattle.hg_catalog.specs.Contents.{CatalogTable}
use Rattle.hg_exec.specs.Beginning.{IsShown}
use Rattle.hg_exec.specs.Joins.{Form, TableRows, rows_from}
use Rattle.hg_exec.specs.Planned.{form_with}
use Rattle.hg_exec.specs.Standing.{IsAtWork, IsForm, LoopStands, Owes}
use Rattle.hg_exec.specs.declared.loops.Loops.{Loops}
use Rattle.hg_model.specs.Query.{query_of}
use Rattle.hg_plan.specs.declared.plan.TableLoop.{TableLoop}
use Rattle.hg_table.specs.Marks.{committed}
use Rattle.hg_engine.specs.declared.open.OpenSelect.{OpenSelect}

abbrev pub form_of_work : OpenSelect → Form
form_of_work w = form_with (query_of w.select) w.texts.bytes w.plan

-- all rows are left that loops have over their tables, as a snapshot sees these; and the loops are at work
abbrev pub BeginsOwed : Space → ℕ → Loops → Type 0
BeginsOwed s n x = (marks : List Bool) (tables : List CatalogTable) (pages : ℕ → List ℕ) (f : Form) (loops : List TableLoop) (rows : TableRows) → 0 < length loops
    → AllByRecursion (λ (l : TableLoop). IsShown s (committed marks) n tables pages l.table (rows l.table)) loops
    → Owes s marks tables pages f loops x (rows_from f rows loops [])

abbrev pub BeginsWork : Space → ℕ → Loops → Type 0
BeginsWork s n x = (marks : List Bool) (tables : List CatalogTable) (pages : ℕ → List ℕ) (f : Form) (loops : List TableLoop) → IsForm tables f loops
    → AllByRecursion (LoopStands s tables pages) loops → 0 < length loops
    → (s.told ≡ true → (rows : TableRows) × AllByRecursion (λ (l : TableLoop). IsShown s (committed marks) n tables pages l.table (rows l.table)) loops)
    → IsAtWork s marks tables pages f loops x
