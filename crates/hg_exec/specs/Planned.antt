-- A SELECT that was read, bound and planned: loops run over it, and give what it means. Our own rule.
use Rattle.std.specs.Prelude.{◌≡◌, ℕ, ◌<◌, ◌≤◌, false, List, [], length, map, IsTrue, slice_get, Some}
use Rattle.std.specs.List.{AllByRecursion, list_all}
use Rattle.std.specs.List.Sorted.{IsPermutation}
use Rattle.hg_bind.specs.Bound.{tables_of}
use Rattle.hg_bind.specs.BoundMeaning.{KeysStandApart, bare}
use Rattle.hg_bind.specs.BoundSelect.{IsBoundSelect}
use Rattle.hg_catalog.specs.Contents.{CatalogTable, Contents, IsSound}
use Rattle.hg_model.specs.Order.{Pair}
use Rattle.hg_model.specs.Query.{Query}
use Rattle.hg_model.specs.SelectMeaning.{is_grouped, meaning}
use Rattle.hg_model.specs.Tables.{Table, fits_columns}
use Rattle.hg_model.specs.Width.{is_tree, text_fits}
use Rattle.hg_model.specs.declared.values.Value.{Value}
use Rattle.hg_plan.specs.Planning.{IsPlanOf}
use Rattle.hg_plan.specs.declared.plan.Plan.{Plan}
use Rattle.hg_plan.specs.declared.plan.TableLoop.{TableLoop}
use Rattle.hg_exec.specs.Joins.{Form, TableRows, rows_from}
use Rattle.hg_exec.specs.Standing.{entry, IsForm}

-- A SELECT without groups, DISTINCT and ORDER BY, as the binder and the plan leave it over the tables of a catalog.
pub record IsReady (c : Contents) (q bound : Query) (texts numbers : List ℕ) (places : List (ℕ × ℕ)) (p : Plan) : Type 0 where
  pub bound_is : IsBoundSelect (tables_of c) q bound numbers places
  pub apart : KeysStandApart q
  pub tree : IsTrue (is_tree q.nodes)
  pub texts_fit : IsTrue (list_all (text_fits texts) q.nodes)
  pub some : 1 ≤ length q.tables
  pub few : length q.tables ≤ 4
  pub few_outputs : length q.outputs ≤ 16
  pub ungrouped : is_grouped q ≡ false
  pub all_rows : q.distinct ≡ false
  pub unordered : q.order ≡ []
  pub plan_is : IsPlanOf bound numbers places p

-- what it is made of
abbrev pub form_with : Query → List ℕ → Plan → Form
form_with bound texts p = record { nodes = bound.nodes; texts = texts; slots = p.slots.items; outputs = bound.outputs }

-- the table of a loop is there, and has the named columns
pub record IsLoopOver (tables : List CatalogTable) (l : TableLoop) : Type 0 where
  pub inside : l.table < length tables
  pub columns : AllByRecursion (λ k. k < length (entry tables l.table).columns) l.columns.items

-- loops may run over it
pub record MayRun (tables : List CatalogTable) (f : Form) (loops : List TableLoop) : Type 0 where
  pub form : IsForm tables f loops
  pub over : AllByRecursion (IsLoopOver tables) loops
  pub some : 0 < length loops

abbrev pub ReadyMayRun : Type 0
ReadyMayRun = (c : Contents) (q bound : Query) (texts numbers : List ℕ) (places : List (ℕ × ℕ)) (p : Plan) → IsSound c
    → IsReady c q bound texts numbers places p → MayRun c.tables (form_with bound texts p) p.loops.items

-- the rows of these tables are those, each in any order, and fit
pub record HoldRows (seen stored : List Table) (rows : TableRows) : Type 0 where
  pub bare_are : map bare stored ≡ map bare seen
  pub each : (k : ℕ) (t : Table) → slice_get stored k ≡ Some t → IsPermutation t.rows (rows k)
  pub fit : (k : ℕ) (t : Table) → slice_get stored k ≡ Some t → IsTrue (list_all (fits_columns t.columns) (rows k))

-- a row of an answer without keys
abbrev pub keyless : List Value → Pair
keyless row = record { row = row; keys = [] }

-- The loops give what the SELECT means, in some order, over tables with these rows in any order.
abbrev pub ReadyMeansTheSame : Type 0
ReadyMeansTheSame = (c : Contents) (q bound : Query) (texts numbers : List ℕ) (places : List (ℕ × ℕ)) (p : Plan) (stored : List Table) (rows : TableRows)
    → IsSound c → IsReady c q bound texts numbers places p → HoldRows (tables_of c) stored rows
    → IsPermutation (meaning q texts stored) (map keyless (rows_from (form_with bound texts p) rows p.loops.items []))
