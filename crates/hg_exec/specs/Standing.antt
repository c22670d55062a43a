-- Where loops stand, and what they owe. Our own rule.
use Rattle.std.specs.Prelude.{◌≡◌, ℕ, zero, suc, ◌<◌, ◌≤◌, Bool, true, List, [], ◌∷◌, ◌++◌, length, take, Option, None, ⊤}
use Rattle.std.specs.List.{AllByRecursion}
use Rattle.hg_base.specs.Space.{Space}
use Rattle.hg_base.specs.declared.Place.{Place}
use Rattle.hg_base.specs.declared.Table.{Table}
use Rattle.hg_catalog.specs.Contents.{CatalogTable}
use Rattle.hg_table.specs.Seen.{seen_rows}
use Rattle.hg_expr.specs.Laws.{AggregatesNameNone, held}
use Rattle.hg_expr.specs.Slots.{slots_of, ArePlaced}
use Rattle.hg_model.specs.Tables.{fits_columns}
use Rattle.hg_model.specs.Width.{IsSound}
use Rattle.hg_model.specs.declared.trees.Column.{Column}
use Rattle.hg_model.specs.declared.trees.Node.{Node}
use Rattle.hg_model.specs.declared.values.Value.{Value}
use Rattle.hg_table.specs.Agreement.{IsTableOver}
use Rattle.hg_table.specs.Calls.{StandsOn}
use Rattle.hg_table.specs.Chains.{IsChain}
use Rattle.hg_table.specs.Marks.{committed}
use Rattle.hg_table.specs.Places.{behind}
use Rattle.hg_table.specs.Versions.{Placed}
use Rattle.hg_value.specs.Coding.{coded}
use Rattle.hg_plan.specs.Planning.{AreNamed}
use Rattle.hg_exec.specs.Joins.{Form, TableRows, output_of, rows_over}
use Rattle.hg_exec.specs.declared.loops.Loops.{Loops}
use Rattle.hg_exec.specs.declared.plan.OpenLoop.{OpenLoop}
use Rattle.hg_plan.specs.declared.plan.TableLoop.{TableLoop}

-- ---- tables

-- the table of a number; one without columns and pages where there is none
abbrev pub entry : List CatalogTable → ℕ → CatalogTable
entry [] k = record { name = []; columns = []; pages = record { first = None; last = None } }
entry (t ∷ ts) zero = t
entry (t ∷ ts) (suc k) = entry ts k

-- What a loop over a table has still to give, where the space tells: the rows of the versions behind its place
-- that the snapshot sees, in their order; the budget is more than their number.
pub record HasLeft (s : Space) (committed : ℕ → Bool) (snapshot : ℕ) (t : Table) (columns : List Column) (pages : List ℕ) (at : Option Place) (budget : ℕ) (left : List (List Value)) : Type 0 where
  pub done : List Placed
  pub rest : List Placed
  pub table : IsTableOver s t columns pages (done ++ rest)
  pub behind : behind pages at (done ++ rest) ≡ rest
  pub few : length left < budget
  pub seen : left ≡ seen_rows committed snapshot rest

abbrev pub LoopHasLeft : Space → (ℕ → Bool) → ℕ → List CatalogTable → (ℕ → List ℕ) → ℕ → Option Place → ℕ → List (List Value) → Type 0
LoopHasLeft s c n tables pages t at budget left = HasLeft s c n (entry tables t).pages (entry tables t).columns (pages t) at budget left

-- ---- what is owed

-- What open loops owe, the first of them the outermost: the innermost one first what its rows that are left
-- give over the row joined before it, then the one around it, and so on.
abbrev pub OwesFrom : Space → (ℕ → Bool) → ℕ → List CatalogTable → (ℕ → List ℕ) → Form → TableRows → List Value → List TableLoop → List OpenLoop → List (List Value) → Type 0
OwesFrom s c n tables pages f rows joined ls [] left = left ≡ []
OwesFrom s c n tables pages f rows joined [] (o ∷ os) left = ⊥
OwesFrom s c n tables pages f rows joined (l ∷ ls) (o ∷ os) left =
    (rest : List (List Value)) × (inner : List (List Value)) × LoopHasLeft s c n tables pages l.table o.at o.budget rest
    × OwesFrom s c n tables pages f rows joined ls os inner × (left ≡ inner ++ rows_over f rows l ls (take o.start joined) rest)

-- The rows that loops have still to give, in this order, over a space that tells. `rows` are the rows of each
-- table that the snapshot sees.
pub record Owes (s : Space) (marks : List Bool) (tables : List CatalogTable) (pages : ℕ → List ℕ) (f : Form) (loops : List TableLoop) (x : Loops) (left : List (List Value)) : Type 0 where
  pub rows : TableRows
  pub shown : AllByRecursion (λ (l : TableLoop). LoopHasLeft s (committed marks) x.snapshot.0 tables pages l.table None x.most (rows l.table)) loops
  pub owed : OwesFrom s (committed marks) x.snapshot.0 tables pages f rows x.joined loops x.opened.items left

-- ---- what holds over every space

-- these rows are of the tables of the first loops, and each fits its columns
abbrev pub AreRowsOf : List CatalogTable → List TableLoop → List (List Value) → Type 0
AreRowsOf tables ls [] = ⊤
AreRowsOf tables [] (row ∷ rows) = ⊥
AreRowsOf tables (l ∷ ls) (row ∷ rows) = (fits_columns (entry tables l.table).columns row ≡ true) × AreRowsOf tables ls rows

-- a row has room for these values
pub record HasRoom (vs : List Value) : Type 0 where
  pub places : length vs ≤ 64
  pub bytes : length (coded vs) ≤ 3900

-- A statement may be evaluated over joined rows of these tables, and they and the output have room in a row.
-- Of a bound SELECT without aggregates all of it holds.
pub record IsForm (tables : List CatalogTable) (f : Form) (loops : List TableLoop) : Type 0 where
  pub places : List (ℕ × ℕ)
  pub sound : IsSound f.texts f.nodes
  pub placed : ArePlaced f.nodes places
  pub aggregates : AggregatesNameNone f.nodes places
  pub slots : f.slots ≡ slots_of f.nodes places
  pub few : length loops ≤ 4
  pub named : AreNamed f.nodes places 0 loops
  pub room : (rows : List (List Value)) → AreRowsOf tables loops rows → HasRoom (held f.nodes places rows)
  pub out : (rows : List (List Value)) → AreRowsOf tables loops rows → length rows ≡ length loops → HasRoom (output_of f (held f.nodes places rows))

-- the table of a loop is there, its pages are these, and it has the named columns
pub record LoopStands (s : Space) (tables : List CatalogTable) (pages : ℕ → List ℕ) (l : TableLoop) : Type 0 where
  pub inside : l.table < length tables
  pub chain : IsChain s (entry tables l.table).pages (pages l.table)
  pub columns : AllByRecursion (λ k. k < length (entry tables l.table).columns) l.columns.items

-- these values are the named columns of one row of each of the first k tables
pub record IsJoined (tables : List CatalogTable) (nodes : List Node) (places : List (ℕ × ℕ)) (loops : List TableLoop) (k : ℕ) (vs : List Value) : Type 0 where
  pub rows : List (List Value)
  pub count : length rows ≡ k
  pub fit : AreRowsOf tables loops rows
  pub is : vs ≡ held nodes places rows

-- the k-th loop is open: it stands on a page of its table, a budget is left, and the joined row has the values
-- of the tables before it
pub record IsOpen (tables : List CatalogTable) (pages : ℕ → List ℕ) (nodes : List Node) (places : List (ℕ × ℕ)) (loops : List TableLoop) (joined : List Value) (k : ℕ) (l : TableLoop) (o : OpenLoop) : Type 0 where
  pub on : StandsOn (pages l.table) o.at
  pub more : 0 < o.budget
  pub within : o.start ≤ length joined
  pub joined_before : IsJoined tables nodes places loops k (take o.start joined)

-- each open loop with the loop that it is of, counted from k
abbrev pub Each : (ℕ → TableLoop → OpenLoop → Type 0) → ℕ → List TableLoop → List OpenLoop → Type 0
Each P k ls [] = ⊤
Each P k [] (o ∷ os) = ⊥
Each P k (l ∷ ls) (o ∷ os) = P k l o × Each P (suc k) ls os

-- inner loops begin behind outer ones
abbrev pub Ascend : List OpenLoop → Type 0
Ascend [] = ⊤
Ascend (o ∷ os) = AllByRecursion (λ (p : OpenLoop). o.start ≤ p.start) os × Ascend os

-- What a turn asks: the statement may be evaluated, its tables are there, and the open loops stand on them;
-- where the space tells, they owe some rows.
pub record IsAtWork (s : Space) (marks : List Bool) (tables : List CatalogTable) (pages : ℕ → List ℕ) (f : Form) (loops : List TableLoop) (x : Loops) : Type 0 where
  pub form : IsForm tables f loops
  pub stand : AllByRecursion (LoopStands s tables pages) loops
  pub each_open : Each (IsOpen tables pages f.nodes form.places loops x.joined) 0 loops x.opened.items
  pub ascend : Ascend x.opened.items
  pub most : 0 < x.most
  pub owes : s.told ≡ true → (left : List (List Value)) × Owes s marks tables pages f loops x left
