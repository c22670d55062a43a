-- What the steps of an INSERT ask and do. Our own rule.
use Rattle.std.specs.Prelude.{◌≡◌, ℕ, ◌≤◌, ◌⊎◌, true, List, length, Option, Some, None, slice_get}
use Rattle.std.specs.List.{AllByRecursion}
use Rattle.hg_base.specs.Space.{Space}
use Rattle.hg_base.specs.Steadiness.{Steady}
use Rattle.hg_base.specs.declared.Place.{Place}
use Rattle.hg_base.specs.declared.Table.{Table}
use Rattle.hg_model.specs.Refusal.{Refusal}
use Rattle.hg_model.specs.Tables.{fits_columns}
use Rattle.hg_model.specs.declared.trees.Column.{Column}
use Rattle.hg_model.specs.declared.values.Value.{Value}
use Rattle.hg_table.specs.Agreement.{IsTableOver}
use Rattle.hg_table.specs.Calls.{Inserts, KeepsPages, AddsPage, insert_mine, newborn}
use Rattle.hg_table.specs.Chains.{IsChain}
use Rattle.hg_table.specs.Versions.{Placed}
use Rattle.hg_value.specs.Coding.{IsStorable, coded}
use Rattle.hg_dml.specs.Rows.{rows_cause, Tells}
use Rattle.hg_dml.specs.declared.insertion.ChangeError.{ChangeError}
use Rattle.hg_dml.specs.declared.insertion.ChangeError.TheVariants as change

-- One insertion into the table as it stands, after others: what the call on the table says.
pub record OneMore (b c : Space) (mid new : Table) (place : Place) (stamp n : ℕ) (row : List Value) : Type 0 where
  pub inserts : (pages : List ℕ) → IsChain b mid pages → Inserts b c mid new pages (newborn row stamp place)
  pub pages : KeepsPages b c mid new place.page ⊎ AddsPage b c mid new place.page n
  pub steady : Steady (insert_mine mid place) b c

-- each row fits the columns
abbrev pub FitRows : List Column → List (List Value) → Type 0
FitRows columns rows = AllByRecursion (λ row. fits_columns columns row ≡ true) rows

-- a row that may be put into a table
pub record IsShort (row : List Value) : Type 0 where
  pub storable : IsStorable row
  pub short : length (coded row) ≤ 1000

-- rows may be put into a table: it has pages, they fit its columns, and where the space tells so do those
-- that are there
pub record CanPut (s : Space) (t : Table) (rows : List (List Value)) : Type 0 where
  pub columns : List Column
  pub fit : FitRows columns rows
  pub pages : List ℕ
  pub chain : IsChain s t pages
  pub whole : s.told ≡ true → (versions : List Placed) × IsTableOver s t columns pages versions

-- the first column against which a cause stands, by its number
abbrev pub FirstIs : List Column → (List ℕ → Refusal) → Option Refusal → Option ℕ → Type 0
FirstIs columns cause first None = first ≡ None
FirstIs columns cause first (Some k) = (c : Column) × (slice_get columns k ≡ Some c) × (first ≡ Some (cause c.name))

-- the first cause against rows is told
abbrev pub IsRefusal : List Column → List (List Value) → ChangeError → Type 0
IsRefusal columns rows (change.Refused code column) = (refusal : Refusal) × (rows_cause columns rows ≡ Some refusal) × Tells columns code column refusal
IsRefusal columns rows (change.Fault f) = ⊥
