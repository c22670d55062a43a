-- What an INSERT asks and does. Our own rule.
use Rattle.std.specs.Prelude.{◌≡◌, ℕ, true, List, Option, Some, None, slice_get, ⊤}
use Rattle.hg_base.specs.Space.{Space}
use Rattle.hg_base.specs.Causes.{counts_after}
use Rattle.hg_base.specs.declared.Table.{Table}
use Rattle.hg_base.specs.declared.pages.PageFault.{PageFault}
use Rattle.hg_catalog.specs.Contents.{Contents, CatalogTable, with_pages}
use Rattle.hg_model.specs.Refusal.{Refusal}
use Rattle.hg_model.specs.declared.trees.Column.{Column}
use Rattle.hg_model.specs.declared.trees.Literal.{Literal}
use Rattle.hg_table.specs.Agreement.{IsTableOver}
use Rattle.hg_table.specs.Chains.{IsChain}
use Rattle.hg_table.specs.Versions.{Placed}
use Rattle.hg_dml.specs.declared.insertion.ChangeError.{ChangeError}
use Rattle.hg_dml.specs.declared.insertion.ChangeError.TheVariants as change
use Rattle.hg_dml.specs.Putting.{Puts, PutsSome}
use Rattle.hg_dml.specs.Rows.{rows_of_tuples, rows_cause, Tells}

-- a table that may be changed: it has pages, and where the space tells it holds rows that fit its columns
pub record StandsOver (s : Space) (t : Table) (columns : List Column) : Type 0 where
  pub pages : List ℕ
  pub chain : IsChain s t pages
  pub whole : s.told ≡ true → (versions : List Placed) × IsTableOver s t columns pages versions

-- the same of a table of a catalog, by its number
abbrev pub StandsAt : Space → Contents → ℕ → Type 0
StandsAt s c table = (t : CatalogTable) → slice_get c.tables table ≡ Some t → StandsOver s t.pages t.columns

-- of a table of a catalog other pages are known now, and nothing else changed
pub record MovesEnds (old new : Contents) (table : ℕ) (ends : Table) : Type 0 where
  pub tables : new ≡ record old { tables = with_pages old.tables table ends }

-- all rows of the INSERT were put into the table, and no fault was counted
pub record PutsAll (a b : Space) (old new : Contents) (table stamp : ℕ) (texts targets : List ℕ) (values : List Literal) (ends : List ℕ) (t : CatalogTable) : Type 0 where
  pub no_cause : rows_cause t.columns (rows_of_tuples texts t.columns targets values ends) ≡ None
  pub after : Table
  pub moves : MovesEnds old new table after
  pub puts : (pages : List ℕ) → IsChain a t.pages pages
      → Puts a b t.pages after pages stamp t.columns (rows_of_tuples texts t.columns targets values ends)
  pub counts : b.counts ≡ a.counts

-- nothing stood against the rows, but a fault came before all were put; it was counted, and no other
pub record PutsPart (a b : Space) (old new : Contents) (table stamp : ℕ) (texts targets : List ℕ) (values : List Literal) (ends : List ℕ) (f : PageFault) (t : CatalogTable) : Type 0 where
  pub no_cause : rows_cause t.columns (rows_of_tuples texts t.columns targets values ends) ≡ None
  pub after : Table
  pub moves : MovesEnds old new table after
  pub puts : (pages : List ℕ) → IsChain a t.pages pages
      → PutsSome a b t.pages after pages stamp t.columns (rows_of_tuples texts t.columns targets values ends) f
  pub counts : b.counts ≡ counts_after a.counts (Some f)

-- what stands against the rows, and that it is told
pub record IsCause (texts targets : List ℕ) (values : List Literal) (ends : List ℕ) (code : ℕ) (column : Option ℕ) (t : CatalogTable) : Type 0 where
  pub refusal : Refusal
  pub first : rows_cause t.columns (rows_of_tuples texts t.columns targets values ends) ≡ Some refusal
  pub told : Tells t.columns code column refusal

-- what an error of a change says: that it was refused, or that a fault came
abbrev pub OnRefused : (ℕ → Option ℕ → Type 0) → ChangeError → Type 0
OnRefused P (change.Refused code column) = P code column
OnRefused P (change.Fault f) = ⊤

abbrev pub OnFault : (PageFault → Type 0) → ChangeError → Type 0
OnFault P (change.Refused code column) = ⊤
OnFault P (change.Fault f) = P f
