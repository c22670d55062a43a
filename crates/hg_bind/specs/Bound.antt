-- What a bound statement is, and how a cause against a statement is answered. Our own rule.
use Rattle.std.specs.Prelude.{◌≡◌, ℕ, zero, suc, List, [], ◌∷◌, Option, Some, None, map, not, slice_get}
use Rattle.std.specs.List.{list_any}
use Rattle.hg_catalog.specs.Contents.{Contents, CatalogTable, CatalogIndex}
use Rattle.hg_model.specs.Binding.{cause_if}
use Rattle.hg_model.specs.ChangeBinding.{insert_refusal, insert_targets, delete_refusal, update_refusal, update_targets, change_positions, table_scope}
use Rattle.hg_model.specs.Creation.{Index, create_index_refusal, index_places}
use Rattle.hg_model.specs.Refusal.{Refusal, UnknownTable, UnknownColumn, AmbiguousColumn, TypeMismatch, TooWide, NameTaken, TooMany, NotGrouped, DoesNotFit, NullNotAllowed, DuplicateKey, BadNumber, RowTooLong, StampsUsedUp, KeyTooLong, code_of}
use Rattle.hg_model.specs.Scope.{columns_of}
use Rattle.hg_model.specs.SelectMeaning.{is_aggregate}
use Rattle.hg_model.specs.Statements.{IndexTree, InsertTree, UpdateTree, DeleteTree}
use Rattle.hg_model.specs.Tables.{Table, table_named}
use Rattle.hg_model.specs.Types.{all_narrow}
use Rattle.hg_model.specs.declared.trees.ColRef.{ColRef}
use Rattle.hg_model.specs.declared.trees.Count.{Count}
use Rattle.hg_model.specs.declared.trees.NewColumn.{NewColumn}
use Rattle.hg_model.specs.declared.trees.Node.{Node}
use Rattle.hg_bind.specs.declared.errors.BindError.{BindError}

-- The tables of a catalog by their numbers. Binding looks at no row.
abbrev pub table_of : CatalogTable → Table
table_of t = record { name = t.name; columns = t.columns; rows = [] }

abbrev pub tables_of : Contents → List Table
tables_of c = map table_of c.tables

-- The indexes of a catalog, as the definitions know them: by the names of their tables.
abbrev pub name_at : List CatalogTable → ℕ → List ℕ
name_at [] k = []
name_at (t ∷ ts) zero = t.name
name_at (t ∷ ts) (suc k) = name_at ts k

abbrev pub index_of : List CatalogTable → CatalogIndex → Index
index_of tables x = record { name = x.name; table = name_at tables x.table; columns = x.index.columns.items; unique = x.index.unique }

abbrev pub indexes_of : Contents → List Index
indexes_of c = map (index_of c.tables) c.indexes

-- the names of new columns
abbrev pub names_made : List NewColumn → List (List ℕ)
names_made columns = map (λ (c : NewColumn). c.column.name) columns

-- the name that is written behind an error, with its table where it is so written
abbrev pub plain_name : List ℕ → ColRef
plain_name name = record { table = None; name = name }

abbrev pub name_written : Refusal → Option ColRef
name_written (UnknownTable t) = Some (plain_name t)
name_written (UnknownColumn c) = Some c
name_written (AmbiguousColumn c) = Some c
name_written TypeMismatch = None
name_written TooWide = None
name_written (NameTaken n) = Some (plain_name n)
name_written (TooMany k) = None
name_written NotGrouped = None
name_written (DoesNotFit c) = Some (plain_name c)
name_written (NullNotAllowed c) = Some (plain_name c)
name_written DuplicateKey = None
name_written BadNumber = None
name_written RowTooLong = None
name_written StampsUsedUp = None
name_written KeyTooLong = None

-- the kind that is written behind an error of too many
abbrev pub kind_written : Refusal → Option Count
kind_written (TooMany k) = Some k
kind_written (UnknownTable t) = None
kind_written (UnknownColumn c) = None
kind_written (AmbiguousColumn c) = None
kind_written TypeMismatch = None
kind_written TooWide = None
kind_written (NameTaken n) = None
kind_written NotGrouped = None
kind_written (DoesNotFit c) = None
kind_written (NullNotAllowed c) = None
kind_written DuplicateKey = None
kind_written BadNumber = None
kind_written RowTooLong = None
kind_written StampsUsedUp = None
kind_written KeyTooLong = None

abbrev pub error_of : Refusal → BindError
error_of r = record { code = code_of r; name = name_written r; kind = kind_written r }

-- The number names the table of that name.
pub record IsTable (tables : List Table) (name : List ℕ) (number : ℕ) : Type 0 where
  pub table : Table
  pub there : slice_get tables number ≡ Some table
  pub named : table_named tables name ≡ Some table

-- A place of a column in a row of the table: 255, and the number of the column.
abbrev pub row_places : List ℕ → List (ℕ × ℕ)
row_places numbers = map (λ k. (255, k)) numbers

abbrev pub numbers_of : List (ℕ × ℕ) → List ℕ
numbers_of places = map (λ p. p.1) places

-- An INSERT that nothing stands against, with the number of its table, and of the column of each value.
pub record IsPlacedInsert (tables : List Table) (i : InsertTree) (table : ℕ) (targets : List ℕ) : Type 0 where
  pub unrefused : insert_refusal tables i ≡ None
  pub table_is : IsTable tables i.table table
  pub targets_are : targets ≡ insert_targets (columns_of (table_named tables i.table)) i.columns

-- the causes against an UPDATE or a DELETE that are looked for behind those of types
abbrev pub causes_behind_types : List Node → List (Option Refusal)
causes_behind_types nodes = cause_if (list_any is_aggregate nodes) NotGrouped ∷ cause_if (not (all_narrow nodes)) TooWide ∷ []

-- A DELETE that nothing stands against, with the number of its table, and for each node the place of its
-- column: what its meaning looks values up by.
pub record IsPlacedDelete (tables : List Table) (d : DeleteTree) (table : ℕ) (places : List (ℕ × ℕ)) : Type 0 where
  pub unrefused : delete_refusal tables d ≡ None
  pub table_is : IsTable tables d.table table
  pub places_are : places ≡ row_places (change_positions (table_scope tables d.table) d.nodes)

-- the names of SET items
abbrev pub names_set : List (List ℕ × ℕ) → List (List ℕ)
names_set sets = map (λ (s : List ℕ × ℕ). s.0) sets

-- An UPDATE that nothing stands against, with the number of its table, of the column of each SET item,
-- and for each node the place of its column.
pub record IsPlacedUpdate (tables : List Table) (u : UpdateTree) (table : ℕ) (targets : List ℕ) (places : List (ℕ × ℕ)) : Type 0 where
  pub unrefused : update_refusal tables u ≡ None
  pub table_is : IsTable tables u.table table
  pub targets_are : targets ≡ update_targets (columns_of (table_named tables u.table)) u
  pub places_are : places ≡ row_places (change_positions (table_scope tables u.table) u.nodes)

-- A CREATE INDEX that nothing stands against, as far as no row is looked at, with the numbers of its table
-- and of its columns.
pub record IsPlacedIndex (tables : List Table) (indexes : List Index) (i : IndexTree) (table : ℕ) (numbers : List ℕ) : Type 0 where
  pub unrefused : create_index_refusal tables indexes i ≡ None
  pub table_is : IsTable tables i.table table
  pub numbers_are : numbers ≡ index_places (columns_of (table_named tables i.table)) i
