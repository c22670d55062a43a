-- What callers see of a catalog: its tables and its indexes, each in order of creation. Our own rule.
use Rattle.std.specs.Prelude.{ℕ, suc, zero, Bool, true, false, List, [], ◌∷◌, Option, Some, None, ◌<◌, ◌≤◌, ◌&&◌, not, map, length, nat_eq, nat_lt, nat_le, position, IsTrue}
use Rattle.std.specs.List.{list_all, list_any}
use Rattle.hg_base.specs.declared.Table.{Table as TableData}
use Rattle.hg_base.specs.declared.Index.{Index}
use Rattle.hg_model.specs.Creation.{key_length, is_named_so}
use Rattle.hg_model.specs.Tables.{same_name}
use Rattle.hg_model.specs.declared.trees.Column.{Column}
use Rattle.hg_catalog.specs.declared.entries.TableEntry.{TableEntry}
use Rattle.hg_catalog.specs.declared.entries.IndexEntry.{IndexEntry}

pub record CatalogTable : Type 0 where
  pub name : List ℕ
  pub columns : List Column
  pub pages : TableData

-- `table` is the number of its table
pub record CatalogIndex : Type 0 where
  pub name : Option (List ℕ)
  pub table : ℕ
  pub index : Index

pub record Contents : Type 0 where
  pub tables : List CatalogTable
  pub indexes : List CatalogIndex

abbrev pub table_of_entry : List ℕ × TableEntry → CatalogTable
table_of_entry e = record { name = e.0; columns = e.1.columns.items; pages = e.1.pages }

abbrev pub index_of_entry : IndexEntry → CatalogIndex
index_of_entry e = record { name = e.name; table = e.table; index = e.index }

-- the number of the table of a name
abbrev pub table_number : Contents → List ℕ → Option ℕ
table_number c name = position (λ (t : CatalogTable). same_name t.name name) c.tables

-- no name stands twice, and no number
abbrev pub are_different_names : List (List ℕ) → Bool
are_different_names [] = true
are_different_names (n ∷ ns) = not (list_any (same_name n) ns) && are_different_names ns

abbrev pub are_different_numbers : List ℕ → Bool
are_different_numbers [] = true
are_different_numbers (n ∷ ns) = not (list_any (nat_eq n) ns) && are_different_numbers ns

-- an index of the name stands there; one without a name shares none
abbrev pub has_index_name : Option (List ℕ) → List CatalogIndex → Bool
has_index_name None xs = false
has_index_name (Some name) xs = list_any (λ (x : CatalogIndex). is_named_so name x.name) xs

abbrev pub are_different_indexes : List CatalogIndex → Bool
are_different_indexes [] = true
are_different_indexes (x ∷ xs) = not (has_index_name x.name xs) && are_different_indexes xs

-- a table has 1 to 16 columns of different names
pub record IsNewTable (columns : List Column) : Type 0 where
  pub some_columns : 1 ≤ length columns
  pub few_columns : length columns ≤ 16
  pub different : IsTrue (are_different_names (map (λ (c : Column). c.name) columns))

abbrev pub columns_of_table : List CatalogTable → ℕ → List Column
columns_of_table [] t = []
columns_of_table (x ∷ xs) zero = x.columns
columns_of_table (x ∷ xs) (suc t) = columns_of_table xs t

-- the columns of an index are 1 to 16 different columns of a table that is there, and their declared
-- lengths are together at most 512
pub record IsNewIndex (c : Contents) (table : ℕ) (columns : List ℕ) : Type 0 where
  pub table_there : table < length c.tables
  pub some_columns : 1 ≤ length columns
  pub few_columns : length columns ≤ 16
  pub columns_there : IsTrue (list_all (λ k. nat_lt k (length (columns_of_table c.tables table))) columns)
  pub different : IsTrue (are_different_numbers columns)
  pub not_long : key_length (columns_of_table c.tables table) columns ≤ 512

abbrev pub is_new_table : CatalogTable → Bool
is_new_table t = nat_lt 0 (length t.columns) && (nat_le (length t.columns) 16 && are_different_names (map (λ (c : Column). c.name) t.columns))

abbrev pub is_index_of : List Column → List ℕ → Bool
is_index_of table columns =
    nat_lt 0 (length columns)
    && (nat_le (length columns) 16
    && (list_all (λ k. nat_lt k (length table)) columns
    && (are_different_numbers columns && nat_le (key_length table columns) 512)))

abbrev pub fits_tables : List CatalogTable → CatalogIndex → Bool
fits_tables tables x = nat_lt x.table (length tables) && is_index_of (columns_of_table tables x.table) x.index.columns.items

-- what holds of every catalog
pub record IsSound (c : Contents) : Type 0 where
  pub few_tables : length c.tables ≤ 64
  pub few_indexes : length c.indexes ≤ 64
  pub different_names : IsTrue (are_different_names (map (λ (t : CatalogTable). t.name) c.tables))
  pub different_index_names : IsTrue (are_different_indexes c.indexes)
  pub tables_fit : IsTrue (list_all is_new_table c.tables)
  pub indexes_fit : IsTrue (list_all (fits_tables c.tables) c.indexes)

-- the tables, with other pages for one of them
abbrev pub with_pages : List CatalogTable → ℕ → TableData → List CatalogTable
with_pages [] t d = []
with_pages (x ∷ xs) zero d = record { name = x.name; columns = x.columns; pages = d } ∷ xs
with_pages (x ∷ xs) (suc t) d = x ∷ with_pages xs t d

-- the indexes, with another tree for one of them
abbrev pub with_index : List CatalogIndex → ℕ → Index → List CatalogIndex
with_index [] i index = []
with_index (x ∷ xs) zero index = record { name = x.name; table = x.table; index = index } ∷ xs
with_index (x ∷ xs) (suc i) index = x ∷ with_index xs i index
