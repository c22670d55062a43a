-- What CREATE TABLE and CREATE INDEX make, and the first cause against them. SQL-92, section 11.7, for
-- what PRIMARY KEY and UNIQUE mean. CREATE INDEX, the limits, the length of keys and the order of the
-- causes are our own rules.
use Rattle.std.specs.Prelude.{ℕ, suc, zero, Bool, true, false, List, [], ◌∷◌, Option, Some, None, is_some, map, length, ◌+◌, ◌&&◌, ◌||◌, nat_lt, nat_le, if◌then◌else◌}
use Rattle.std.specs.List.{list_any, filter, count_by, sum_by}
use Rattle.hg_model.specs.Binding.{cause_if, repeated_name}
use Rattle.hg_model.specs.ChangeBinding.{table_cause, column_number}
use Rattle.hg_model.specs.Changes.{has_double}
use Rattle.hg_model.specs.Refusal.{Refusal, UnknownColumn, NameTaken, TooMany, DuplicateKey, KeyTooLong, first_cause}
use Rattle.hg_model.specs.Scope.{columns_of, rows_of}
use Rattle.hg_model.specs.Statements.{TableTree, IndexTree}
use Rattle.hg_model.specs.Tables.{Table, table_named, same_name}
use Rattle.hg_model.specs.Types.{type_length}
use Rattle.hg_model.specs.declared.trees.Column.{Column}
use Rattle.hg_model.specs.declared.trees.Count.TheVariants as count
use Rattle.hg_model.specs.declared.trees.NewColumn.{NewColumn}

-- An index: its name, where CREATE INDEX made it, its table, and the numbers of its columns there.
pub record Index : Type 0 where
  pub name : Option (List ℕ)
  pub table : List ℕ
  pub columns : List ℕ
  pub unique : Bool

-- PRIMARY KEY means NOT NULL and a unique index on the column, UNIQUE a unique index; a column with both
-- has one index. Such indexes have no name.
abbrev pub is_key : NewColumn → Bool
is_key c = c.primary || c.unique

abbrev pub created_column : NewColumn → Column
created_column c = record { name = c.column.name; ty = c.column.ty; not_null = c.column.not_null || c.primary }

abbrev pub created_table : TableTree → Table
created_table t = record { name = t.name; columns = map created_column t.columns; rows = [] }

abbrev pub indexes_from : List ℕ → ℕ → List NewColumn → List Index
indexes_from table k [] = []
indexes_from table k (c ∷ cs) =
    if is_key c
    then record { name = None; table = table; columns = k ∷ []; unique = true } ∷ indexes_from table (suc k) cs
    else indexes_from table (suc k) cs

abbrev pub created_indexes : TableTree → List Index
created_indexes t = indexes_from t.name 0 t.columns

-- the columns of each unique index of a table
abbrev pub uniques_of : List Index → List ℕ → List (List ℕ)
uniques_of indexes table = map (λ (i : Index). i.columns) (filter (λ (i : Index). i.unique && same_name i.table table) indexes)

-- the first cause against CREATE TABLE beside these tables and indexes
unfoldable pub create_table_refusal : List Table → List Index → TableTree → Option Refusal
create_table_refusal tables indexes t =
    first_cause
    (cause_if (is_some (table_named tables t.name)) (NameTaken t.name)
    ∷ repeated_name (map (λ (c : NewColumn). c.column.name) t.columns)
    ∷ cause_if (nat_lt 1 (count_by (λ (c : NewColumn). c.primary) t.columns)) (TooMany count.PrimaryKeys)
    ∷ cause_if (nat_le 64 (length tables)) (TooMany count.Tables)
    ∷ cause_if (nat_lt 64 (length indexes + count_by is_key t.columns)) (TooMany count.Indexes)
    ∷ [])

abbrev pub is_named_so : List ℕ → Option (List ℕ) → Bool
is_named_so name None = false
is_named_so name (Some other) = same_name name other

abbrev pub index_places : List Column → IndexTree → List ℕ
index_places columns i = map (column_number columns) i.columns

abbrev pub created_index : Table → IndexTree → Index
created_index t i = record { name = Some i.name; table = i.table; columns = index_places t.columns i; unique = i.unique }

abbrev pub unknown_column : List Column → List (List ℕ) → Option Refusal
unknown_column columns [] = None
unknown_column columns (n ∷ ns) =
    if list_any (λ (c : Column). same_name c.name n) columns then unknown_column columns ns else Some (UnknownColumn (record { table = None; name = n }))

-- the declared length of a key: at most 512 bytes
abbrev pub column_length : List Column → ℕ → ℕ
column_length [] k = 0
column_length (c ∷ cs) zero = type_length c.ty
column_length (c ∷ cs) (suc k) = column_length cs k

abbrev pub key_length : List Column → List ℕ → ℕ
key_length columns places = sum_by (column_length columns) places

-- the first cause against CREATE INDEX beside these tables and indexes
unfoldable pub create_index_refusal : List Table → List Index → IndexTree → Option Refusal
create_index_refusal tables indexes i =
    let columns = columns_of (table_named tables i.table) in
    let places = index_places columns i in
    first_cause
    (cause_if (list_any (λ (x : Index). is_named_so i.name x.name) indexes) (NameTaken i.name)
    ∷ cause_if (nat_le 64 (length indexes)) (TooMany count.Indexes)
    ∷ table_cause tables i.table
    ∷ unknown_column columns i.columns
    ∷ repeated_name i.columns
    ∷ cause_if (nat_lt 512 (key_length columns places)) KeyTooLong
    ∷ cause_if (i.unique && has_double places (rows_of (table_named tables i.table))) DuplicateKey
    ∷ [])
