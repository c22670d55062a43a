-- Whether an INSERT, an UPDATE or a DELETE may stand over its tables, and the first cause against it.
-- Our own rule.
use Rattle.std.specs.Prelude.{ℕ, suc, zero, Bool, true, false, List, [], ◌∷◌, ◌++◌, Option, Some, None, is_some, map, length, ◌&&◌, not, if◌then◌else◌}
use Rattle.std.specs.List.{list_any, list_all, position_or_len, range_with_len, count_by}
use Rattle.std.specs.Option.{option_to_list}
use Rattle.hg_model.specs.Binding.{cause_if, cause_of_count, type_at}
use Rattle.hg_model.specs.Changes.{tuples_from}
use Rattle.hg_model.specs.Refusal.{Refusal, UnknownTable, UnknownColumn, TypeMismatch, TooWide, NameTaken, NotGrouped, first_cause}
use Rattle.hg_model.specs.Scope.{columns_from, columns_of, is_named}
use Rattle.hg_model.specs.SelectMeaning.{is_aggregate}
use Rattle.hg_model.specs.Statements.{InsertTree, UpdateTree, DeleteTree}
use Rattle.hg_model.specs.Tables.{Table, table_named, same_name}
use Rattle.hg_model.specs.Types.{Kind, Nothing, kind_of_type, kind_of_literal, kind_at, kinds_from, all_well_typed, is_condition, agree, all_narrow}
use Rattle.hg_model.specs.declared.tables.FromColumn.{FromColumn}
use Rattle.hg_model.specs.declared.trees.Column.{Column}
use Rattle.hg_model.specs.declared.trees.Literal.{Literal}
use Rattle.hg_model.specs.declared.trees.Node.{Node}
use Rattle.hg_model.specs.declared.trees.Node.TheVariants as node

abbrev pub table_cause : List Table → List ℕ → Option Refusal
table_cause tables name = cause_if (not (is_some (table_named tables name))) (UnknownTable name)

-- the number of a column by its name, or how many there are
abbrev pub column_number : List Column → List ℕ → ℕ
column_number columns name = position_or_len (λ (c : Column). same_name c.name name) columns

-- the numbers of the columns of an INSERT: those listed, and all where none is listed
abbrev pub insert_targets : List Column → List (List ℕ) → List ℕ
insert_targets columns [] = range_with_len 0 (length columns)
insert_targets columns (n ∷ ns) = map (column_number columns) (n ∷ ns)

-- over a list of column names from left to right: an unknown one, or one that has stood before
abbrev pub one_column_cause : List Column → List (List ℕ) → List ℕ → Option Refusal
one_column_cause columns seen n =
    if list_any (λ (c : Column). same_name c.name n) columns
    then cause_if (list_any (same_name n) seen) (NameTaken n)
    else Some (UnknownColumn (record { table = None; name = n }))

abbrev pub columns_cause : List Column → List (List ℕ) → List (List ℕ) → List (Option Refusal)
columns_cause columns seen [] = []
columns_cause columns seen (n ∷ ns) = one_column_cause columns seen n ∷ columns_cause columns (seen ++ n ∷ []) ns

abbrev pub kind_of_column : List Column → ℕ → Kind
kind_of_column [] k = Nothing
kind_of_column (c ∷ cs) zero = kind_of_type c.ty
kind_of_column (c ∷ cs) (suc k) = kind_of_column cs k

-- a row of constants: as many as there are columns, and no number for a text or text for a number
abbrev pub tuple_fits : List Column → List ℕ → List Literal → Bool
tuple_fits columns [] [] = true
tuple_fits columns [] (v ∷ vs) = false
tuple_fits columns (t ∷ ts) [] = false
tuple_fits columns (t ∷ ts) (v ∷ vs) = agree (kind_of_column columns t) (kind_of_literal v) && tuple_fits columns ts vs

unfoldable pub insert_refusal : List Table → InsertTree → Option Refusal
insert_refusal tables i =
    let columns = columns_of (table_named tables i.table) in
    first_cause
    (table_cause tables i.table
    ∷ first_cause (columns_cause columns [] i.columns)
    ∷ cause_if (not (list_all (tuple_fits columns (insert_targets columns i.columns)) (tuples_from 0 i.ends i.values))) TypeMismatch
    ∷ [])

-- the columns that the nodes of an UPDATE or a DELETE may name, with or without the table's own name
abbrev pub table_scope : List Table → List ℕ → List FromColumn
table_scope tables name = columns_from 0 name 0 (columns_of (table_named tables name))

abbrev pub place_of_node : List FromColumn → Node → ℕ
place_of_node scope (node.Col c) = position_or_len (is_named c) scope
place_of_node scope _ = length scope

-- for each node the number of its column; behind the last where the node is no column
abbrev pub change_positions : List FromColumn → List Node → List ℕ
change_positions scope nodes = map (place_of_node scope) nodes

abbrev pub node_name_cause : List FromColumn → Node → Option Refusal
node_name_cause scope (node.Col c) = cause_of_count (count_by (is_named c) scope) c
node_name_cause scope _ = None

abbrev pub change_kinds : List FromColumn → List Node → List Kind
change_kinds scope nodes = kinds_from (map (type_at (λ (c : Column). kind_of_type c.ty) Nothing scope) (change_positions scope nodes)) nodes []

abbrev pub filter_fits : List Kind → Option ℕ → Bool
filter_fits kinds filter = list_all (λ n. is_condition (kind_at kinds n)) (option_to_list filter)

-- each SET item assigns a value of its column's kind
abbrev pub sets_fit : List Column → List Kind → List (List ℕ × ℕ) → Bool
sets_fit columns kinds sets = list_all (λ (s : List ℕ × ℕ). agree (kind_of_column columns (column_number columns s.0)) (kind_at kinds s.1)) sets

abbrev pub update_targets : List Column → UpdateTree → List ℕ
update_targets columns u = map (λ (s : List ℕ × ℕ). column_number columns s.0) u.sets

unfoldable pub update_refusal : List Table → UpdateTree → Option Refusal
update_refusal tables u =
    let columns = columns_of (table_named tables u.table) in
    let scope = table_scope tables u.table in
    let kinds = change_kinds scope u.nodes in
    first_cause
    (table_cause tables u.table
    ∷ first_cause (columns_cause columns [] (map (λ (s : List ℕ × ℕ). s.0) u.sets))
    ∷ first_cause (map (node_name_cause scope) u.nodes)
    ∷ cause_if (not (all_well_typed u.nodes kinds && (sets_fit columns kinds u.sets && filter_fits kinds u.filter))) TypeMismatch
    ∷ cause_if (list_any is_aggregate u.nodes) NotGrouped
    ∷ cause_if (not (all_narrow u.nodes)) TooWide
    ∷ [])

unfoldable pub delete_refusal : List Table → DeleteTree → Option Refusal
delete_refusal tables d =
    let scope = table_scope tables d.table in
    let kinds = change_kinds scope d.nodes in
    first_cause
    (table_cause tables d.table
    ∷ first_cause (map (node_name_cause scope) d.nodes)
    ∷ cause_if (not (all_well_typed d.nodes kinds && filter_fits kinds d.filter)) TypeMismatch
    ∷ cause_if (list_any is_aggregate d.nodes) NotGrouped
    ∷ cause_if (not (all_narrow d.nodes)) TooWide
    ∷ [])
