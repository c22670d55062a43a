-- What INSERT, UPDATE, DELETE and VACUUM make of the tables that there are, or the first cause against
-- them. SQL-92, sections 13.8, 13.10 and 13.7; VACUUM, stamps and the order of the causes are our own
-- rules. First come the causes that the statement and the tables' columns give; then that the stamps are
-- used up; then those of its rows.
use Rattle.std.specs.Prelude.{ℕ, List, [], ◌∷◌, Option, Some, None, length, ◌^◌, nat_le, if◌then◌else◌}
use Rattle.std.specs.List.{count_by}
use Rattle.hg_model.specs.Binding.{cause_if}
use Rattle.hg_model.specs.ChangeBinding.{table_cause, insert_targets, insert_refusal, table_scope, change_positions, update_targets, update_refusal, delete_refusal}
use Rattle.hg_model.specs.Changes.{Change, Made, Refused, unless, insert_change, update_change, update_passes, delete_change, delete_passes}
use Rattle.hg_model.specs.Creation.{Index, uniques_of}
use Rattle.hg_model.specs.Refusal.{Refusal, StampsUsedUp, first_cause}
use Rattle.hg_model.specs.Scope.{rows_of}
use Rattle.hg_model.specs.Statements.{InsertTree, UpdateTree, DeleteTree}
use Rattle.hg_model.specs.Tables.{Table, table_named, same_name}
use Rattle.hg_model.specs.declared.values.Value.{Value}

-- There are 2^20 stamps; `given` of them were given.
abbrev pub stamp_cause : ℕ → Option Refusal
stamp_cause given = cause_if (nat_le (2 ^ 20) given) StampsUsedUp

-- The first cause that comes before a stamp is given. A change uses a stamp exactly where there is none,
-- whatever becomes of it.
abbrev pub insert_cause : ℕ → List Table → InsertTree → Option Refusal
insert_cause given tables i = first_cause (insert_refusal tables i ∷ stamp_cause given ∷ [])

abbrev pub update_cause : ℕ → List Table → UpdateTree → Option Refusal
update_cause given tables u = first_cause (update_refusal tables u ∷ stamp_cause given ∷ [])

abbrev pub delete_cause : ℕ → List Table → DeleteTree → Option Refusal
delete_cause given tables d = first_cause (delete_refusal tables d ∷ stamp_cause given ∷ [])

-- a change of the table that a name finds; where it finds none, the statement was refused for that
abbrev pub change_of : Option Table → (Table → Change) → Change
change_of None change = Made [] 0
change_of (Some t) change = change t

unfoldable pub insert_meaning : ℕ → List Table → List Index → List ℕ → InsertTree → Change
insert_meaning given tables indexes texts i =
    unless (insert_cause given tables i)
    (change_of (table_named tables i.table) (λ t. insert_change texts t (uniques_of indexes i.table) (insert_targets t.columns i.columns) i))

-- for each node of an UPDATE or a DELETE the number of its column
abbrev pub update_positions : List Table → UpdateTree → List ℕ
update_positions tables u = change_positions (table_scope tables u.table) u.nodes

abbrev pub delete_positions : List Table → DeleteTree → List ℕ
delete_positions tables d = change_positions (table_scope tables d.table) d.nodes

unfoldable pub update_meaning : ℕ → List Table → List Index → List ℕ → UpdateTree → Change
update_meaning given tables indexes texts u =
    unless (update_cause given tables u)
    (change_of (table_named tables u.table) (λ t. update_change texts t (uniques_of indexes u.table) (update_positions tables u) (update_targets t.columns u) u))

unfoldable pub delete_meaning : ℕ → List Table → List ℕ → DeleteTree → Change
delete_meaning given tables texts d =
    unless (delete_cause given tables d)
    (change_of (table_named tables d.table) (λ t. delete_change texts t (delete_positions tables d) d))

-- VACUUM uses no stamp and changes no row.
unfoldable pub vacuum_meaning : List Table → List ℕ → Change
vacuum_meaning tables name =
    unless (table_cause tables name) (change_of (table_named tables name) (λ t. Made t.rows 0))

-- the tables with other rows in the one of a name
abbrev pub with_rows : List Table → List ℕ → List (List Value) → List Table
with_rows [] name rows = []
with_rows (t ∷ ts) name rows = if same_name t.name name then record t { rows = rows } ∷ ts else t ∷ with_rows ts name rows

-- the tables after a change of the one of a name: a refused change leaves them
abbrev pub tables_after : List Table → List ℕ → Change → List Table
tables_after tables name (Made rows n) = with_rows tables name rows
tables_after tables name (Refused r) = tables

-- The rows that a change inserts, changes or deletes; where it is refused, those that it would have.
abbrev pub insert_count : InsertTree → ℕ
insert_count i = length i.ends

abbrev pub update_count : List Table → List ℕ → UpdateTree → ℕ
update_count tables texts u = count_by (update_passes texts (update_positions tables u) u) (rows_of (table_named tables u.table))

abbrev pub delete_count : List Table → List ℕ → DeleteTree → ℕ
delete_count tables texts d = count_by (delete_passes texts (delete_positions tables d) d) (rows_of (table_named tables d.table))
