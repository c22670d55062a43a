-- How many rows the hash joins, grouping, DISTINCT and sort of a SELECT take in. Our own rule.
use Rattle.std.specs.Prelude.{ℕ, Bool, List, Option, Some, None, length, take, ◌+◌, ◌||◌, nat_lt, slice_get, if◌then◌else◌}
use Rattle.std.specs.List.{filter, sum_by, range_with_len}
use Rattle.hg_model.specs.Conditions.{meets, tested_before}
use Rattle.hg_model.specs.Needs.{cursor_need}
use Rattle.hg_model.specs.Plan.{is_hash_join, hash_joins, is_ordered}
use Rattle.hg_model.specs.Query.{Query}
use Rattle.hg_model.specs.Scope.{scope_of, rows_of}
use Rattle.hg_model.specs.SelectMeaning.{Setting, setting_of, from_rows, kept_rows, pairs_of, meaning, is_grouped}
use Rattle.hg_model.specs.Tables.{Table, table_named}
use Rattle.hg_model.specs.declared.tables.FromColumn.{FromColumn}
use Rattle.hg_model.specs.declared.trees.FromTable.{FromTable}
use Rattle.hg_model.specs.declared.values.Value.{Value}

-- the rows of the k-th table of FROM
abbrev pub rows_at : List Table → Option FromTable → List (List Value)
rows_at tables None = rows_of None
rows_at tables (Some f) = rows_of (table_named tables f.table)

-- the rows of the first k tables of FROM that meet the conditions tested so far
unfoldable pub rows_before : Setting → List FromColumn → List Table → ℕ → List (List Value)
rows_before s scope tables k =
    filter (meets s (tested_before scope s.positions s.query k)) (from_rows (record s.query { tables = take k s.query.tables }) tables)

-- a hash join takes in the rows of its table and those of the tables before it
abbrev pub join_intake : Setting → List FromColumn → List Table → ℕ → ℕ
join_intake s scope tables k =
    if is_hash_join scope s.positions s.query k
    then length (rows_at tables (slice_get s.query.tables k)) + length (rows_before s scope tables k)
    else 0

abbrev pub joins_intake : Setting → List FromColumn → List Table → ℕ
joins_intake s scope tables = sum_by (join_intake s scope tables) (range_with_len 0 (length s.query.tables))

-- grouping takes in the rows after WHERE, DISTINCT the rows before it, ORDER BY the rows to be ordered
unfoldable pub intake : Query → List ℕ → List Table → ℕ
intake q texts tables =
    let s = setting_of q texts tables in
    joins_intake s (scope_of tables q) tables
    + ((if is_grouped q then length (kept_rows s tables) else 0)
    + ((if q.distinct then length (pairs_of s (kept_rows s tables)) else 0)
    + (if is_ordered q then length (meaning q texts tables) else 0)))

-- whether the plan has a hash join, grouping, DISTINCT or a sort
abbrev pub takes_in : List Table → Query → Bool
takes_in tables q = nat_lt 0 (hash_joins tables q) || (is_grouped q || (q.distinct || is_ordered q))

-- the temporary pages that a cursor over these tables may need
unfoldable pub select_need : Query → List ℕ → List Table → ℕ
select_need q texts tables = cursor_need (takes_in tables q) (intake q texts tables)
