-- What a SELECT means. SQL-92, sections 7.3 to 7.9 and 13.1: the cross product of FROM, the filter of
-- ON and WHERE, the groups where the statement is grouped, the filter of HAVING, the outputs, and with
-- DISTINCT each output row once. A filter keeps the rows whose condition is true. The meaning is a list
-- of pairs of an output row and its keys of ORDER BY; as a bag it says which rows come, and
-- `MayComeNext` in which order.
use Rattle.std.specs.Prelude.{ℕ, Bool, true, false, List, [], ◌∷◌, ◌++◌, Option, Some, None, map, length, is_some, ◌||◌, ◌&&◌, nat_lt, ◌^◌, if◌then◌else◌}
use Rattle.std.specs.List.{list_any, list_all, filter}
use Rattle.std.specs.Option.{option_to_list}
use Rattle.hg_model.specs.Aggregates.{aggregate}
use Rattle.hg_model.specs.Evaluation.{value_at, value_of, truth_of, values_of}
use Rattle.hg_model.specs.Groups.{groups_by, same_values}
use Rattle.hg_model.specs.NullLogic.{is_true}
use Rattle.hg_model.specs.Order.{Pair}
use Rattle.hg_model.specs.declared.tables.SortKey.{SortKey}
use Rattle.hg_model.specs.Query.{Query}
use Rattle.hg_model.specs.Scope.{scope_of, rows_of, positions_of, target_of}
use Rattle.hg_model.specs.declared.tables.FromColumn.{FromColumn}
use Rattle.hg_model.specs.declared.tables.Target.{Target}
use Rattle.hg_model.specs.declared.tables.Target.TheVariants.{ToOutput, ToNode}
use Rattle.hg_model.specs.Tables.{Table, table_named, cross}
use Rattle.hg_model.specs.declared.values.Value.{Value}
use Rattle.hg_model.specs.declared.values.Value.TheVariants.{Null}
use Rattle.hg_model.specs.declared.values.NodeValue.{NodeValue}
use Rattle.hg_model.specs.declared.trees.FromTable.{FromTable}
use Rattle.hg_model.specs.declared.trees.Output.{Output}
use Rattle.hg_model.specs.declared.trees.OrderKey.{OrderKey}
use Rattle.hg_model.specs.declared.trees.Node.{Node}
use Rattle.hg_model.specs.declared.trees.Node.TheVariants as node

-- What stays the same for all rows of a SELECT: its tree, its texts, for each node the place of its
-- value in a row of the cross product, and what each key of ORDER BY orders by.
pub record Setting : Type 0 where
  pub query : Query
  pub texts : List ℕ
  pub positions : List ℕ
  pub targets : List (Bool × Target)

abbrev pub targets_of : List FromColumn → List ℕ → Query → List (Bool × Target)
targets_of scope positions q = map (λ (k : OrderKey). (k.descending, target_of scope positions q k.by)) q.order

abbrev pub setting_of : Query → List ℕ → List Table → Setting
setting_of q texts tables =
    let scope = scope_of tables q in
    let positions = positions_of scope q in
    record { query = q; texts = texts; positions = positions; targets = targets_of scope positions q }

-- the rows of the cross product of FROM
abbrev pub from_rows : Query → List Table → List (List Value)
from_rows q tables = cross (map (λ (f : FromTable). rows_of (table_named tables f.table)) q.tables)

-- the values of the columns and aggregates among the nodes, where `leaf` gives that of one node
abbrev pub leaves_of : (Node → ℕ → Value) → List Node → List ℕ → List Value
leaves_of leaf [] ps = []
leaves_of leaf (n ∷ ns) [] = []
leaves_of leaf (n ∷ ns) (p ∷ ps) = leaf n p ∷ leaves_of leaf ns ps

-- over one row a column has the value at its place, and an aggregate none
abbrev pub row_leaf : List Value → Node → ℕ → Value
row_leaf row (node.Col c) p = value_at row p
row_leaf row _ p = Null

-- what each node stands for over one row
abbrev pub node_values : List ℕ → List ℕ → List Node → List Value → List NodeValue
node_values texts positions nodes row = values_of (leaves_of (row_leaf row) nodes positions) texts nodes

unfoldable pub row_values : Setting → List Value → List NodeValue
row_values s row = node_values s.texts s.positions s.query.nodes row

-- the conditions that a row has to meet: those of ON in order, and WHERE
abbrev pub on_conditions : List FromTable → List ℕ
on_conditions [] = []
on_conditions (f ∷ fs) = option_to_list f.on ++ on_conditions fs

abbrev pub conditions : Query → List ℕ
conditions q = on_conditions q.tables ++ option_to_list q.filter

unfoldable pub keeps_row : Setting → List Value → Bool
keeps_row s row = list_all (λ n. is_true (truth_of (row_values s row) n)) (conditions s.query)

-- the rows that pass ON and WHERE
unfoldable pub kept_rows : Setting → List Table → List (List Value)
kept_rows s tables = filter (keeps_row s) (from_rows s.query tables)

abbrev pub is_aggregate : Node → Bool
is_aggregate (node.Aggregate f a) = true
is_aggregate _ = false

-- a statement is grouped where it has GROUP BY, HAVING or an aggregate
abbrev pub is_grouped : Query → Bool
is_grouped q = nat_lt 0 (length q.group) || (is_some q.having || list_any is_aggregate q.nodes)

unfoldable pub group_key : Setting → List Value → List Value
group_key s row = map (value_of (row_values s row)) s.query.group

-- Without GROUP BY there is one group, over no rows too.
abbrev pub groups_of : Setting → List (List Value) → List (List (List Value))
groups_of s rows = if nat_lt 0 (length s.query.group) then groups_by (group_key s) rows else rows ∷ []

-- what an aggregate's operand gives of each row of a group; COUNT(*) has no operand
abbrev pub operands : Setting → Option ℕ → List (List Value) → List Value
operands s None rows = map (λ row. Null) rows
operands s (Some a) rows = map (λ row. value_of (row_values s row) a) rows

abbrev pub first_row : List (List Value) → List Value
first_row [] = []
first_row (row ∷ rows) = row

-- the value of a column or an aggregate over a group; a column is that of the group's first row
abbrev pub group_leaf : Setting → List (List Value) → Node → ℕ → Value
group_leaf s rows (node.Aggregate f a) p = aggregate f (operands s a rows)
group_leaf s rows (node.Col c) p = value_at (first_row rows) p
group_leaf s rows _ p = Null

-- what each node stands for over a group
unfoldable pub group_values : Setting → List (List Value) → List NodeValue
group_values s rows = values_of (leaves_of (group_leaf s rows) s.query.nodes s.positions) s.texts s.query.nodes

unfoldable pub keeps_group : Setting → List (List Value) → Bool
keeps_group s rows = list_all (λ n. is_true (truth_of (group_values s rows) n)) (option_to_list s.query.having)

-- the output row; a star gives all columns of FROM
abbrev pub output_row : Setting → List NodeValue → List Value → List Value
output_row s values row = if s.query.star then row else map (λ (o : Output). value_of values o.node) s.query.outputs

abbrev pub target_value : List NodeValue → List Value → Target → Value
target_value values out (ToOutput k) = value_at out k
target_value values out (ToNode n) = value_of values n

-- the key of a row for one place of ORDER BY
abbrev pub sort_key : List NodeValue → List Value → Bool × Target → SortKey
sort_key values out t = record { descending = t.0; value = target_value values out t.1 }

-- the pair of an output row and its keys, of what the nodes stand for
unfoldable pub pair_of : Setting → List NodeValue → List Value → Pair
pair_of s values row =
    let out = output_row s values row in
    record { row = out; keys = map (sort_key values out) s.targets }

unfoldable pub row_pair : Setting → List Value → Pair
row_pair s row = pair_of s (row_values s row) row

unfoldable pub group_pair : Setting → List (List Value) → Pair
group_pair s rows = pair_of s (group_values s rows) (first_row rows)

-- the pairs of the rows that pass ON and WHERE
unfoldable pub pairs_of : Setting → List (List Value) → List Pair
pairs_of s rows =
    if is_grouped s.query
    then map (group_pair s) (filter (keeps_group s) (groups_of s rows))
    else map (row_pair s) rows

-- with DISTINCT the first pair of each output row
abbrev pub first_pairs_from : List Pair → List Pair → List Pair
first_pairs_from kept [] = kept
first_pairs_from kept (p ∷ ps) =
    first_pairs_from (if list_any (λ k. same_values p.row k.row) kept then kept else kept ++ p ∷ []) ps

-- what a SELECT means over its tables
unfoldable pub meaning : Query → List ℕ → List Table → List Pair
meaning q texts tables =
    let s = setting_of q texts tables in
    let pairs = pairs_of s (kept_rows s tables) in
    if q.distinct then first_pairs_from [] pairs else pairs

-- more than 2^30 rows to be grouped
unfoldable pub too_many : Query → List ℕ → List Table → Bool
too_many q texts tables =
    is_grouped q && nat_lt (2 ^ 30) (length (kept_rows (setting_of q texts tables) tables))
