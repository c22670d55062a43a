-- What a column's name in a SELECT stands for. SQL-92, section 6.4. That a condition of ON may name
-- any table to its left, and the rule for names in ORDER BY, are our own rules.
use Rattle.std.specs.Prelude.{ℕ, suc, Bool, true, false, List, [], ◌∷◌, ◌++◌, Option, Some, None, length, ◌&&◌, ◌||◌, nat_lt, nat_le, slice_index, slice_get, ◌-◌, if◌then◌else◌}
use Rattle.std.specs.List.{position_or_len}
use Rattle.hg_model.specs.declared.values.Value.{Value}
use Rattle.hg_model.specs.Query.{Query}
use Rattle.hg_model.specs.Tables.{Table, table_named, same_name}
use Rattle.hg_model.specs.declared.tables.FromColumn.{FromColumn}
use Rattle.hg_model.specs.declared.tables.Target.{Target}
use Rattle.hg_model.specs.declared.tables.Target.TheVariants.{ToOutput, ToNode}
use Rattle.hg_model.specs.declared.trees.FromTable.{FromTable}
use Rattle.hg_model.specs.declared.trees.Column.{Column}
use Rattle.hg_model.specs.declared.trees.ColRef.{ColRef}
use Rattle.hg_model.specs.declared.trees.Output.{Output}
use Rattle.hg_model.specs.declared.trees.OrderBy.{OrderBy}
use Rattle.hg_model.specs.declared.trees.OrderBy.TheVariants.{Position, Column as ByColumn}
use Rattle.hg_model.specs.declared.trees.Node.{Node}
use Rattle.hg_model.specs.declared.trees.Node.TheVariants as node

-- The columns of FROM stand in order of tables and then of columns, as the values of a row of the cross
-- product do.
abbrev pub columns_from : ℕ → List ℕ → ℕ → List Column → List FromColumn
columns_from table alias place [] = []
columns_from table alias place (c ∷ cs) =
    record { table = table; alias = alias; place = place; column = c } ∷ columns_from table alias (suc place) cs

abbrev pub columns_of : Option Table → List Column
columns_of None = []
columns_of (Some t) = t.columns

abbrev pub rows_of : Option Table → List (List Value)
rows_of None = []
rows_of (Some t) = t.rows

abbrev pub scope_from : List Table → ℕ → List FromTable → List FromColumn
scope_from tables k [] = []
scope_from tables k (f ∷ fs) =
    columns_from k f.alias 0 (columns_of (table_named tables f.table)) ++ scope_from tables (suc k) fs

-- the columns of FROM
abbrev pub scope_of : List Table → Query → List FromColumn
scope_of tables q = scope_from tables 0 q.tables

-- whether a name, with or without a table, names that column of FROM
abbrev pub is_of_table : Option (List ℕ) → List ℕ → Bool
is_of_table None alias = true
is_of_table (Some t) alias = same_name t alias

abbrev pub is_named : ColRef → FromColumn → Bool
is_named c f = is_of_table c.table f.alias && same_name c.name f.column.name

-- Nodes stand in order of text: those of the outputs, those of each condition of ON, then the others.
-- So the first condition of ON that is not before a node, where the node is behind the outputs', is
-- the one that the node stands in; it sees its own table and those to its left.
abbrev pub is_within : Option ℕ → ℕ → Bool
is_within None n = false
is_within (Some root) n = nat_le n root

abbrev pub seen_from : ℕ → List FromTable → ℕ → ℕ
seen_from k [] n = k
seen_from k (f ∷ fs) n = if is_within f.on n then suc k else seen_from (suc k) fs n

abbrev pub is_in_outputs : List Output → ℕ → Bool
is_in_outputs [] n = false
is_in_outputs (o ∷ os) n = nat_le n o.node || is_in_outputs os n

-- how many tables of FROM, from the left, the node at an index sees
abbrev pub tables_seen : Query → ℕ → ℕ
tables_seen q n = if is_in_outputs q.outputs n then length q.tables else seen_from 0 q.tables n

-- the place of a column node in a row of the cross product: the first column of FROM that it sees
-- and names. Of a bound statement there is exactly one. A node that is no column has no place: it gets
-- the one behind the last.
abbrev pub is_meant : ColRef → ℕ → FromColumn → Bool
is_meant c seen f = nat_lt f.table seen && is_named c f

abbrev pub column_meant : List FromColumn → ℕ → ColRef → ℕ
column_meant scope seen c = position_or_len (is_meant c seen) scope

abbrev pub position_of : List FromColumn → ℕ → Node → ℕ
position_of scope seen (node.Col c) = column_meant scope seen c
position_of scope seen _ = length scope

abbrev pub positions_from : List FromColumn → Query → ℕ → List Node → List ℕ
positions_from scope q k [] = []
positions_from scope q k (n ∷ ns) = position_of scope (tables_seen q k) n ∷ positions_from scope q (suc k) ns

-- for each node, the place of its value in a row of the cross product
abbrev pub positions_of : List FromColumn → Query → List ℕ
positions_of scope q = positions_from scope q 0 q.nodes

-- whether a name in ORDER BY finds an output: it is the name after its AS, or the output is a column
-- alone of that name, and of that table where the key names one
abbrev pub no_table : Option (List ℕ) → Bool
no_table None = true
no_table (Some t) = false

abbrev pub is_output_name : ColRef → Option (List ℕ) → Bool
is_output_name c None = false
is_output_name c (Some name) = no_table c.table && same_name c.name name

abbrev pub is_among_named : ColRef → Option FromColumn → Bool
is_among_named c None = false
is_among_named c (Some f) = is_named c f

abbrev pub is_column_named : List FromColumn → ColRef → Option ℕ → Bool
is_column_named scope c None = false
is_column_named scope c (Some p) = is_among_named c (slice_get scope p)

-- the place in a row of the cross product, where a node is a column alone
abbrev pub place_if_column : ℕ → Node → Option ℕ
place_if_column p (node.Col c) = Some p
place_if_column p _ = None

abbrev pub place_if_node : ℕ → Option Node → Option ℕ
place_if_node p None = None
place_if_node p (Some n) = place_if_column p n

abbrev pub column_place : List ℕ → List Node → ℕ → Option ℕ
column_place positions nodes n = place_if_node (slice_index positions n) (slice_get nodes n)

abbrev pub finds_output : List FromColumn → List ℕ → List Node → ColRef → Output → Bool
finds_output scope positions nodes c o =
    is_output_name c o.name || is_column_named scope c (column_place positions nodes o.node)

-- the first output that a name in ORDER BY finds, or their number; with a star the outputs are the
-- columns of FROM
abbrev pub written_output : List FromColumn → List ℕ → Query → ColRef → ℕ
written_output scope positions q c = position_or_len (finds_output scope positions q.nodes c) q.outputs

abbrev pub star_output : List FromColumn → ColRef → ℕ
star_output scope c = position_or_len (is_named c) scope

abbrev pub output_found : List FromColumn → List ℕ → Query → ColRef → ℕ
output_found scope positions q c = if q.star then star_output scope c else written_output scope positions q c

abbrev pub output_count : List FromColumn → Query → ℕ
output_count scope q = if q.star then length scope else length q.outputs

abbrev pub output_or_node : ℕ → ℕ → ℕ → Target
output_or_node found count n = if nat_lt found count then ToOutput found else ToNode n

abbrev pub name_target : List FromColumn → List ℕ → Query → ℕ → Option Node → Target
name_target scope positions q n None = ToNode n
name_target scope positions q n (Some (node.Col c)) = output_or_node (output_found scope positions q c) (output_count scope q) n
name_target scope positions q n (Some (node.Lit l)) = ToNode n
name_target scope positions q n (Some (node.Neg a)) = ToNode n
name_target scope positions q n (Some (node.Arith o a b)) = ToNode n
name_target scope positions q n (Some (node.Compare c a b)) = ToNode n
name_target scope positions q n (Some (node.Both a b)) = ToNode n
name_target scope positions q n (Some (node.Either a b)) = ToNode n
name_target scope positions q n (Some (node.Not a)) = ToNode n
name_target scope positions q n (Some (node.IsNull a)) = ToNode n
name_target scope positions q n (Some (node.NotNull a)) = ToNode n
name_target scope positions q n (Some (node.Aggregate f a)) = ToNode n

-- A position counts the outputs from 1. A name is an output that it finds, and else a column of FROM.
abbrev pub target_of : List FromColumn → List ℕ → Query → OrderBy → Target
target_of scope positions q (Position k) = ToOutput (k - 1)
target_of scope positions q (ByColumn n) = name_target scope positions q n (slice_get q.nodes n)
