-- How the tables of a SELECT are joined and read. Our own rule: tables are joined in the order of FROM; a
-- later table with conditions `its column = column of an earlier table` is joined by a hash join; a table
-- is read through the first index, by creation, whose first column has a condition `column = constant`,
-- else by a scan.
use Rattle.std.specs.Prelude.{ℕ, suc, Bool, true, false, List, [], ◌∷◌, Option, Some, None, length, take, map, option_map, ◌+◌, ◌&&◌, not, nat_lt, nat_eq, slice_get, if◌then◌else◌}
use Rattle.std.specs.List.{list_any, filter, filter_map, count_by, position_or_len, range_with_len}
use Rattle.hg_model.specs.Binding.{is_place}
use Rattle.hg_model.specs.Conditions.{split_conditions, table_at, tested_at}
use Rattle.hg_model.specs.Creation.{Index}
use Rattle.hg_model.specs.Query.{Query}
use Rattle.hg_model.specs.Scope.{scope_of, positions_of, column_place}
use Rattle.hg_model.specs.Tables.{Table, same_name}
use Rattle.hg_model.specs.declared.tables.FromColumn.{FromColumn}
use Rattle.hg_model.specs.declared.trees.Cmp.TheVariants as cmp
use Rattle.hg_model.specs.declared.trees.FromTable.{FromTable}
use Rattle.hg_model.specs.declared.trees.Literal.TheVariants as literal
use Rattle.hg_model.specs.declared.trees.Node.{Node}
use Rattle.hg_model.specs.declared.trees.Node.TheVariants as node

abbrev pub some_passes : (ℕ → Bool) → Option ℕ → Bool
some_passes test None = false
some_passes test (Some k) = test k

-- whether a node is a column alone, of a table whose position in FROM passes a test
abbrev pub is_column_of : (ℕ → Bool) → List FromColumn → List ℕ → Query → ℕ → Bool
is_column_of test scope positions q n = some_passes test (option_map (table_at scope) (column_place positions q.nodes n))

-- A key of a hash join at a later table: the condition, and the nodes of the table's own column and of the
-- earlier one. Either may stand first.
pub record JoinKey : Type 0 where
  pub condition : ℕ
  pub own : ℕ
  pub earlier : ℕ

abbrev pub is_key_at : List FromColumn → List ℕ → Query → ℕ → ℕ → ℕ → Bool
is_key_at scope positions q k own earlier =
    is_column_of (nat_eq k) scope positions q own && is_column_of (λ t. nat_lt t k) scope positions q earlier

abbrev pub key_of_sides : List FromColumn → List ℕ → Query → ℕ → ℕ → ℕ → ℕ → Option JoinKey
key_of_sides scope positions q k n a b =
    if is_key_at scope positions q k a b
    then Some (record { condition = n; own = a; earlier = b })
    else (if is_key_at scope positions q k b a then Some (record { condition = n; own = b; earlier = a }) else None)

abbrev pub key_of_node : List FromColumn → List ℕ → Query → ℕ → ℕ → Option Node → Option JoinKey
key_of_node scope positions q k n (Some (node.Compare cmp.Eq a b)) = key_of_sides scope positions q k n a b
key_of_node scope positions q k n _ = None

-- the equalities of the k-th table with earlier ones, among the conditions tested there; the first eight
-- are the keys of its hash join
abbrev pub equalities_at : List FromColumn → List ℕ → Query → ℕ → List JoinKey
equalities_at scope positions q k = filter_map (λ n. key_of_node scope positions q k n (slice_get q.nodes n)) (tested_at scope positions q k)

abbrev pub keys_at : List FromColumn → List ℕ → Query → ℕ → List JoinKey
keys_at scope positions q k = take 8 (equalities_at scope positions q k)

abbrev pub is_hash_join : List FromColumn → List ℕ → Query → ℕ → Bool
is_hash_join scope positions q k = nat_lt 0 (length (keys_at scope positions q k))

-- the other conditions that are tested at the k-th table, behind its join
abbrev pub is_no_key : List JoinKey → ℕ → Bool
is_no_key keys n = not (list_any (λ (key : JoinKey). nat_eq key.condition n) keys)

abbrev pub tests_at : List FromColumn → List ℕ → Query → ℕ → List ℕ
tests_at scope positions q k = filter (is_no_key (keys_at scope positions q k)) (tested_at scope positions q k)

-- the number of hash joins, and the floor: one more with ORDER BY
abbrev pub hash_joins : List Table → Query → ℕ
hash_joins tables q = let scope = scope_of tables q in count_by (is_hash_join scope (positions_of scope q) q) (range_with_len 0 (length q.tables))

abbrev pub is_ordered : Query → Bool
is_ordered q = nat_lt 0 (length q.order)

unfoldable pub floor_of : List Table → Query → ℕ
floor_of tables q = hash_joins tables q + (if is_ordered q then 1 else 0)

-- a constant is a literal that is not NULL, or a unary minus of a number literal
abbrev pub is_number_literal : Option Node → Bool
is_number_literal (Some (node.Lit (literal.Int x))) = true
is_number_literal _ = false

abbrev pub is_constant : List Node → Option Node → Bool
is_constant nodes (Some (node.Lit (literal.Int x))) = true
is_constant nodes (Some (node.Lit (literal.Text s))) = true
is_constant nodes (Some (node.Neg a)) = is_number_literal (slice_get nodes a)
is_constant nodes _ = false

-- the node of the constant that a condition `column = constant` gives for the column at a place, either
-- side first
abbrev pub is_equated : List ℕ → Query → ℕ → ℕ → ℕ → Bool
is_equated positions q p column constant =
    is_place p (column_place positions q.nodes column) && is_constant q.nodes (slice_get q.nodes constant)

abbrev pub constant_of_sides : List ℕ → Query → ℕ → ℕ → ℕ → Option ℕ
constant_of_sides positions q p a b =
    if is_equated positions q p a b then Some b else (if is_equated positions q p b a then Some a else None)

abbrev pub constant_of_node : List ℕ → Query → ℕ → Option Node → Option ℕ
constant_of_node positions q p (Some (node.Compare cmp.Eq a b)) = constant_of_sides positions q p a b
constant_of_node positions q p _ = None

abbrev pub constants_for : List ℕ → Query → ℕ → List ℕ
constants_for positions q p = filter_map (λ n. constant_of_node positions q p (slice_get q.nodes n)) (split_conditions q)

-- the place in a row of the cross product of a column of the k-th table
abbrev pub is_at : ℕ → ℕ → FromColumn → Bool
is_at k column c = nat_eq c.table k && nat_eq c.place column

abbrev pub place_of : List FromColumn → ℕ → ℕ → ℕ
place_of scope k column = position_or_len (is_at k column) scope

-- an index through which a table is read: its number by creation, and the node of the constant, that of the
-- first such condition
pub record IndexRead : Type 0 where
  pub index : ℕ
  pub constant : ℕ

-- the constant for the first column of an index, of an index of this table
abbrev pub first_constant : List FromColumn → List ℕ → Query → ℕ → List ℕ → Option ℕ
first_constant scope positions q k [] = None
first_constant scope positions q k (c ∷ cs) = slice_get (constants_for positions q (place_of scope k c)) 0

abbrev pub index_constant : List FromColumn → List ℕ → Query → ℕ → List ℕ → Index → Option ℕ
index_constant scope positions q k table i =
    if same_name i.table table then first_constant scope positions q k i.columns else None

abbrev pub this_or : ℕ → Option ℕ → Option IndexRead → Option IndexRead
this_or number None other = other
this_or number (Some c) other = Some (record { index = number; constant = c })

abbrev pub first_index : (Index → Option ℕ) → ℕ → List Index → Option IndexRead
first_index constant number [] = None
first_index constant number (i ∷ more) = this_or number (constant i) (first_index constant (suc number) more)

abbrev pub index_of : List Index → List FromColumn → List ℕ → Query → ℕ → Option FromTable → Option IndexRead
index_of indexes scope positions q k None = None
index_of indexes scope positions q k (Some f) = first_index (index_constant scope positions q k f.table) 0 indexes

-- the plan of one table of FROM: how it is read, how it is joined, and what is tested behind that
pub record TablePlan : Type 0 where
  pub index : Option IndexRead
  pub keys : List JoinKey
  pub tests : List ℕ

abbrev pub table_plan : List Index → List FromColumn → List ℕ → Query → ℕ → TablePlan
table_plan indexes scope positions q k =
    record { index = index_of indexes scope positions q k (slice_get q.tables k); keys = keys_at scope positions q k; tests = tests_at scope positions q k }

unfoldable pub plan_of : List Table → List Index → Query → List TablePlan
plan_of tables indexes q =
    let scope = scope_of tables q in
    map (table_plan indexes scope (positions_of scope q) q) (range_with_len 0 (length q.tables))
