-- The conditions of a SELECT one by one, and where each is tested. Our own rule: the conditions of ON in
-- order and then of WHERE, split at AND; each is tested at the first table of FROM where all its columns
-- are there.
use Rattle.std.specs.Prelude.{ℕ, zero, suc, Bool, List, [], ◌∷◌, ◌++◌, length, nat_le, nat_lt, nat_eq, slice_index_or}
use Rattle.std.specs.List.{flat_map, list_all, filter, position_or_len, range_with_len}
use Rattle.hg_model.specs.Binding.{columns_at, free_from}
use Rattle.hg_model.specs.Evaluation.{truth_of}
use Rattle.hg_model.specs.NullLogic.{is_true}
use Rattle.hg_model.specs.Query.{Query}
use Rattle.hg_model.specs.SelectMeaning.{Setting, conditions, row_values}
use Rattle.hg_model.specs.declared.tables.FromColumn.{FromColumn}
use Rattle.hg_model.specs.declared.trees.Node.{Node}
use Rattle.hg_model.specs.declared.trees.Node.TheVariants as node
use Rattle.hg_model.specs.declared.values.Value.{Value}

-- for each node: the nodes that its condition is split into, itself where it is no AND
abbrev pub parts_at : List (List ℕ) → ℕ → List ℕ
parts_at done n = slice_index_or done n (n ∷ [])

abbrev pub parts_of : ℕ → Node → List (List ℕ) → List ℕ
parts_of k (node.Both a b) done = parts_at done a ++ parts_at done b
parts_of k _ done = k ∷ []

abbrev pub parts_from : List Node → List (List ℕ) → List (List ℕ)
parts_from [] done = done
parts_from (n ∷ ns) done = parts_from ns (done ++ parts_of (length done) n done ∷ [])

-- the conditions of ON in order and then of WHERE, split at AND
abbrev pub split_conditions : Query → List ℕ
split_conditions q = flat_map (parts_at (parts_from q.nodes [])) (conditions q)

-- whether a row meets some conditions
abbrev pub meets : Setting → List ℕ → List Value → Bool
meets s ns row = list_all (λ n. is_true (truth_of (row_values s row) n)) ns

-- the position in FROM of the table of a column, by the column's place in a row of the cross product
abbrev pub table_at : List FromColumn → ℕ → ℕ
table_at [] p = 0
table_at (c ∷ cs) zero = c.table
table_at (c ∷ cs) (suc p) = table_at cs p

-- whether all columns of a condition are there when the tables up to the k-th are joined
abbrev pub are_there : List FromColumn → List ℕ → ℕ → Bool
are_there scope places k = list_all (λ p. nat_le (table_at scope p) k) places

-- the first table, by its position in FROM, where all columns of a condition are there
abbrev pub first_table : List FromColumn → List ℕ → Query → ℕ → ℕ
first_table scope positions q n =
    position_or_len (are_there scope (columns_at (free_from positions q.nodes []) n)) (range_with_len 0 (length q.tables))

-- the conditions that are tested at the k-th table, and those that are tested before it
abbrev pub tested_at : List FromColumn → List ℕ → Query → ℕ → List ℕ
tested_at scope positions q k = filter (λ n. nat_eq (first_table scope positions q n) k) (split_conditions q)

abbrev pub tested_before : List FromColumn → List ℕ → Query → ℕ → List ℕ
tested_before scope positions q k = filter (λ n. nat_lt (first_table scope positions q n) k) (split_conditions q)
