-- Which commands there are by now. Any other line that the grammar reads as a command is a syntax error.
use Rattle.std.specs.Prelude.{ℕ, Bool, true, false, List, [], ◌∷◌, not, ◌&&◌, ◌||◌}
use Rattle.std.specs.List.{list_all}
use Rattle.hg_model.specs.Query.{Query}
use Rattle.hg_model.specs.SelectMeaning.{is_grouped}
use Rattle.hg_model.specs.Statements.{CommandTree, CreateTable, CreateIndex, InsertRows, UpdateRows, DeleteRows, Vacuum, SelectRows, OpenCursor, Start, Work, Fetch, Close, Pool, Mpl, ShowMemory}
use Rattle.hg_model.specs.declared.trees.NewColumn.{NewColumn}

-- a column that is no key
abbrev pub is_plain_column : NewColumn → Bool
is_plain_column c = not (c.primary || c.unique)

abbrev pub is_nothing : {A : Type 0} → List A → Bool
is_nothing [] = true
is_nothing (x ∷ xs) = false

-- a SELECT without groups, DISTINCT and ORDER BY: its rows come one by one, in any order
abbrev pub is_plain_select : Query → Bool
is_plain_select q = not q.distinct && is_nothing q.order && not (is_grouped q)

abbrev pub is_built : CommandTree → Bool
is_built (CreateTable t) = list_all is_plain_column t.columns
is_built (CreateIndex i) = false
is_built (InsertRows i) = true
is_built (UpdateRows u) = true
is_built (DeleteRows d) = true
is_built (Vacuum t) = false
is_built (SelectRows q) = is_plain_select q
is_built (OpenCursor c q) = false
is_built (Start c n) = false
is_built (Work n) = false
is_built (Fetch c n) = false
is_built (Close c) = false
is_built (Pool n) = true
is_built (Mpl n) = false
is_built ShowMemory = false
