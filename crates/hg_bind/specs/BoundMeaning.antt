-- What a bound SELECT means over the rows of its tables: its tables are known by their numbers, its columns by
-- their places, and no name is looked at. The definitions of filter, groups, HAVING, outputs, order keys and
-- DISTINCT are those of a SELECT's meaning, over the setting that the bound form gives. Our own rule.
use Rattle.std.specs.Prelude.{◌≡◌, ◌≤◌, ℕ, Bool, true, List, [], ◌∷◌, ◌++◌, Option, Some, None, map, length, ◌&&◌, not, nat_lt, ◌^◌, slice_get, IsTrue, if◌then◌else◌}
use Rattle.std.specs.List.{filter, flat_map, list_all}
use Rattle.std.specs.Option.{option_to_list}
use Rattle.hg_catalog.specs.Contents.{are_different_names}
use Rattle.hg_model.specs.Binding.{is_order_key}
use Rattle.hg_model.specs.Order.{Pair}
use Rattle.hg_model.specs.Query.{Query}
use Rattle.hg_model.specs.Reading.{Reads, Statement}
use Rattle.hg_model.specs.Scope.{columns_of, rows_of}
use Rattle.hg_model.specs.SelectMeaning.{Setting, conditions, first_pairs_from, is_grouped, keeps_row, kept_rows, meaning, on_conditions, pairs_of, setting_of, too_many}
use Rattle.hg_model.specs.Statements.{SelectRows, OpenCursor}
use Rattle.hg_model.specs.Tables.{Table, cross, table_fits}
use Rattle.hg_model.specs.declared.tables.Target.{Target}
use Rattle.hg_model.specs.declared.trees.Node.{Node}
use Rattle.hg_model.specs.declared.trees.Node.TheVariants as node
use Rattle.hg_model.specs.declared.trees.OrderBy.{OrderBy}
use Rattle.hg_model.specs.declared.trees.OrderBy.TheVariants.{Position, Column as ByColumn}
use Rattle.hg_model.specs.declared.trees.OrderKey.{OrderKey}
use Rattle.hg_model.specs.declared.trees.Output.{Output}
use Rattle.hg_model.specs.declared.values.Value.{Value}
use Rattle.hg_bind.specs.BoundSelect.{IsBoundSelect, bound_target, position_at}

-- the rows of the table of a number, and how many values each has
abbrev pub rows_at : List Table → ℕ → List (List Value)
rows_at tables k = rows_of (slice_get tables k)

abbrev pub width_at : List Table → ℕ → ℕ
width_at tables k = length (columns_of (slice_get tables k))

-- the rows of the tables beside one another
abbrev pub rows_beside : List Table → List ℕ → List (List Value)
rows_beside tables numbers = cross (map (rows_at tables) numbers)

-- a key of ORDER BY orders by the output of its position, or by its node
abbrev pub key_target : OrderKey → Bool × Target
key_target k = (k.descending, bound_target k.by)

-- What stays the same for all rows: a place, the number of a table in FROM and of a column there, is a
-- position in the rows beside one another.
abbrev pub bound_setting : List Table → Query → List ℕ → List ℕ → List (ℕ × ℕ) → Setting
bound_setting tables bound texts numbers places = record {
  query = bound;
  texts = texts;
  positions = map (position_at (map (width_at tables) numbers)) places;
  targets = map key_target bound.order;
}

-- the rows that pass ON and WHERE
unfoldable pub bound_rows : List Table → Query → List ℕ → List ℕ → List (ℕ × ℕ) → List (List Value)
bound_rows tables bound texts numbers places =
    filter (keeps_row (bound_setting tables bound texts numbers places)) (rows_beside tables numbers)

-- what a bound SELECT means over its tables
unfoldable pub bound_meaning : List Table → Query → List ℕ → List ℕ → List (ℕ × ℕ) → List Pair
bound_meaning tables bound texts numbers places =
    let pairs = pairs_of (bound_setting tables bound texts numbers places) (bound_rows tables bound texts numbers places) in
    if bound.distinct then first_pairs_from [] pairs else pairs

-- more than 2^30 rows to be grouped
unfoldable pub bound_too_many : List Table → Query → List ℕ → List ℕ → List (ℕ × ℕ) → Bool
bound_too_many tables bound texts numbers places =
    is_grouped bound && nat_lt (2 ^ 30) (length (bound_rows tables bound texts numbers places))

-- the nodes that a statement speaks of outside ORDER BY: those of outputs, conditions, groups and HAVING, and
-- those below others
abbrev pub children : Node → List ℕ
children (node.Lit l) = []
children (node.Col c) = []
children (node.Neg a) = a ∷ []
children (node.Arith o a b) = a ∷ b ∷ []
children (node.Compare c a b) = a ∷ b ∷ []
children (node.Both a b) = a ∷ b ∷ []
children (node.Either a b) = a ∷ b ∷ []
children (node.Not a) = a ∷ []
children (node.IsNull a) = a ∷ []
children (node.NotNull a) = a ∷ []
children (node.Aggregate f a) = option_to_list a

abbrev pub nodes_used : Query → List ℕ
nodes_used q =
    map (λ (o : Output). o.node) q.outputs ++ (conditions q ++ (q.group ++ (option_to_list q.having ++ flat_map children q.nodes)))

abbrev pub is_apart : Query → ℕ → Bool
is_apart q n = nat_lt n (length q.nodes) && not (is_order_key q n)

abbrev pub is_within : ℕ → OrderBy → Bool
is_within nodes (Position k) = true
is_within nodes (ByColumn n) = nat_lt n nodes

abbrev pub is_behind : List ℕ → OrderBy → Bool
is_behind roots (Position k) = true
is_behind roots (ByColumn n) = list_all (λ m. nat_lt m n) roots

-- Every node that a statement speaks of is there, and a name in ORDER BY is a node of its own, behind those of
-- conditions of ON.
pub record KeysStandApart (q : Query) : Type 0 where
  pub others : IsTrue (list_all (is_apart q) (nodes_used q))
  pub keys : IsTrue (list_all (λ (k : OrderKey). is_within (length q.nodes) k.by) q.order)
  pub behind : IsTrue (list_all (λ (k : OrderKey). is_behind (on_conditions q.tables) k.by) q.order)

-- so is each SELECT that a line is read as, alone or of OPEN
abbrev pub ReadKeysStandApart : Type 0
ReadKeysStandApart = (max : ℕ) (line : List ℕ) (q : Query) (texts : List ℕ) → Reads max line (Statement (SelectRows q) texts) → KeysStandApart q

abbrev pub OpenedKeysStandApart : Type 0
OpenedKeysStandApart = (max : ℕ) (line cursor : List ℕ) (q : Query) (texts : List ℕ) → Reads max line (Statement (OpenCursor cursor q) texts) → KeysStandApart q

-- a table without its rows: all that binding looks at
abbrev pub bare : Table → Table
bare t = record { name = t.name; columns = t.columns; rows = [] }

-- Tables that a statement was bound over, whatever rows they have: each row fits its table, and no name stands
-- twice.
pub record AreTablesOf (seen tables : List Table) : Type 0 where
  pub bare_are : map bare tables ≡ map bare seen
  pub different : IsTrue (are_different_names (map (λ (t : Table). t.name) tables))
  pub fit : IsTrue (list_all table_fits tables)

-- the bound form means what the statement means: the same rows pass, the same pairs come, and too many rows
-- are too many
pub record MeansTheSame (tables : List Table) (q bound : Query) (texts numbers : List ℕ) (places : List (ℕ × ℕ)) : Type 0 where
  pub rows : bound_rows tables bound texts numbers places ≡ kept_rows (setting_of q texts tables) tables
  pub pairs : bound_meaning tables bound texts numbers places ≡ meaning q texts tables
  pub many : bound_too_many tables bound texts numbers places ≡ too_many q texts tables

-- The law: a SELECT that was bound over some tables means the same in its bound form, whatever rows the tables
-- then have.
abbrev pub BoundMeansTheSame : Type 0
BoundMeansTheSame = (seen tables : List Table) (q bound : Query) (texts numbers : List ℕ) (places : List (ℕ × ℕ))
    → IsBoundSelect seen q bound numbers places → KeysStandApart q → length q.tables ≤ 4 → AreTablesOf seen tables
    → MeansTheSame tables q bound texts numbers places
