-- What a plan of a SELECT is. Our own rule, for the order of tables and the place of each test.
use Rattle.std.specs.Prelude.{◌≡◌, ℕ, suc, Bool, List, [], ◌∷◌, map, ⊤}
use Rattle.std.specs.List.{list_all}
use Rattle.hg_expr.specs.Slots.{named_columns, slots_of}
use Rattle.hg_model.specs.Conditions.{table_at, tested_at}
use Rattle.hg_model.specs.Query.{Query}
use Rattle.hg_model.specs.declared.tables.FromColumn.{FromColumn}
use Rattle.hg_model.specs.declared.trees.Node.{Node}
use Rattle.hg_model.specs.declared.trees.Node.TheVariants as node
use Rattle.hg_plan.specs.declared.plan.Plan.{Plan}
use Rattle.hg_plan.specs.declared.plan.TableLoop.{TableLoop}

-- the columns of each loop are those of its table, by its position in FROM, that the nodes name
abbrev pub AreNamed : List Node → List (ℕ × ℕ) → ℕ → List TableLoop → Type 0
AreNamed nodes places k [] = ⊤
AreNamed nodes places k (l ∷ ls) = (l.columns.items ≡ named_columns nodes places k) × AreNamed nodes places (suc k) ls

-- the conditions of each loop are those that are tested at its table, in any order
abbrev pub AreTested : List FromColumn → List ℕ → Query → ℕ → List TableLoop → Type 0
AreTested scope positions q k [] = ⊤
AreTested scope positions q k (l ∷ ls) =
    ((p : ℕ → Bool) → list_all p l.tests.items ≡ list_all p (tested_at scope positions q k)) × AreTested scope positions q (suc k) ls

-- the position of a column, in a row of the cross product, and its place are of one table of FROM
abbrev pub IsOfTable : List FromColumn → Node → ℕ → ℕ × ℕ → Type 0
IsOfTable scope (node.Col c) position place = table_at scope position ≡ place.0
IsOfTable scope _ position place = ⊤

abbrev pub AreOfTables : List FromColumn → List Node → List ℕ → List (ℕ × ℕ) → Type 0
AreOfTables scope [] [] [] = ⊤
AreOfTables scope [] [] (place ∷ places) = ⊥
AreOfTables scope [] (p ∷ ps) places = ⊥
AreOfTables scope (n ∷ ns) [] places = ⊥
AreOfTables scope (n ∷ ns) (p ∷ ps) [] = ⊥
AreOfTables scope (n ∷ ns) (p ∷ ps) (place ∷ places) = IsOfTable scope n p place × AreOfTables scope ns ps places

-- A plan of a SELECT over the tables of these numbers, where each node has this place: a slot for each node, and
-- a loop for each table of FROM.
pub record IsPlanOf (q : Query) (tables : List ℕ) (places : List (ℕ × ℕ)) (p : Plan) : Type 0 where
  pub slots : p.slots.items ≡ slots_of q.nodes places
  pub tables_are : map (λ (l : TableLoop). l.table) p.loops.items ≡ tables
  pub named : AreNamed q.nodes places 0 p.loops.items
  pub tested : (scope : List FromColumn) (positions : List ℕ) → AreOfTables scope q.nodes positions places → AreTested scope positions q 0 p.loops.items
