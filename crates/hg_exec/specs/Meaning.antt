-- What loops give and what a SELECT means. Our own rule.
use Rattle.std.specs.Prelude.{◌≡◌, ℕ, suc, ◌<◌, ◌≤◌, ◌-◌, Bool, false, List, [], ◌∷◌, ◌++◌, length, map, IsTrue, ⊤}
use Rattle.std.specs.List.{All, AllByRecursion, filter, flat_map, list_all}
use Rattle.hg_expr.specs.Laws.{AreOnePlaces}
use Rattle.hg_expr.specs.Slots.{slots_of}
use Rattle.hg_model.specs.Binding.{columns_at, free_from}
use Rattle.hg_model.specs.Conditions.{are_there, first_table, split_conditions}
use Rattle.hg_model.specs.SelectMeaning.{Setting, keeps_row, output_row, row_values}
use Rattle.hg_model.specs.Tables.{cross}
use Rattle.hg_model.specs.Width.{is_tree}
use Rattle.hg_model.specs.declared.tables.FromColumn.{FromColumn}
use Rattle.hg_model.specs.declared.trees.Output.{Output}
use Rattle.hg_model.specs.declared.values.Value.{Value}
use Rattle.hg_exec.specs.Joins.{Form, TableRows, rows_from}
use Rattle.hg_plan.specs.Planning.{AreNamed, AreTested}
use Rattle.hg_plan.specs.declared.plan.TableLoop.{TableLoop}

-- one row of each table, in all ways; the first table is the slowest
abbrev pub choices : List (List (List Value)) → List (List (List Value))
choices [] = [] ∷ []
choices (rows ∷ more) = flat_map (λ row. map (λ rest. row ∷ rest) (choices more)) rows

-- the rows of the tables of FROM
abbrev pub rows_in : TableRows → List TableLoop → List (List (List Value))
rows_in rows loops = map (λ (l : TableLoop). rows l.table) loops

-- all columns of a node are there when the last table has joined
abbrev pub IsThereAtLast : List FromColumn → Setting → List TableLoop → ℕ → Type 0
IsThereAtLast scope s loops n = IsTrue (are_there scope (columns_at (free_from s.positions s.query.nodes []) n) (length loops - 1))

-- what a SELECT is made of, where each column has this place
abbrev pub form_for : Setting → List (ℕ × ℕ) → Form
form_for s places = record { nodes = s.query.nodes; texts = s.texts; slots = slots_of s.query.nodes places; outputs = s.query.outputs }

-- Loops are planned for a SELECT without aggregates, whose star is written out. `one` says that a place is the
-- position in a row of the cross product.
pub record IsPlanned (scope : List FromColumn) (s : Setting) (places : List (ℕ × ℕ)) (f : Form) (loops : List TableLoop) (rows : TableRows) : Type 0 where
  pub form : f ≡ form_for s places
  pub star : s.query.star ≡ false
  pub tree : IsTrue (is_tree s.query.nodes)
  pub count : length loops ≡ length s.query.tables
  pub some : 0 < length loops
  pub few : length loops ≤ 4
  pub named : AreNamed s.query.nodes places 0 loops
  pub tested : AreTested scope s.positions s.query 0 loops
  pub tested_somewhere : All (λ n. first_table scope s.positions s.query n < length s.query.tables) (split_conditions s.query)
  pub outputs_there : AllByRecursion (λ (o : Output). IsThereAtLast scope s loops o.node) s.query.outputs
  pub one : AllByRecursion (λ chosen. AreOnePlaces scope chosen s.query.nodes s.positions places) (choices (rows_in rows loops))

-- Loops give the outputs of those rows of the cross product that ON and WHERE keep, in its order.
abbrev pub LoopsMeanSelect : Type 0
LoopsMeanSelect = (scope : List FromColumn) (s : Setting) (places : List (ℕ × ℕ)) (f : Form) (loops : List TableLoop) (rows : TableRows)
    → IsPlanned scope s places f loops rows
    → rows_from f rows loops [] ≡ map (λ row. output_row s (row_values s row) row) (filter (keeps_row s) (cross (rows_in rows loops)))
