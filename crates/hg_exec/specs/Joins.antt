-- What nested loops give: for each row of the first table, each row of the second, and so on, an output, where
-- the conditions that are tested at each table keep the rows joined so far. Our own rule, for the order of
-- tables and the place of each test.
use Rattle.std.specs.Prelude.{ℕ, Bool, List, [], ◌∷◌, ◌++◌, map, if◌then◌else◌}
use Rattle.std.specs.List.{flat_map, list_all}
use Rattle.hg_expr.specs.Over.{values_over}
use Rattle.hg_model.specs.Evaluation.{value_of, truth_of}
use Rattle.hg_model.specs.NullLogic.{is_true}
use Rattle.hg_model.specs.declared.trees.Node.{Node}
use Rattle.hg_model.specs.declared.trees.Output.{Output}
use Rattle.hg_model.specs.declared.values.Value.{Value}
use Rattle.hg_value.specs.Looks.{chosen}
use Rattle.hg_exec.specs.declared.plan.Statement.{Statement}
use Rattle.hg_plan.specs.declared.plan.TableLoop.{TableLoop}

-- what the outputs and the conditions of a SELECT are made of; a node's slot is the number of its value in the
-- joined row
pub record Form : Type 0 where
  pub nodes : List Node
  pub texts : List ℕ
  pub slots : List ℕ
  pub outputs : List Output

abbrev pub form_of : Statement → Form
form_of s = record { nodes = s.nodes.now; texts = s.texts.now; slots = s.slots.now; outputs = s.outputs.now }

-- whether all of some conditions are true over the row joined so far
abbrev pub passes : Form → List ℕ → List Value → Bool
passes f tests held = list_all (λ n. is_true (truth_of (values_over f.texts f.slots f.nodes held) n)) tests

-- the output row
abbrev pub output_of : Form → List Value → List Value
output_of f held = map (λ (o : Output). value_of (values_over f.texts f.slots f.nodes held) o.node) f.outputs

-- the row joined so far with the named columns of one row more
abbrev pub joined_with : TableLoop → List Value → List Value → List Value
joined_with l held row = held ++ chosen row l.columns.items

-- the rows of tables, by their numbers
abbrev pub TableRows : Type 0
TableRows = ℕ → List (List Value)

-- what these loops give over a row joined so far
abbrev pub rows_from : Form → TableRows → List TableLoop → List Value → List (List Value)
rows_from f rows [] held = output_of f held ∷ []
rows_from f rows (l ∷ ls) held =
    flat_map (λ row. if passes f l.tests.items (joined_with l held row) then rows_from f rows ls (joined_with l held row) else []) (rows l.table)

-- what one row of a table gives, with the loops inside its own
abbrev pub rows_with : Form → TableRows → TableLoop → List TableLoop → List Value → List Value → List (List Value)
rows_with f rows l ls held row =
    if passes f l.tests.items (joined_with l held row) then rows_from f rows ls (joined_with l held row) else []

-- what these rows of a table give
abbrev pub rows_over : Form → TableRows → TableLoop → List TableLoop → List Value → List (List Value) → List (List Value)
rows_over f rows l ls held left = flat_map (rows_with f rows l ls held) left
