-- What the nodes of a statement stand for over a row that holds the values of the columns that they name.
-- Our own rule.
use Rattle.std.specs.Prelude.{◌≡◌, ℕ, List, length}
use Rattle.hg_model.specs.Evaluation.{value_at, values_of}
use Rattle.hg_model.specs.SelectMeaning.{leaves_of}
use Rattle.hg_model.specs.Types.{bound_at, bounds_of}
use Rattle.hg_model.specs.Width.{IsBelow}
use Rattle.hg_model.specs.declared.values.Value.{Value}
use Rattle.hg_model.specs.declared.values.Value.TheVariants.{Null}
use Rattle.hg_model.specs.declared.values.NodeValue.{NodeValue}
use Rattle.hg_model.specs.declared.trees.Node.{Node}
use Rattle.hg_model.specs.declared.trees.Node.TheVariants as node

-- a column, and an aggregate, has the row's value at its slot; NULL behind the row's end
abbrev pub leaf_at : List Value → Node → ℕ → Value
leaf_at row (node.Col c) slot = value_at row slot
leaf_at row (node.Aggregate f a) slot = value_at row slot
leaf_at row _ slot = Null

abbrev pub leaves_at : List Value → List Node → List ℕ → List Value
leaves_at row nodes slots = leaves_of (leaf_at row) nodes slots

-- what each node stands for
unfoldable pub values_over : List ℕ → List ℕ → List Node → List Value → List NodeValue
values_over texts slots nodes row = values_of (leaves_at row nodes slots) texts nodes

-- A row fits the nodes: each has a slot, and what the row gives at it lies below the node's bound.
pub record RowFits (nodes : List Node) (slots : List ℕ) (row : List Value) : Type 0 where
  pub each : length slots ≡ length nodes
  pub below : (n : ℕ) → IsBelow (bound_at (bounds_of nodes) n) (value_at (leaves_at row nodes slots) n)
