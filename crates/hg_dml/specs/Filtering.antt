-- Which rows a DELETE or an UPDATE concerns: those that its condition keeps. Our own rule on what is asked
-- of a condition; what it keeps is the definitions'.
use Rattle.std.specs.Prelude.{◌≡◌, ℕ, Bool, false, List, Option, length}
use Rattle.std.specs.List.{list_any}
use Rattle.hg_model.specs.Changes.{passes}
use Rattle.hg_model.specs.SelectMeaning.{is_aggregate, node_values}
use Rattle.hg_model.specs.Width.{IsSound}
use Rattle.hg_model.specs.declared.trees.Node.{Node}
use Rattle.hg_model.specs.declared.values.Value.{Value}

-- Whether a row passes a condition, of what the nodes stand for over it: what `delete_passes` and
-- `update_passes` say of a statement with these nodes and this condition.
abbrev pub row_passes : List ℕ → List ℕ → List Node → Option ℕ → List Value → Bool
row_passes texts positions nodes condition row = passes condition (node_values texts positions nodes row)

-- Nodes that may be evaluated over rows of a table: `positions` has for each the number of its column.
pub record IsFilter (texts positions : List ℕ) (nodes : List Node) : Type 0 where
  pub sound : IsSound texts nodes
  pub each : length positions ≡ length nodes
  pub no_aggregate : list_any is_aggregate nodes ≡ false
