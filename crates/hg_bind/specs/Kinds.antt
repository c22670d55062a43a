-- The kinds that the binder computes with, as the definitions know them.
use Rattle.hg_model.specs.Types as model
use Rattle.std.specs.Prelude.{ℕ, List, [], map}
use Rattle.hg_model.specs.ChangeBinding.{kind_of_column}
use Rattle.hg_model.specs.declared.trees.Column.{Column}
use Rattle.hg_model.specs.declared.trees.Node.{Node}
use Rattle.hg_bind.specs.declared.kinds.Kind.{Kind}
use Rattle.hg_bind.specs.declared.kinds.Kind.TheVariants as kind

abbrev pub shown : Kind → model.Kind
shown kind.Number = model.Number
shown kind.Letters = model.Letters
shown kind.Nothing = model.Nothing
shown kind.Condition = model.Condition

-- the kinds of the nodes, where each column node has the column of its number
abbrev pub kinds_of_nodes : List Column → List ℕ → List Node → List model.Kind
kinds_of_nodes columns numbers nodes = model.kinds_from (map (kind_of_column columns) numbers) nodes []
