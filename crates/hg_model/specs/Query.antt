-- The tree of a SELECT as lists.
use Rattle.std.specs.Prelude.{ℕ, Bool, List, Option}
use Rattle.hg_model.specs.declared.trees.Select.{Select}
use Rattle.hg_model.specs.declared.trees.Output.{Output}
use Rattle.hg_model.specs.declared.trees.FromTable.{FromTable}
use Rattle.hg_model.specs.declared.trees.OrderKey.{OrderKey}
use Rattle.hg_model.specs.declared.trees.Node.{Node}

pub record Query : Type 0 where
  pub distinct : Bool
  pub star : Bool
  pub outputs : List Output
  pub tables : List FromTable
  pub filter : Option ℕ
  pub group : List ℕ
  pub having : Option ℕ
  pub order : List OrderKey
  pub nodes : List Node

abbrev pub query_of : Select → Query
query_of s = record { distinct = s.distinct; star = s.star; outputs = s.outputs.items; tables = s.tables.items; filter = s.filter; group = s.group.items; having = s.having; order = s.order.items; nodes = s.nodes.items }
