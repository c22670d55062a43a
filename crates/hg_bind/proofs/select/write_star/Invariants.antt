use Rattle.std.proofs.Common.{◌≡◌, ◌++◌, ◌+◌, drop, map, length}
use Rattle.hg_bind.specs.BoundSelect.{column_node, star_outputs}
use Rattle.hg_bind.proofs.select.write_star.Given as goal

abbrev pub invariant-loop-column : goal.invariant-loop-column
invariant-loop-column l = record {
  nodes : l.nodes.items ++ map column_node (drop l.column-index l.scope) ≡ l.initial.nodes.items ++ map column_node l.scope;
  outputs : l.outputs.items ++ star_outputs (length l.initial.nodes.items + l.column-index) (drop l.column-index l.scope) ≡ star_outputs (length l.initial.nodes.items) l.scope;
  nodes_count : length l.nodes.items ≡ length l.initial.nodes.items + l.column-index;
  outputs_count : length l.outputs.items ≡ l.column-index;
}
