use Rattle.std.proofs.Common.{◌≡◌, drop, take, map}
use Rattle.hg_model.specs.ChangeBinding.{change_positions, node_name_cause}
use Rattle.hg_model.specs.Refusal.{first_cause}
use Rattle.hg_model.specs.Scope.{columns_from}
use Rattle.hg_bind.specs.Bound.{row_places}
use Rattle.hg_bind.proofs.nodes.place_nodes.Given as goal

abbrev pub invariant-loop-node : goal.invariant-loop-node
invariant-loop-node l = record {
  places : l.places.items ≡ row_places (change_positions (columns_from 0 l.table 0 l.columns) (take l.node-index l.nodes));
  cause : first_cause (map (node_name_cause (columns_from 0 l.table 0 l.columns)) (drop l.node-index l.nodes)) ≡ first_cause (map (node_name_cause (columns_from 0 l.table 0 l.columns)) l.nodes);
}
