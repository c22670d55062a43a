use Rattle.std.proofs.Common.{◌≡◌, drop, map, length}
use Rattle.hg_model.specs.ChangeBinding.{kind_of_column}
use Rattle.hg_model.specs.Types as model
use Rattle.hg_bind.specs.Bound.{numbers_of}
use Rattle.hg_bind.specs.Kinds.{kinds_of_nodes, shown}
use Rattle.hg_bind.proofs.nodes.list_kinds.Given as goal

abbrev pub invariant-loop-place : goal.invariant-loop-place
invariant-loop-place l = record {
  count : length l.kinds.items ≡ l.place;
  rest : model.kinds_from (map (kind_of_column l.columns) (numbers_of l.places)) (drop l.place l.nodes) (map shown l.kinds.items) ≡ kinds_of_nodes l.columns (numbers_of l.places) l.nodes;
}
