use Rattle.std.proofs.Common.{◌≡◌, [], drop, map, length}
use Rattle.hg_model.specs.Binding as binding
use Rattle.hg_model.specs.Types as types
use Rattle.hg_bind.specs.Kinds.{shown}
use Rattle.hg_bind.proofs.typing.list_select_kinds.Given as goal

abbrev pub invariant-loop-place : goal.invariant-loop-place
invariant-loop-place l = record {
  count : length l.kinds.items ≡ l.place;
  rest : types.kinds_from (binding.leaf_kinds l.scope l.positions) (drop l.place l.nodes) (map shown l.kinds.items) ≡ types.kinds_from (binding.leaf_kinds l.scope l.positions) l.nodes [];
}
