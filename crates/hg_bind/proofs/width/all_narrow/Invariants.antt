use Rattle.std.proofs.Common.{◌≡◌, length, drop, IsTrue}
use Rattle.std.specs.List.{list_all}
use Rattle.hg_model.specs.Types as types
use Rattle.hg_bind.proofs.width.all_narrow.Given as goal

abbrev pub invariant-loop-node : goal.invariant-loop-node
invariant-loop-node l = record {
  count : length l.done.items ≡ l.node-index;
  rest : types.bounds_from (drop l.node-index l.nodes) l.done.items ≡ types.bounds_of l.nodes;
  narrow : IsTrue (list_all types.is_narrow l.done.items);
}
