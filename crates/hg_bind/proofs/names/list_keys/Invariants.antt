use Rattle.std.proofs.Common.{◌≡◌, ◌++◌, drop, map, length}
use Rattle.hg_model.specs.Query.{query_of}
use Rattle.hg_bind.specs.BoundSelect.{bound_key}
use Rattle.hg_bind.proofs.names.list_keys.Given as goal

abbrev pub invariant-loop-key : goal.invariant-loop-key
invariant-loop-key l = record {
  rest : l.keys.items ++ map (bound_key l.scope l.positions (query_of l.select)) (drop l.key-index l.order) ≡ map (bound_key l.scope l.positions (query_of l.select)) l.order;
  count : length l.keys.items ≡ l.key-index;
}
