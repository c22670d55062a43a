use Rattle.std.proofs.Common.{◌≡◌, ◌++◌, drop, length}
use Rattle.hg_model.specs.Query.{query_of}
use Rattle.hg_bind.specs.Selecting as selecting
use Rattle.hg_bind.proofs.names.list_named.Given as goal

abbrev pub invariant-loop-place : goal.invariant-loop-place
invariant-loop-place l = record {
  rest : l.named.items ++ selecting.named_from l.scope l.positions (query_of l.select) l.place (drop l.place l.nodes) ≡ selecting.named_from l.scope l.positions (query_of l.select) 0 l.nodes;
  count : length l.named.items ≡ l.place;
}
