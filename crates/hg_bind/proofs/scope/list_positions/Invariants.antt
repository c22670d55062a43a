use Rattle.std.proofs.Common.{◌≡◌, ◌++◌, drop, length}
use Rattle.hg_model.specs.Query.{query_of}
use Rattle.hg_model.specs.Scope as scopes
use Rattle.hg_bind.proofs.scope.list_positions.Given as goal

abbrev pub invariant-loop-place : goal.invariant-loop-place
invariant-loop-place l = record {
  rest : l.positions.items ++ scopes.positions_from l.scope (query_of l.select) l.place (drop l.place l.nodes) ≡ scopes.positions_from l.scope (query_of l.select) 0 l.nodes;
  count : length l.positions.items ≡ l.place;
}
