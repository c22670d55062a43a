use Rattle.std.proofs.Common.{◌≡◌, ◌++◌, ◌+◌, drop, length}
use Rattle.hg_model.specs.Scope as scopes
use Rattle.hg_bind.proofs.scope.push_columns.Given as goal

abbrev pub invariant-loop-place : goal.invariant-loop-place
invariant-loop-place l = record {
  columns : l.scope.items ++ scopes.columns_from l.table l.alias l.place (drop l.place l.columns) ≡ l.initial.scope.items ++ scopes.columns_from l.table l.alias 0 l.columns;
  count : length l.scope.items ≡ length l.initial.scope.items + l.place;
}
