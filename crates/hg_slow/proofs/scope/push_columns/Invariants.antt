use Rattle.std.proofs.Common.{◌≡◌, ◌++◌, drop}
use Rattle.hg_model.specs.Scope as scopes
use Rattle.hg_slow.proofs.scope.push_columns.Given as goal

abbrev pub invariant-loop-place : goal.invariant-loop-place
invariant-loop-place l = l.scope.items ++ scopes.columns_from l.table l.alias l.place (drop l.place l.column-items) ≡ l.initial.scope.items ++ scopes.columns_from l.table l.alias 0 l.column-items
