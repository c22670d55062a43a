use Rattle.std.proofs.Common.{◌≡◌, ◌≤◌, ◌++◌, ◌*◌, drop, length}
use Rattle.hg_model.specs.Scope as scopes
use Rattle.hg_bind.specs.Bound.{tables_of}
use Rattle.hg_bind.proofs.scope.list_scope.Given as goal

abbrev pub invariant-loop-number : goal.invariant-loop-number
invariant-loop-number l = record {
  columns : l.scope.items ++ scopes.scope_from (tables_of l.catalog) l.number (drop l.number l.froms) ≡ scopes.scope_from (tables_of l.catalog) 0 l.froms;
  few : length l.scope.items ≤ 16 * l.number;
}
