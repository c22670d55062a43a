use Rattle.std.proofs.Common.{◌≡◌, ◌≤◌, ◌+◌, drop}
use Rattle.std.specs.List.{count_by}
use Rattle.hg_model.specs.Scope as scopes
use Rattle.hg_bind.proofs.scope.count_named.Given as goal

abbrev pub invariant-loop-other : goal.invariant-loop-other
invariant-loop-other l = record {
  rest : l.count + count_by (scopes.is_named l.column) (drop l.other-index l.scope) ≡ count_by (scopes.is_named l.column) l.scope;
  few : l.count ≤ l.other-index;
}
