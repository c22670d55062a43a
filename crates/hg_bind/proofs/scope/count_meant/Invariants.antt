use Rattle.std.proofs.Common.{◌≡◌, ◌≤◌, ◌+◌, drop}
use Rattle.std.specs.List.{count_by}
use Rattle.hg_model.specs.Scope as scopes
use Rattle.hg_bind.proofs.scope.count_meant.Given as goal

abbrev pub invariant-loop-other : goal.invariant-loop-other
invariant-loop-other l = record {
  rest : l.count + count_by (scopes.is_meant l.column l.seen) (drop l.other-index l.scope) ≡ count_by (scopes.is_meant l.column l.seen) l.scope;
  few : l.count ≤ l.other-index;
}
