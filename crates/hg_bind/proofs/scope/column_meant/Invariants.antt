use Rattle.std.proofs.Common.{◌≡◌, ◌+◌, drop}
use Rattle.std.specs.List.{position_or_len}
use Rattle.hg_model.specs.Scope as scopes
use Rattle.hg_bind.proofs.scope.column_meant.Given as goal

abbrev pub invariant-loop-place : goal.invariant-loop-place
invariant-loop-place l = l.place + position_or_len (scopes.is_meant l.column l.seen) (drop l.place l.scope) ≡ position_or_len (scopes.is_meant l.column l.seen) l.scope
