use Rattle.std.proofs.Common.{◌≡◌, ◌+◌, drop}
use Rattle.std.specs.List.{position_or_len}
use Rattle.hg_model.specs.Scope as scopes
use Rattle.hg_bind.proofs.scope.star_output.Given as goal

abbrev pub invariant-loop-place : goal.invariant-loop-place
invariant-loop-place l = l.place + position_or_len (scopes.is_named l.column) (drop l.place l.scope) ≡ position_or_len (scopes.is_named l.column) l.scope
