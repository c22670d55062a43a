use Rattle.std.proofs.Common.{◌≡◌, ◌+◌, drop}
use Rattle.std.specs.List.{position_or_len}
use Rattle.hg_model.specs.Scope as scopes
use Rattle.hg_bind.proofs.names.written_output.Given as goal

abbrev pub invariant-loop-place : goal.invariant-loop-place
invariant-loop-place l = l.place + position_or_len (scopes.finds_output l.scope l.positions l.nodes l.column) (drop l.place l.outputs) ≡ position_or_len (scopes.finds_output l.scope l.positions l.nodes l.column) l.outputs
