use Rattle.std.proofs.Common.{◌≡◌, drop}
use Rattle.hg_model.specs.Scope as scopes
use Rattle.hg_bind.proofs.from.seen_by_condition.Given as goal

abbrev pub invariant-loop-place : goal.invariant-loop-place
invariant-loop-place l = scopes.seen_from l.place (drop l.place l.froms) l.node ≡ scopes.seen_from 0 l.froms l.node
