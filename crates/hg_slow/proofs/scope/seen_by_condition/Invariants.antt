use Rattle.std.proofs.Common.{◌≡◌, drop}
use Rattle.hg_model.specs.Scope as scopes
use Rattle.hg_slow.proofs.scope.seen_by_condition.Given as goal

abbrev pub invariant-loop-k : goal.invariant-loop-k
invariant-loop-k l = scopes.seen_from l.k (drop l.k l.tables) l.node ≡ scopes.seen_from 0 l.tables l.node
