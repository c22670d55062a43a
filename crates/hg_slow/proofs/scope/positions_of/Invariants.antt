use Rattle.std.proofs.Common.{◌≡◌, ◌++◌, drop}
use Rattle.hg_model.specs.Query.{query_of}
use Rattle.hg_model.specs.Scope as scopes
use Rattle.hg_slow.proofs.scope.positions_of.Given as goal

abbrev pub invariant-loop-k : goal.invariant-loop-k
invariant-loop-k l = l.positions.items ++ scopes.positions_from l.scope.items (query_of l.select) l.k (drop l.k l.nodes) ≡ scopes.positions_from l.scope.items (query_of l.select) 0 l.nodes
