use Rattle.std.proofs.Common.{◌≡◌, ◌++◌, drop, map}
use Rattle.hg_model.specs.Query.{query_of}
use Rattle.hg_model.specs.Scope as scopes
use Rattle.hg_model.specs.declared.trees.OrderKey.{OrderKey}
use Rattle.hg_slow.proofs.scope.targets_of.Given as goal

abbrev pub invariant-loop-key : goal.invariant-loop-key
invariant-loop-key l = l.targets.items ++ map (λ (k : OrderKey). (k.descending, scopes.target_of l.scope.items l.positions.items (query_of l.select) k.by)) (drop l.key-index l.order) ≡ map (λ (k : OrderKey). (k.descending, scopes.target_of l.scope.items l.positions.items (query_of l.select) k.by)) l.order
