use Rattle.std.proofs.Common.{◌≡◌, ◌++◌, drop}
use Rattle.hg_slow.specs.SlowTables as slow_tables
use Rattle.hg_model.specs.Scope as scopes
use Rattle.hg_slow.proofs.scope.scope_of.Given as goal

abbrev pub invariant-loop-k : goal.invariant-loop-k
invariant-loop-k l = l.scope.items ++ scopes.scope_from (slow_tables.tables_of l.tables.items) l.k (drop l.k l.froms) ≡ scopes.scope_from (slow_tables.tables_of l.tables.items) 0 l.froms
