use Rattle.std.proofs.Common.{◌≡◌, take}
use Rattle.hg_engine.proofs.open.copy_tables.Given as goal

abbrev pub invariant-loop-table : goal.invariant-loop-table
invariant-loop-table l = l.to.items ≡ take l.table-index l.from
