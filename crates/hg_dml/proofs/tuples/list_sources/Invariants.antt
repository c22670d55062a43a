use Rattle.std.proofs.Common.{◌≡◌}
use Rattle.hg_dml.specs.Tuples.{sources_of}
use Rattle.hg_dml.proofs.tuples.list_sources.Given as goal

abbrev pub invariant-loop-column : goal.invariant-loop-column
invariant-loop-column l = l.sources.items ≡ sources_of l.targets l.column
