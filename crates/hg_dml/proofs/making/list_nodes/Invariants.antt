use Rattle.std.proofs.Common.{◌≡◌}
use Rattle.hg_dml.specs.Making.{no_nodes}
use Rattle.hg_dml.proofs.making.list_nodes.Given as goal

abbrev pub invariant-loop-column : goal.invariant-loop-column
invariant-loop-column l = l.nodes.items ≡ no_nodes l._column
