use Rattle.std.proofs.Common.{take}
use Rattle.hg_dml.specs.Fitting.{AreSmall}
use Rattle.hg_dml.proofs.insertion.know_types.Given as goal

abbrev pub invariant-loop-column : goal.invariant-loop-column
invariant-loop-column l = AreSmall (take l.column-index l.columns)
