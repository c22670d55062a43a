use Rattle.std.proofs.Common.{◌≡◌, take}
use Rattle.hg_dml.specs.Tuples.{row_from}
use Rattle.hg_dml.proofs.putting.fill.Given as goal

abbrev pub invariant-loop-source : goal.invariant-loop-source
invariant-loop-source l = l.row ≡ row_from l.texts (take l.source-index l.sources) l.tuple
