use Rattle.std.proofs.Common.{◌≡◌, ◌≤◌, ◌*◌, take}
use Rattle.hg_model.specs.Changes.{row_length}
use Rattle.hg_dml.specs.Tuples.{row_from}
use Rattle.hg_dml.proofs.tuples.row_length.Given as goal

abbrev pub invariant-loop-source : goal.invariant-loop-source
invariant-loop-source l = record {
  bytes : l.bytes ≡ row_length (row_from l.texts (take l.source-index l.sources) l.tuple);
  small : l.bytes ≤ 70000 * l.source-index;
}
