use Rattle.std.proofs.Common.{◌≡◌, take, drop, map}
use Rattle.hg_model.specs.Changes.{tuples_from}
use Rattle.hg_dml.specs.Tuples.{row_from, rows_from}
use Rattle.hg_dml.proofs.PutLaws.{PutSoFar}
use Rattle.hg_dml.proofs.putting.put_rows.Given as goal

abbrev pub invariant-loop-end : goal.invariant-loop-end
invariant-loop-end g l = record {
  left : map (row_from l.texts l.sources) (tuples_from l.from (drop l.end-index l.ends) l.values) ≡ drop l.end-index (rows_from l.texts l.sources l.values l.ends);
  put : PutSoFar (g.S.Pages.state l.initial.space) (g.S.Pages.state l.space) (g.D.TableCalls.ends l.initial.table) (g.D.TableCalls.ends l.table) l.stamp.0
      (rows_from l.texts l.sources l.values l.ends) (take l.end-index (rows_from l.texts l.sources l.values l.ends));
}
