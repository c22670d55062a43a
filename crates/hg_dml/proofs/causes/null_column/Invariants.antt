use Rattle.std.proofs.Common.{◌≡◌, drop}
use Rattle.hg_model.specs.Changes.{first_column, null_cause}
use Rattle.hg_model.specs.Refusal.{NullNotAllowed}
use Rattle.hg_dml.specs.Tuples.{rows_from}
use Rattle.hg_dml.proofs.FirstCauses.{null_test}
use Rattle.hg_dml.proofs.causes.null_column.Given as goal

abbrev pub invariant-loop-place : goal.invariant-loop-place
invariant-loop-place l =
    first_column (null_test (rows_from l.texts l.sources l.values l.ends)) NullNotAllowed l.place (drop l.place l.columns)
    ≡ null_cause l.columns (rows_from l.texts l.sources l.values l.ends)
