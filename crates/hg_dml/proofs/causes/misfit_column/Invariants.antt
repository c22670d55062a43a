use Rattle.std.proofs.Common.{◌≡◌, drop}
use Rattle.hg_model.specs.Changes.{first_column, fit_cause}
use Rattle.hg_model.specs.Refusal.{DoesNotFit}
use Rattle.hg_dml.specs.Tuples.{rows_from}
use Rattle.hg_dml.proofs.FirstCauses.{misfit_test}
use Rattle.hg_dml.proofs.causes.misfit_column.Given as goal

abbrev pub invariant-loop-place : goal.invariant-loop-place
invariant-loop-place l =
    first_column (misfit_test (rows_from l.texts l.sources l.values l.ends)) DoesNotFit l.place (drop l.place l.columns)
    ≡ fit_cause l.columns (rows_from l.texts l.sources l.values l.ends)
