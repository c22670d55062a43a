use Rattle.std.proofs.Common.{◌≡◌, drop}
use Rattle.std.specs.Prelude.{not}
use Rattle.std.specs.List.{list_any}
use Rattle.hg_model.specs.Changes.{tuples_from}
use Rattle.hg_model.specs.Tables.{fits_type}
use Rattle.hg_dml.specs.Tuples.{value_in}
use Rattle.hg_dml.proofs.causes.any_misfit.Given as goal

abbrev pub invariant-loop-end : goal.invariant-loop-end
invariant-loop-end l =
    list_any (λ tuple. not (fits_type l.column.ty (value_in l.texts tuple l.source))) (tuples_from l.from (drop l.end-index l.ends) l.values)
    ≡ list_any (λ tuple. not (fits_type l.column.ty (value_in l.texts tuple l.source))) (tuples_from 0 l.ends l.values)
