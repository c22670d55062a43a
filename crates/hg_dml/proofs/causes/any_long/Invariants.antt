use Rattle.std.proofs.Common.{◌≡◌, drop, map}
use Rattle.std.specs.Prelude.{nat_lt}
use Rattle.std.specs.List.{list_any}
use Rattle.hg_model.specs.Changes.{tuples_from, row_length}
use Rattle.hg_dml.specs.Tuples.{row_from}
use Rattle.hg_dml.proofs.causes.any_long.Given as goal

abbrev pub invariant-loop-end : goal.invariant-loop-end
invariant-loop-end l =
    list_any (λ row. nat_lt 1000 (row_length row)) (map (row_from l.texts l.sources) (tuples_from l.from (drop l.end-index l.ends) l.values))
    ≡ list_any (λ row. nat_lt 1000 (row_length row)) (map (row_from l.texts l.sources) (tuples_from 0 l.ends l.values))
