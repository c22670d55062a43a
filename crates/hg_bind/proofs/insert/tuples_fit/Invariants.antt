use Rattle.std.proofs.Common.{◌≡◌, drop}
use Rattle.std.specs.List.{list_all}
use Rattle.hg_model.specs.ChangeBinding.{tuple_fits}
use Rattle.hg_model.specs.Changes.{tuples_from}
use Rattle.hg_bind.proofs.insert.tuples_fit.Given as goal

abbrev pub invariant-loop-end : goal.invariant-loop-end
invariant-loop-end l = list_all (tuple_fits l.columns l.targets) (tuples_from l.from (drop l.end-index l.ends) l.values) ≡ list_all (tuple_fits l.columns l.targets) (tuples_from 0 l.ends l.values)
