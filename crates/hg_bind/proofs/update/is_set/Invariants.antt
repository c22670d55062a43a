use Rattle.std.proofs.Common.{◌≡◌, drop}
use Rattle.std.specs.List.{list_any}
use Rattle.hg_model.specs.Tables.{same_name}
use Rattle.hg_bind.specs.Bound.{names_set}
use Rattle.hg_bind.proofs.update.is_set.Given as goal

abbrev pub invariant-loop-set : goal.invariant-loop-set
invariant-loop-set l = list_any (same_name l.name) (names_set (drop l.set-index l.sets)) ≡ list_any (same_name l.name) (names_set l.sets)
