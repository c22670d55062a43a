use Rattle.std.proofs.Common.{◌≡◌, drop}
use Rattle.std.specs.List.{list_any}
use Rattle.hg_model.specs.Binding as binding
use Rattle.hg_model.specs.SelectMeaning as meaning
use Rattle.hg_bind.proofs.grouping.some_joins_on.Given as goal

abbrev pub invariant-loop-from : goal.invariant-loop-from
invariant-loop-from l = list_any (binding.has_at l.has) (meaning.on_conditions (drop l.from-index l.froms)) ≡ list_any (binding.has_at l.has) (meaning.on_conditions l.froms)
