use Rattle.std.proofs.Common.{◌≡◌, drop, map}
use Rattle.std.specs.List.{list_all}
use Rattle.hg_model.specs.SelectMeaning as meaning
use Rattle.hg_model.specs.Types as types
use Rattle.hg_bind.specs.Kinds.{shown}
use Rattle.hg_bind.proofs.typing.joins_fit.Given as goal

abbrev pub invariant-loop-from : goal.invariant-loop-from
invariant-loop-from l = list_all (λ n. types.is_condition (types.kind_at (map shown l.kinds) n)) (meaning.on_conditions (drop l.from-index l.froms)) ≡ list_all (λ n. types.is_condition (types.kind_at (map shown l.kinds) n)) (meaning.on_conditions l.froms)
