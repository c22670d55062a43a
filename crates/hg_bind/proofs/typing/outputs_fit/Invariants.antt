use Rattle.std.proofs.Common.{◌≡◌, drop, map}
use Rattle.std.specs.List.{list_all}
use Rattle.hg_model.specs.Types as types
use Rattle.hg_model.specs.declared.trees.Output.{Output}
use Rattle.hg_bind.specs.Kinds.{shown}
use Rattle.hg_bind.proofs.typing.outputs_fit.Given as goal

abbrev pub invariant-loop-output : goal.invariant-loop-output
invariant-loop-output l = list_all (λ (o : Output). types.is_value (types.kind_at (map shown l.kinds) o.node)) (drop l.output-index l.outputs) ≡ list_all (λ (o : Output). types.is_value (types.kind_at (map shown l.kinds) o.node)) l.outputs
