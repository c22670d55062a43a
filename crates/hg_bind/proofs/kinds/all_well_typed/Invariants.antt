use Rattle.std.proofs.Common.{◌≡◌, drop, map}
use Rattle.hg_model.specs.Types as model
use Rattle.std.specs.List.{list_all}
use Rattle.hg_bind.specs.Kinds.{shown}
use Rattle.hg_bind.proofs.kinds.all_well_typed.Given as goal

abbrev pub invariant-loop-node : goal.invariant-loop-node
invariant-loop-node l = list_all (λ n. model.is_well_typed n (map shown l.kinds)) (drop l.node-index l.nodes) ≡ list_all (λ n. model.is_well_typed n (map shown l.kinds)) l.nodes
