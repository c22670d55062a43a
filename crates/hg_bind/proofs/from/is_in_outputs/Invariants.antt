use Rattle.std.proofs.Common.{◌≡◌, drop}
use Rattle.hg_model.specs.Scope as scopes
use Rattle.hg_bind.proofs.from.is_in_outputs.Given as goal

abbrev pub invariant-loop-output : goal.invariant-loop-output
invariant-loop-output l = scopes.is_in_outputs (drop l.output-index l.outputs) l.node ≡ scopes.is_in_outputs l.outputs l.node
