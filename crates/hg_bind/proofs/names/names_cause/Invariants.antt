use Rattle.std.proofs.Common.{◌≡◌, drop}
use Rattle.hg_model.specs.Binding as binding
use Rattle.hg_model.specs.Query.{query_of}
use Rattle.hg_model.specs.Refusal.{first_cause}
use Rattle.hg_bind.proofs.names.names_cause.Given as goal

abbrev pub invariant-loop-place : goal.invariant-loop-place
invariant-loop-place l = first_cause (binding.names_from l.scope l.positions (query_of l.select) l.place (drop l.place l.nodes)) ≡ first_cause (binding.names_from l.scope l.positions (query_of l.select) 0 l.nodes)
