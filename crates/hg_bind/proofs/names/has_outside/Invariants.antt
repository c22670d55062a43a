use Rattle.std.proofs.Common.{◌≡◌, drop}
use Rattle.std.specs.List.{list_any}
use Rattle.hg_model.specs.Binding as binding
use Rattle.hg_model.specs.Query.{query_of}
use Rattle.hg_model.specs.Scope as scopes
use Rattle.hg_model.specs.declared.trees.OrderKey.{OrderKey}
use Rattle.hg_bind.proofs.names.has_outside.Given as goal

abbrev pub invariant-loop-key : goal.invariant-loop-key
invariant-loop-key l = list_any (λ (k : OrderKey). binding.is_outside l.outputs k.by) (drop l.key-index l.order) ≡ list_any (λ (k : OrderKey). binding.is_outside l.outputs k.by) l.order
