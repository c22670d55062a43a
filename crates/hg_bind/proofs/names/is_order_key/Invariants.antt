use Rattle.std.proofs.Common.{◌≡◌, drop}
use Rattle.std.specs.List.{list_any}
use Rattle.hg_model.specs.Binding as binding
use Rattle.hg_model.specs.declared.trees.OrderKey.{OrderKey}
use Rattle.hg_bind.proofs.names.is_order_key.Given as goal

abbrev pub invariant-loop-key : goal.invariant-loop-key
invariant-loop-key l = list_any (λ (k : OrderKey). binding.is_key_of l.node k.by) (drop l.key-index l.order) ≡ list_any (λ (k : OrderKey). binding.is_key_of l.node k.by) l.order
