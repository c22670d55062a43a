use Rattle.std.proofs.Common.{◌≡◌, drop}
use Rattle.std.specs.List.{list_any}
use Rattle.hg_model.specs.Creation.{Index, is_named_so}
use Rattle.hg_bind.specs.Bound.{indexes_of}
use Rattle.hg_bind.proofs.create_index.is_index.Given as goal

abbrev pub invariant-loop-number : goal.invariant-loop-number
invariant-loop-number l = list_any (λ (x : Index). is_named_so l.name x.name) (drop l.number (indexes_of l.catalog)) ≡ list_any (λ (x : Index). is_named_so l.name x.name) (indexes_of l.catalog)
