use Rattle.std.proofs.Common.{◌≡◌, drop, take}
use Rattle.hg_model.specs.Binding.{repeated_from, repeated_name}
use Rattle.hg_bind.proofs.create_index.repeated.Given as goal

abbrev pub invariant-loop-place : goal.invariant-loop-place
invariant-loop-place l = repeated_from (take l.place l.names) (drop l.place l.names) ≡ repeated_name l.names
