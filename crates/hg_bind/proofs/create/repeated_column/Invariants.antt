use Rattle.std.proofs.Common.{◌≡◌, drop, take}
use Rattle.hg_model.specs.Binding.{repeated_from, repeated_name}
use Rattle.hg_bind.specs.Bound.{names_made}
use Rattle.hg_bind.proofs.create.repeated_column.Given as goal

abbrev pub invariant-loop-place : goal.invariant-loop-place
invariant-loop-place l = repeated_from (take l.place (names_made l.columns)) (drop l.place (names_made l.columns)) ≡ repeated_name (names_made l.columns)
