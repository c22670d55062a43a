use Rattle.std.proofs.Common.{◌≡◌, drop, take, map}
use Rattle.hg_model.specs.Binding.{repeated_from, repeated_name}
use Rattle.hg_model.specs.declared.trees.FromTable.{FromTable}
use Rattle.hg_bind.proofs.select.repeated_alias.Given as goal

abbrev pub invariant-loop-place : goal.invariant-loop-place
invariant-loop-place l = repeated_from (take l.place (map (λ (f : FromTable). f.alias) l.froms)) (drop l.place (map (λ (f : FromTable). f.alias) l.froms)) ≡ repeated_name (map (λ (f : FromTable). f.alias) l.froms)
