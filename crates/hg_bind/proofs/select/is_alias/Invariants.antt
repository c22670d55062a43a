use Rattle.std.proofs.Common.{◌≡◌, drop, map}
use Rattle.std.specs.List.{list_any}
use Rattle.hg_model.specs.Tables.{same_name}
use Rattle.hg_model.specs.declared.trees.FromTable.{FromTable}
use Rattle.hg_bind.proofs.select.is_alias.Given as goal

abbrev pub invariant-loop-from : goal.invariant-loop-from
invariant-loop-from l = list_any (same_name l.name) (map (λ (f : FromTable). f.alias) (drop l.from-index l.froms)) ≡ list_any (same_name l.name) (map (λ (f : FromTable). f.alias) l.froms)
