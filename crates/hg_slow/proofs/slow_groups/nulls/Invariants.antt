use Rattle.std.proofs.Common.{◌≡◌, ◌++◌, drop, map}
use Rattle.hg_model.specs.declared.values.Value.TheVariants.{Null}
use Rattle.hg_slow.proofs.slow_groups.nulls.Given as goal

abbrev pub invariant-loop-row : goal.invariant-loop-row
invariant-loop-row l = l.values.items ++ map (λ row. Null) (drop l._row-index l.rows) ≡ map (λ row. Null) l.rows
