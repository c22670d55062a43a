use Rattle.std.proofs.Common.{◌≡◌, drop}
use Rattle.std.specs.List.{list_any}
use Rattle.hg_model.specs.Groups as groups
use Rattle.hg_slow.proofs.slow_groups.is_among.Given as goal

abbrev pub invariant-loop-one : goal.invariant-loop-one
invariant-loop-one l = list_any (groups.same_values l.key) (drop l.one-index l.kept) ≡ list_any (groups.same_values l.key) l.kept
