use Rattle.std.proofs.Common.{◌≡◌, drop, map}
use Rattle.hg_model.specs.ChangeBinding.{sets_fit}
use Rattle.hg_bind.specs.Kinds.{shown}
use Rattle.hg_bind.proofs.update.sets_fit.Given as goal

abbrev pub invariant-loop-place : goal.invariant-loop-place
invariant-loop-place l = sets_fit l.columns (map shown l.kinds) (drop l.place l.sets) ≡ sets_fit l.columns (map shown l.kinds) l.sets
