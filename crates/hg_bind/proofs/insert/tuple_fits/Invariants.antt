use Rattle.std.proofs.Common.{◌≡◌, drop}
use Rattle.hg_model.specs.ChangeBinding.{tuple_fits}
use Rattle.hg_bind.proofs.insert.tuple_fits.Given as goal

abbrev pub invariant-loop-place : goal.invariant-loop-place
invariant-loop-place l = tuple_fits l.columns (drop l.place l.targets) (drop l.place l.tuple) ≡ tuple_fits l.columns l.targets l.tuple
