use Rattle.std.proofs.Common.{◌≡◌, ℕ, ◌<◌, true}
use Rattle.hg_raw.specs.Frames.{is_home}
use Rattle.hg_raw.proofs.tests.all_home.Given as goal

abbrev pub invariant-loop-n : goal.invariant-loop-n
invariant-loop-n l = (k : ℕ) → k < l.n → is_home l.region k ≡ true
