use Rattle.std.proofs.Common.{◌≡◌, ℕ, ◌≤◌, ◌<◌, false, slice_index, slice_index_or}
use Rattle.std.specs.Prelude.{MatchOption}
use Rattle.hg_clock.specs.Sweep.{AllOutIn, IsLeastIn}
use Rattle.hg_clock.proofs.sweep.least_in.Given as goal

abbrev pub invariant-loop-frame : goal.invariant-loop-frame
invariant-loop-frame l = record {
  least : MatchOption l.best (AllOutIn l.out l.low l.frame) (λ f. IsLeastIn l.scores l.out l.low l.frame f);
  positive : (g : ℕ) → l.low ≤ g → g < l.frame → slice_index_or l.out g false ≡ false → 0 < slice_index l.scores g;
}
