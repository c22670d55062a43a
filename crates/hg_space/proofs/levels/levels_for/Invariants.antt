use Rattle.std.proofs.Common.{◌≡◌, ◌-◌, ◌^◌, ◌<◌, ◌≤◌}
use Rattle.hg_space.specs.Summary.{level_start}
use Rattle.hg_space.proofs.levels.levels_for.Given as goal

abbrev pub invariant-loop-first : goal.invariant-loop-first
invariant-loop-first l = record {
  start : l.first ≡ level_start l.above;
  above : l.above ≤ l.first;
  few : l.first < 2 ^ 34;
}

abbrev pub decreases-loop-first : goal.decreases-loop-first
decreases-loop-first l = l.pages - l.first
