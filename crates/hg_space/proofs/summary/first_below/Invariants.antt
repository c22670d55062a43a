use Rattle.std.proofs.Common.{◌+◌, ◌*◌, ◌<◌}
use Rattle.hg_space.specs.Bits.{IsFirstSet}
use Rattle.hg_space.specs.Summary.{level_start}
use Rattle.hg_space.proofs.summary.first_below.Given as goal

abbrev pub invariant-loop-level : goal.invariant-loop-level
invariant-loop-level l = record {
  first : IsFirstSet l.words (level_start l._level) l.bit;
  in_level : l.bit < 64 * (level_start l._level + 1);
}
