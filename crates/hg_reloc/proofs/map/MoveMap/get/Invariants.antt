use Rattle.std.proofs.Common.{◌≡◌, drop}
use Rattle.hg_reloc.specs.Moves.{entry}
use Rattle.hg_reloc.proofs.map.MoveMap.get.Given as goal

abbrev pub invariant-loop-m : goal.invariant-loop-m
invariant-loop-m l = entry (drop l.m-index l.m-items) l.old.0 ≡ entry l.self.entries l.old.0
