use Rattle.std.proofs.Common.{◌≡◌, length}
use Rattle.hg_scan.specs.Cutting.{front_of}
use Rattle.hg_scan.proofs.cut.cut_piece.Given as goal

abbrev pub decreases-loop-rest : goal.decreases-loop-rest
decreases-loop-rest l = length l.rest

abbrev pub invariant-loop-rest : goal.invariant-loop-rest
invariant-loop-rest l = front_of l.line ≡ front_of l.rest
