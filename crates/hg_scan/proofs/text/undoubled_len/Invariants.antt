use Rattle.std.proofs.Common.{◌≡◌, ◌+◌, length}
use Rattle.hg_scan.specs.Cutting.{undoubled}
use Rattle.hg_scan.proofs.text.undoubled_len.Given as goal

abbrev pub decreases-loop-rest : goal.decreases-loop-rest
decreases-loop-rest l = length l.rest

abbrev pub invariant-loop-rest : goal.invariant-loop-rest
invariant-loop-rest l = l.len + length (undoubled l.rest) ≡ length (undoubled l.bytes)
