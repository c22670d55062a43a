use Rattle.std.proofs.Common.{◌≡◌, ◌<◌, ℕ, get_or}
use Rattle.hg_model.specs.Tokens.{lower_byte}
use Rattle.hg_scan.proofs.piece.Piece.is_spelled.Given as goal

abbrev pub invariant-loop-i : goal.invariant-loop-i
invariant-loop-i l = (k : ℕ) → k < l.i → lower_byte (get_or l.self.bytes.now k 0) ≡ get_or l.word k 0
