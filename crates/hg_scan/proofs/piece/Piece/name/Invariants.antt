use Rattle.std.proofs.Common.{◌≡◌, ◌≤◌, take}
use Rattle.hg_model.specs.Tokens.{lower}
use Rattle.hg_scan.proofs.piece.Piece.name.Given as goal

abbrev pub invariant-loop-i : goal.invariant-loop-i
invariant-loop-i l = record {
  name : l.name ≡ take l.i (lower l.self.bytes.now);
  short : l.i ≤ 30;
}
