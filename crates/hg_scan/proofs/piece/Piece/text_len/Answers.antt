use Rattle.std.proofs.Common.{length, ap, sym}
use Rattle.hg_scan.proofs.Undoubling.{plain_text}
use Rattle.hg_scan.proofs.piece.Piece.text_len.Goals as goal

pub returns-else-self : goal.returns-else-self
returns-else-self c = ap length (sym (plain_text c.args.self.now.kind c.args.self.now.doubled c.args.self.now.bytes.now c.requires c.if-self.false c.args.self.now.spelled))
