use Rattle.std.proofs.Common.{sym, ◌∙◌, arith}
use Rattle.hg_scan.proofs.Spellings.{differs_at, same_all}
use Rattle.hg_scan.proofs.piece.Piece.is_spelled.Goals as goal

pub returns-then-to_lower-word : goal.returns-then-to_lower-word
returns-then-to_lower-word c = sym (differs_at c.args.self.now.bytes.now c.args.word.now c.loop-i.i (omega arith) (λ e. c.if-to_lower-word.true (c.to_lower.ensures ∙ e)))

pub returns : goal.returns
returns c = sym (same_all c.args.self.now.bytes.now c.args.word.now (omega arith) (λ k h. c.loop-i.invariant k (omega arith)))
