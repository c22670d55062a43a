use Rattle.std.proofs.Common.{◌∙◌, ap, arith, ◌+◌, ◌*◌, length}
use Rattle.std.specs.Int.{w64, to_le_bytes}
use Rattle.hg_base.specs.Parts.{length-written}
use Rattle.hg_reloc.proofs.Rewriting.{step_k}
use Rattle.hg_reloc.proofs.moving.move_words.Goals as goal

pub loop-k-preserved : goal.loop-k-preserved
loop-k-preserved c = record {
  rest = c.loop-k.invariant.rest ∙ step_k c.args.map.now c.loop-k.page c.put_u64.new.b c.args.at c.loop-k.k c.args.count c.moved.result.word
      (omega arith) (omega arith) (cc) c.put_u64.ensures;
  long = omega (arith, length-written c.loop-k.page (to_le_bytes w64 c.moved.result.word) (c.args.at + 8 * c.loop-k.k) 8, ap length c.put_u64.ensures);
}
