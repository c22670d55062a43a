use Rattle.hg_bind.proofs.Marking.{count_more, mark_more}
use Rattle.hg_bind.proofs.lengths.mark_all.Goals as goal

pub loop-column-preserved : goal.loop-column-preserved
loop-column-preserved c = record {
  count = count_more c.args.star c.loop-column.marks.items c.push.new.self.items c.loop-column._column c.push.ensures.items c.loop-column.invariant.count;
  each = mark_more c.args.star c.loop-column.marks.items c.push.new.self.items c.push.ensures.items c.loop-column.invariant.each;
}
