use Rattle.std.proofs.Common.{None}
use Rattle.hg_bind.proofs.Marking.{marks_next}
use Rattle.hg_bind.proofs.lengths.list_marks.Goals as goal

pub loop-place-preserved : goal.loop-place-preserved
loop-place-preserved c =
    marks_next c.args.star c.args.named.now c.loop-place.place c.args.count None c.loop-place.marks.items c.mark.new.marks.items c.loop-place-test.true c.loop-place.invariant c.mark.ensures
