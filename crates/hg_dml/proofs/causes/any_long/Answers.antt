use Rattle.hg_dml.proofs.FirstCauses.{long-here, short-here}
use Rattle.hg_dml.proofs.causes.any_long.Goals as goal

pub returns-then-row_length-gt-MOST_BYTES : goal.returns-then-row_length-gt-MOST_BYTES
returns-then-row_length-gt-MOST_BYTES c =
    long-here c.args.texts.now c.args.sources.now c.args.values.now c.args.ends.now c.loop-end.from c.loop-end.end-index c.tuple_between.result.now c.row_length.result
    c.loop-end-test.true c.tuple_between.ensures c.row_length.ensures _ c.if-row_length-gt-MOST_BYTES.true c.loop-end.invariant

pub loop-end-preserved : goal.loop-end-preserved
loop-end-preserved c =
    short-here c.args.texts.now c.args.sources.now c.args.values.now c.args.ends.now c.loop-end.from c.loop-end.end-index c.tuple_between.result.now c.row_length.result
    c.loop-end-test.true c.tuple_between.ensures c.row_length.ensures _ c.if-row_length-gt-MOST_BYTES.false c.loop-end.invariant
