use Rattle.std.proofs.Common.{◌+◌, arith}
use Rattle.hg_space.proofs.SummaryLemmas.{inside-of, has-below, goes-down, level_start-next}
use Rattle.hg_space.proofs.summary.first_below.Goals as goal

pub first_in-bit-requires-in-loop-level-clause-not_zero : goal.first_in-bit-requires-in-loop-level-clause-not_zero
first_in-bit-requires-in-loop-level-clause-not_zero c =
    has-below c.args.words.now c.args.depth c.loop-level._level c.loop-level.bit (omega arith) c.requires.summary c.loop-level.invariant.first c.loop-level.invariant.in_level

pub first_in-bit-requires-in-loop-level-clause-inside : goal.first_in-bit-requires-in-loop-level-clause-inside
first_in-bit-requires-in-loop-level-clause-inside c =
    inside-of c.args.words.now (c.loop-level.bit + 1) (first_in-bit-requires-in-loop-level-clause-not_zero c)

pub loop-level-preserved : goal.loop-level-preserved
loop-level-preserved c = rw level_start-next (record {
  first = goes-down c.args.words.now c.args.depth c.loop-level._level c.loop-level.bit _ (omega arith) c.requires.summary c.loop-level.invariant.first c.loop-level.invariant.in_level c.first_in-bit-in-loop-level.ensures.first;
  in_level = omega arith;
})
