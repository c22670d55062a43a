use Rattle.std.proofs.Common.{◌+◌, sym, subst, arith, rules}
use Rattle.hg_slot.specs.Slotted.{AreFrom, IsPlaced}
use Rattle.hg_slot.proofs.Verifying.{falls, falls_full, falls_empty}
use Rattle.hg_slot.proofs.verify.are_falling.Goals as goal
use Rattle.hg_slot.proofs.verify.are_falling.Goals.{then-entry-gt0, else-entry-gt0}

pub loop-slot-preserved : goal.loop-slot-preserved
loop-slot-preserved c =
    let p : IsPlaced c.args.page.now c.loop-slot.slot = c.if-not-is_placed.ensures.0 (search rules) in
    record {
      right = falls c.args.page.now c.loop-slot.slot c.entry_at-entry.result.offset c.entry_at-entry.result.size c.loop-slot.below
          c.entry_at-entry.ensures.offset c.entry_at-entry.ensures.size c.loop-slot.invariant.right c.loop-slot.invariant.below p (omega arith);
      below = elim c.if-entry-gt0.branch [
        | then-entry-gt0 w ↦ subst (AreFrom c.args.page.now (c.loop-slot.slot + 1)) (sym w.below-is)
            (falls_full c.args.page.now c.loop-slot.slot c.entry_at-entry.result.offset c.entry_at-entry.result.size c.loop-slot.below
            c.entry_at-entry.ensures.offset c.loop-slot.invariant.below (omega arith))
        | else-entry-gt0 w ↦ subst (AreFrom c.args.page.now (c.loop-slot.slot + 1)) (sym w.below-is)
            (falls_empty c.args.page.now c.loop-slot.slot c.entry_at-entry.result.size c.loop-slot.below
            c.entry_at-entry.ensures.size (omega arith) c.loop-slot.invariant.below)
      ];
    }
