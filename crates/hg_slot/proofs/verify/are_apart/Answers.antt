use Rattle.std.proofs.Common.{arith, rules}
use Rattle.hg_slot.specs.Slotted.{IsPlaced}
use Rattle.hg_slot.proofs.Verifying.{none_right, next_right}
use Rattle.hg_slot.proofs.Marking.{marked_none, apart_marked, marked_more, not_apart}
use Rattle.hg_slot.proofs.verify.are_apart.Goals as goal

pub loop-slot-init : goal.loop-slot-init
loop-slot-init c = record { right = none_right c.args.page.now; marked = marked_none c.args.page.now }

pub loop-slot-preserved : goal.loop-slot-preserved
loop-slot-preserved c =
    let p : IsPlaced c.args.page.now c.loop-slot.slot = c.if-not-is_placed.ensures.0 (search rules) in
    record {
      right = next_right c.args.page.now c.loop-slot.slot c.loop-slot.invariant.right p
          (apart_marked c.args.page.now c.loop-slot.slot c.entry_at-entry.result.offset c.entry_at-entry.result.size c.loop-slot.marks c.mark.new.marks
          c.entry_at-entry.ensures.offset c.entry_at-entry.ensures.size c.loop-slot.invariant.marked (search rules));
      marked = marked_more c.args.page.now c.loop-slot.slot c.entry_at-entry.result.offset c.entry_at-entry.result.size c.loop-slot.marks c.mark.new.marks
          c.entry_at-entry.ensures.offset c.entry_at-entry.ensures.size c.loop-slot.invariant.marked (search rules);
    }

pub returns-then-not-mark : goal.returns-then-not-mark
returns-then-not-mark c = (
  λ t. search rules,
  λ r. absurd (not_apart c.args.page.now c.loop-slot.slot c.entry_at-entry.result.offset c.entry_at-entry.result.size c.loop-slot.marks
      c.entry_at-entry.ensures.offset c.entry_at-entry.ensures.size (omega arith) c.loop-slot.invariant.marked (search rules) r),
)
