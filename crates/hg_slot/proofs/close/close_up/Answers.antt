use Rattle.std.proofs.Common.{◌≡◌, arith}
use Rattle.hg_slot.specs.Slotted.{slots}
use Rattle.hg_slot.specs.Changing.{ClosesUp}
use Rattle.hg_slot.proofs.Closing.{rebuilt}
use Rattle.hg_slot.proofs.close.close_up.Goals as goal

pub returns : goal.returns
returns c =
    let all : c.loop-slot.slot ≡ slots c.args.page.now = omega arith in
    let r : ClosesUp c.args.page.now c.loop-slot.built = rebuilt c.args.page.now c.loop-slot.built c.loop-slot.slot all c.loop-slot.invariant in
    rw c.copy_from_slice.ensures.after r
