use Rattle.hg_slot.proofs.Overwriting.{overwritten, part_written, within_record}
use Rattle.hg_slot.proofs.slot.put.Goals as goal

pub returns-in-Some-clause-written : goal.returns-in-Some-clause-written
returns-in-Some-clause-written c =
    overwritten c.args.page.now c.set_bytes.new.page c.args.bytes.now c.args.slot c.in-Some.entry.offset c.in-Some.entry.size c.args.at
    c.requires.slotted c.in-Some.ensures (within_record _ _ _ _ _ c.in-Some.ensures c.requires.inside) c.set_bytes.ensures

pub returns-in-Some-clause-only : goal.returns-in-Some-clause-only
returns-in-Some-clause-only c =
    part_written c.args.page.now c.set_bytes.new.page c.args.bytes.now c.args.slot c.in-Some.entry.offset c.args.at c.in-Some.ensures.from_is c.set_bytes.ensures
