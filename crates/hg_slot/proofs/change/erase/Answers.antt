use Rattle.hg_slot.proofs.Overwriting.{removed}
use Rattle.hg_slot.proofs.change.erase.Goals as goal

pub returns-in-Some : goal.returns-in-Some
returns-in-Some c =
    removed c.args.page.now c.set_zeros.new.page c.set_entry.new.page c.args.slot c.in-Some.entry.offset c.in-Some.entry.size
    c.requires.slotted c.in-Some.ensures c.set_zeros.ensures c.set_entry.ensures
