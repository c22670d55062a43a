use Rattle.hg_slot.proofs.Steps.{added_behind}
use Rattle.hg_slot.proofs.change.add_slot.Goals as goal

pub returns : goal.returns
returns c = added_behind c.args.page.now c.set_entry.new.page c.set_number.new.page _ c.number_at-count.ensures.value
    c.requires.slotted c.requires.few c.requires.room c.set_entry.ensures c.set_number.ensures
