use Rattle.hg_slot.proofs.Lowest.{emptied}
use Rattle.hg_slot.proofs.change.empty.Goals as goal

pub returns : goal.returns
returns c = emptied c.args.page.now c.erase.new.page c.set_number.new.page c.args.slot c.lowest_record-lowest.result
    c.erase.ensures c.lowest_record-lowest.ensures.lowest c.lowest_record-lowest.ensures.inside c.set_number.ensures
