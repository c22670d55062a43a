use Rattle.std.proofs.Common.{arith}
use Rattle.hg_slot.proofs.Placing.{landed}
use Rattle.hg_slot.proofs.change.place.Goals as goal

pub returns : goal.returns
returns c = landed c.args.page.now c.set_bytes.new.page c.set_bytes-2.new.page c.set_entry.new.page c.set_number.new.page c.set_number-2.new.page
    c.args.front.now c.args.rest.now c.args.slot _ _ _ (omega arith) (omega arith) (omega arith) (omega arith)
    c.set_bytes.ensures c.set_bytes-2.ensures c.set_entry.ensures c.set_number.ensures c.set_number-2.ensures
