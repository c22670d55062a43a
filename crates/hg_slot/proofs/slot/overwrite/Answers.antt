use Rattle.std.proofs.Common.{arith}
use Rattle.hg_slot.proofs.Overwriting.{overwritten, record_there}
use Rattle.hg_slot.proofs.slot.overwrite.Goals as goal

pub returns-else-at-bytes-clause-written : goal.returns-else-at-bytes-clause-written
returns-else-at-bytes-clause-written c = λ ok s.
    overwritten c.args.page.now c.set_bytes.new.page c.args.bytes.now c.args.slot c.in-Some.entry.offset c.in-Some.entry.size c.args.at s
    (record_there c.args.page.now c.args.slot c.in_ok-entry.field-0 c.in-Some.entry c.in-Some.is c.in_ok-entry.ensures.found) (omega arith) c.set_bytes.ensures
