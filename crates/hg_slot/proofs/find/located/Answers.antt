use Rattle.hg_slot.proofs.Finding.{place_full}
use Rattle.hg_slot.proofs.find.located.Goals as goal

pub returns-in-Some-clause-place : goal.returns-in-Some-clause-place
returns-in-Some-clause-place c = place_full c.args.page.now c.args.slot c.in-Some.entry.offset c.in-Some.entry.size c.requires c.in-Some.ensures
