use Rattle.hg_reloc.proofs.Reading.{leads_on}
use Rattle.hg_reloc.proofs.object.next_object.Goals as goal

pub returns-clause-heap : goal.returns-clause-heap
returns-clause-heap c = leads_on c.args.page.now c.args.offset c.find_next.result c.find_next.ensures.among
