use Rattle.hg_reloc.proofs.Reading.{finds_object}
use Rattle.hg_reloc.proofs.object.object_at.Goals as goal

pub returns-clause-heap : goal.returns-clause-heap
returns-clause-heap c = finds_object c.args.page.now c.args.offset c.find_object.result c.find_object.ensures.among
