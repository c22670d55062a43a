use Rattle.hg_reloc.proofs.Finding.{goes_on, not_next_last}
use Rattle.hg_reloc.proofs.object.find_next.Goals as goal

pub returns-in-Some-end_of-clause-among : goal.returns-in-Some-end_of-clause-among
returns-in-Some-end_of-clause-among c = goes_on c.args.page.now c.args.offset c.in-Some.behind c.in-Some.ensures.1 c.in-Some-end_of.ensures.0

pub returns-in-None-end_of-clause-found : goal.returns-in-None-end_of-clause-found
returns-in-None-end_of-clause-found c next = not_next_last c.args.page.now c.args.offset c.in-Some.behind next c.in-Some.ensures.1 c.in-None-end_of.ensures
