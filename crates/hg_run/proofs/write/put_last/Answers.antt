use Rattle.hg_run.proofs.Growing.{chain_last}
use Rattle.hg_run.proofs.Filling.{last_page}
use Rattle.hg_run.proofs.write.put_last.Goals as goal

pub put_on-requires-clause-plain : goal.put_on-requires-clause-plain
put_on-requires-clause-plain g c =
    chain_last (g.S.Pages.state c.args.space.now) c.args.run.now c.requires.chain.0 c.in-Some.last c.requires.chain.1 c.in-Some.is

pub put_on-requires-clause-sound : goal.put_on-requires-clause-sound
put_on-requires-clause-sound g c = λ told.
    last_page (g.S.Pages.state c.args.space.now) c.args.run.now c.in-Some.last (c.requires.run told) c.in-Some.is
