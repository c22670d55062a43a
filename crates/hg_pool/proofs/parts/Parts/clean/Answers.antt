use Rattle.std.proofs.Common.{◌∙◌, sym, refl}
use Rattle.hg_pool.proofs.Staying.{frames-stay, raised-more}
use Rattle.hg_pool.proofs.parts.Parts.clean.Goals as goal

pub returns-in-None-clause-frames : goal.returns-in-None-clause-frames
returns-in-None-clause-frames g c = frames-stay c.args.self.now c.args.self.now refl refl

pub returns-in-Some-clause-uncounted : goal.returns-in-Some-clause-uncounted
returns-in-Some-clause-uncounted g c = λ same below. absurd (raised-more c.args.self.now.store.counts.writes below (sym c.write_back.ensures.asked.writes ∙ same))
