use Rattle.hg_pool.specs.Resizing.{Cleaned}
use Rattle.hg_pool.proofs.parts.Parts.clean_from.Given as goal

abbrev pub invariant-loop-at : goal.invariant-loop-at
invariant-loop-at g l = Cleaned g.M.PageDevice g.T.PageDevice l.initial.self l.self l.from l.at
