use Rattle.std.proofs.Common.{◌∙◌}
use Rattle.hg_btree.proofs.halve.place_in.Goals as goal

pub returns-clause-way : goal.returns-clause-way
returns-clause-way c = λ level first es h. (c.in_ok-level.ensures.level ∙ h.level_is, c.in_ok-onward.ensures.leads level first es h)
