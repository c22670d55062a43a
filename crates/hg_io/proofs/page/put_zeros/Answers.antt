use Rattle.std.proofs.Common.{ap, replicate, ◌∙◌}
use Rattle.hg_io.specs.Device.{zeros}
use Rattle.hg_io.proofs.page.put_zeros.Goals as goal

pub returns : goal.returns
unfolding zeros
returns c = c.fill.ensures.after (λ y same. same) ∙ ap (λ n. replicate n 0) c.requires
