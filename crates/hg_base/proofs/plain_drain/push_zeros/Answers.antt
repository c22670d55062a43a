use Rattle.std.proofs.Common.{◌∙◌, ap, arith, ◌++◌}
use Rattle.hg_base.specs.PlainDrains.{take-zeros}
use Rattle.hg_base.proofs.plain_drain.push_zeros.Goals as goal

pub returns : goal.returns
returns c = c.push_bytes.ensures ∙ ap (λ l. c.args.page.now.items ++ l) (take-zeros 4096 c.args.count (let r = c.requires in omega arith))
