use Rattle.std.proofs.Common.{◌∙◌}
use Rattle.hg_parse.proofs.Eaten.{eats_soft, eats_no_soft}
use Rattle.hg_parse.proofs.input.Input.is_soft.Goals as goal

pub returns-in-Name : goal.returns-in-Name
returns-in-Name c = c.is_spelled.ensures ∙ eats_soft c.args.self.now c.args.word.now c.in-Name.is

pub returns-in_default : goal.returns-in_default
returns-in_default c = eats_no_soft c.args.self.now c.args.word.now c.requires c.in_default.not-Name
