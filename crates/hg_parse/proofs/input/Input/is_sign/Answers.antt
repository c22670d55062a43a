use Rattle.std.proofs.Common.{◌∙◌}
use Rattle.hg_parse.proofs.Eaten.{eats_sign, eats_no_sign}
use Rattle.hg_parse.proofs.input.Input.is_sign.Goals as goal

pub returns-in-Sign : goal.returns-in-Sign
returns-in-Sign c = c.is_same_sign.ensures ∙ eats_sign c.args.self.now c.args.sign _ c.in-Sign.is

pub returns-in_default : goal.returns-in_default
returns-in_default c = eats_no_sign c.args.self.now _ c.in_default.not-Sign
