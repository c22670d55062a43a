use Rattle.std.proofs.Common.{refl}
use Rattle.hg_parse.proofs.Eaten.{text_in_yes, text_in_no, has_text, text_left}
use Rattle.hg_parse.proofs.Moving.{stays}
use Rattle.hg_parse.proofs.input.Input.eat_text.Goals as goal

pub advance-requires : goal.advance-requires
advance-requires c = has_text c.args.self.now c.in-Text.is

pub returns-in_default : goal.returns-in_default
returns-in_default c = record { reads = text_in_no c.args.self.now c.in_default.not-Text; left = tt; rest = refl; goes_on = stays _ }

pub returns-clause-reads : goal.returns-clause-reads
returns-clause-reads c = text_in_yes c.args.self.now c.in-Text.is

pub returns-clause-left : goal.returns-clause-left
returns-clause-left c = text_left c.args.self.now _ c.in-Text.is c.advance.ensures.left
