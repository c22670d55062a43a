use Rattle.std.proofs.Common.{refl}
use Rattle.hg_parse.proofs.Eaten.{digits_in_yes, digits_in_no, has_number}
use Rattle.hg_parse.proofs.Moving.{stays}
use Rattle.hg_parse.proofs.input.Input.eat_number.Goals as goal

pub advance-requires : goal.advance-requires
advance-requires c = has_number c.args.self.now c.in-Number.is

pub returns-in_default : goal.returns-in_default
returns-in_default c = record { reads = digits_in_no c.args.self.now c.in_default.not-Number; rest = refl; goes_on = stays _ }

pub returns-clause-reads : goal.returns-clause-reads
returns-clause-reads c = digits_in_yes c.args.self.now c.in-Number.is
