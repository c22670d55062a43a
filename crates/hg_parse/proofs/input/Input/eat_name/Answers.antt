use Rattle.std.proofs.Common.{refl}
use Rattle.hg_parse.proofs.Eaten.{name_in_yes, name_in_no, has_name}
use Rattle.hg_parse.proofs.Moving.{stays}
use Rattle.hg_parse.proofs.input.Input.eat_name.Goals as goal

pub advance-requires : goal.advance-requires
advance-requires c = has_name c.args.self.now c.in-Name.is

pub returns-in_default : goal.returns-in_default
returns-in_default c = record { reads = name_in_no c.args.self.now c.in_default.not-Name; rest = refl; goes_on = stays _ }

pub returns-clause-reads : goal.returns-clause-reads
returns-clause-reads c = name_in_yes c.args.self.now c.args.self.now.piece.spelled c.in-Name.is
