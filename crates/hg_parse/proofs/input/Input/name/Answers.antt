use Rattle.std.proofs.Common.{◌∙◌, ap, sym}
use Rattle.hg_parse.proofs.Eaten.{finds_name, finds_no_name, has_name}
use Rattle.hg_parse.proofs.Moving.{stays}
use Rattle.hg_model.specs.Tokens.{lower}
use Rattle.hg_parse.specs.Steps.{got}
use Rattle.hg_parse.proofs.input.Input.name.Goals as goal

pub advance-requires : goal.advance-requires
advance-requires c = has_name c.args.self.now c.in-Name.is

pub returns-in_default : goal.returns-in_default
returns-in_default c = record { reads = λ k. finds_no_name c.args.self.now k c.in_default.not-Name; goes_on = stays _ }

pub returns-clause-reads : goal.returns-clause-reads
returns-clause-reads c = λ k. finds_name c.args.self.now k c.args.self.now.piece.spelled c.in-Name.is ∙ ap (got k (lower c.args.self.now.piece.bytes.now)) (sym c.advance.ensures.tokens)
