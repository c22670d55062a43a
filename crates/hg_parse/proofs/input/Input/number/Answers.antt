use Rattle.std.proofs.Common.{◌∙◌, ap, sym}
use Rattle.hg_parse.proofs.Eaten.{finds_number, finds_no_number, has_number}
use Rattle.hg_parse.proofs.Moving.{stays}
use Rattle.hg_model.specs.Tokens.{number_of}
use Rattle.hg_parse.specs.Steps.{got}
use Rattle.hg_parse.proofs.input.Input.number.Goals as goal

pub advance-requires : goal.advance-requires
advance-requires c = has_number c.args.self.now c.in-Number.is

pub returns-in_default : goal.returns-in_default
returns-in_default c = record { reads = λ k. finds_no_number c.args.self.now k c.in_default.not-Number; goes_on = stays _ }

pub returns-clause-reads : goal.returns-clause-reads
returns-clause-reads c = λ k. finds_number c.args.self.now k c.in-Number.is ∙ ap (got k (number_of c.args.self.now.piece.bytes.now)) (sym c.advance.ensures.tokens)
