use Rattle.std.proofs.Common.{◌∙◌}
use Rattle.hg_parse.proofs.Eaten.{eats_keyword, eats_no_keyword}
use Rattle.hg_parse.proofs.input.Input.is_keyword.Goals as goal

pub returns-in-Keyword : goal.returns-in-Keyword
returns-in-Keyword c = c.is_same_keyword.ensures ∙ eats_keyword c.args.self.now c.args.word _ c.in-Keyword.is

pub returns-in_default : goal.returns-in_default
returns-in_default c = eats_no_keyword c.args.self.now c.args.word c.args.self.now.piece.spelled c.in_default.not-Keyword
