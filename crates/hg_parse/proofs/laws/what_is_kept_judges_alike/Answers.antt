use Rattle.hg_parse.proofs.Judged.{judges_alike}
use Rattle.hg_parse.proofs.laws.what_is_kept_judges_alike.Goals as goal

pub returns : goal.returns
returns c = judges_alike
