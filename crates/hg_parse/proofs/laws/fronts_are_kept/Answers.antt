use Rattle.hg_parse.proofs.RuleImages.{keeps_fronts}
use Rattle.hg_parse.proofs.laws.fronts_are_kept.Goals as goal

pub returns : goal.returns
returns c = keeps_fronts
