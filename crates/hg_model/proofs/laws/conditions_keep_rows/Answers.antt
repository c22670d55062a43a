use Rattle.hg_model.proofs.Splitting.{splitting_keeps_rows}
use Rattle.hg_model.proofs.Testing.{each_is_tested_once}
use Rattle.hg_model.proofs.laws.conditions_keep_rows.Goals as goal

pub returns : goal.returns
returns c = record { split = splitting_keeps_rows; tested = each_is_tested_once }
