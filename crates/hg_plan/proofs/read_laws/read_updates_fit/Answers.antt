use Rattle.hg_plan.proofs.ReadStatements.{reads_fit}
use Rattle.hg_plan.proofs.read_laws.read_updates_fit.Goals as goal

pub returns : goal.returns
returns c = λ max line u texts read. reads_fit read
