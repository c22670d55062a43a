use Rattle.hg_worked.proofs.ScriptsByHand as proved
use Rattle.hg_worked.proofs.rows.scripts.Goals as goal

pub returns : goal.returns
returns c = record { lines = proved.scripts_hold; readings = proved.line_readings_hold }
