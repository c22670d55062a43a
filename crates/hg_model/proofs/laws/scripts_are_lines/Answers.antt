use Rattle.hg_model.proofs.ScriptLines as proved
use Rattle.hg_model.proofs.laws.scripts_are_lines.Goals as goal

pub returns : goal.returns
returns c = record { whole = proved.lines_make_script; cut = proved.lines_have_no_feed; once = proved.lines_are_read_once }
