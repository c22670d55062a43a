use Rattle.hg_exec.proofs.Meaning.{loops_mean_select}
use Rattle.hg_exec.proofs.laws.loops_mean_select.Goals as goal

pub returns : goal.returns
returns c = loops_mean_select c.tables_so_far_tell.ensures c.conditions_keep_rows.ensures.split c.conditions_keep_rows.ensures.tested
