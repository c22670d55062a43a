use Rattle.hg_exec.proofs.PlannedSelect.{ready_means_the_same}
use Rattle.hg_exec.proofs.laws.planned_means_the_same.Goals as goal

pub returns : goal.returns
returns c = ready_means_the_same c.loops_mean_select.ensures c.bound_means_the_same.ensures c.bound_is_sound.ensures c.places_are_positions.ensures.columns
