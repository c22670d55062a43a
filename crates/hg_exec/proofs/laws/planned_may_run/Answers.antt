use Rattle.hg_exec.proofs.Ready.{planned_may_run}
use Rattle.hg_exec.proofs.laws.planned_may_run.Goals as goal

pub returns : goal.returns
returns c =
    planned_may_run c.bound_is_sound.ensures c.places_are_positions.ensures.places c.places_are_positions.ensures.columns c.tables_so_far_tell.ensures
    c.codings_tell.ensures.row
