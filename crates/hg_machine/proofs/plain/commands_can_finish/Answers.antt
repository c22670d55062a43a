use Rattle.hg_machine.proofs.Finishing as proved
use Rattle.hg_machine.proofs.plain.commands_can_finish.Goals as goal

pub returns : goal.returns
returns c = record {
  finish = proved.can_always_finish;
  fronts = proved.stopped_runs_are_fronts;
  finish_loosely = proved.can_always_finish_loosely;
  loose_fronts = proved.loose_stopped_runs_are_fronts;
}
