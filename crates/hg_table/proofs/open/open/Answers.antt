use Rattle.hg_table.proofs.Seeing.{same_space}
use Rattle.hg_table.proofs.open.open.Goals as goal

pub returns-then-not-can_pin-clause-err : goal.returns-then-not-can_pin-clause-err
returns-then-not-can_pin-clause-err g c = same_space (g.S.Pages.state c.args.space.now)
