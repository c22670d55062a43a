use Rattle.std.proofs.Common.{refl}
use Rattle.hg_btree.proofs.look.open.Goals as goal

pub returns-then-not-can_pin-clause-err : goal.returns-then-not-can_pin-clause-err
returns-then-not-can_pin-clause-err g c = record { counts = (g.S.Pages.state c.args.space.now).counts; after = refl }
