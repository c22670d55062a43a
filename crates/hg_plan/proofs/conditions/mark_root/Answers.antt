use Rattle.hg_plan.proofs.Marking.{root_marked}
use Rattle.hg_plan.proofs.conditions.mark_root.Goals as goal

pub returns-in-Some : goal.returns-in-Some
returns-in-Some c p = root_marked p c.args.root.now c.in-Some.node c.args.marks.now c.in-Some.is c.requires.inside
