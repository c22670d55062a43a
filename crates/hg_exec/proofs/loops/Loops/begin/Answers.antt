use Rattle.std.specs.Prelude.{◌+◌, ◌*◌, ◌∷◌, ◌++◌, [], None}
use Rattle.std.proofs.Common.{◌∙◌, ap}
use Rattle.hg_exec.specs.Entering.{begun}
use Rattle.hg_exec.proofs.Beginning.{begins-owed, begins-work, most-of}
use Rattle.hg_exec.proofs.loops.Loops.begin.Goals as goal

pub returns-clause-owed : goal.returns-clause-owed
returns-clause-owed g c marks tables pages f loops rows some shown =
    begins-owed (g.S.Pages.state c.args.space.now) marks tables pages f _
    (c.push.ensures.items ∙ ap (λ os. os ++ begun (128 * c.taken.result + 1) 0 ∷ []) c.clear.ensures)
    (most-of c.taken.result _ c.taken.ensures.count) loops rows some shown

pub returns-clause-work : goal.returns-clause-work
returns-clause-work g c marks tables pages f loops form stand some shown =
    begins-work (g.S.Pages.state c.args.space.now) marks tables pages f _
    (c.push.ensures.items ∙ ap (λ os. os ++ begun (128 * c.taken.result + 1) 0 ∷ []) c.clear.ensures)
    (most-of c.taken.result _ c.taken.ensures.count) loops form stand some shown
