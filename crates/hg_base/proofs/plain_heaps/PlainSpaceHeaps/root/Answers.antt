use Rattle.std.proofs.Common.{◌≡◌, ◌∙◌, ap, sym, Some}
use Rattle.hg_base.specs.Content.{locked}
use Rattle.hg_base.specs.HeapStates.{standing_of}
use Rattle.hg_base.specs.PlainObjects.{objects_in, frames_in}
use Rattle.hg_base.specs.PlainSpaces.{state_of}
use Rattle.hg_base.specs.declared.plain_objects.HeapObjects.{HeapObjects}
use Rattle.hg_base.proofs.PlainTargets.{words-target, target-seen}
use Rattle.hg_base.proofs.plain_heaps.PlainSpaceHeaps.root.Goals as goal

pub returns-clause-target : goal.returns-clause-target
returns-clause-target c =
    let o : HeapObjects = c.in-Some.objects.now in
    let e : standing_of (state_of c.args.self.now) c.args.h.0 ≡ Some (locked (objects_in o) (frames_in o)) = ap (λ z. standing_of (state_of z) c.args.h.0) (sym c.self.view_is) ∙ c.in-Some.ensures.some in
    target-seen (state_of c.args.self.now) c.args.h.0 c.root.result.word o e (words-target o o.roots c.args.k c.root.result.word c.in-Some.ensures.sound.well.roots c.root.ensures)
