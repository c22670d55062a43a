use Rattle.std.proofs.Common.{◌≡◌, ◌∙◌, ap, sym, subst, Some, option_map}
use Rattle.hg_base.specs.Content.{locked}
use Rattle.hg_base.specs.HeapStates.{standing_of, HasWord}
use Rattle.hg_base.specs.PlainObjects.{objects_in, frames_in, words_under}
use Rattle.hg_base.specs.PlainSpaces.{state_of}
use Rattle.hg_base.specs.declared.plain_objects.HeapObjects.{HeapObjects}
use Rattle.hg_base.proofs.PlainTargets.{word-found, target-seen}
use Rattle.std.proofs.Common.{option_and_then}
use Rattle.hg_base.specs.HeapContent.{words_of, links_of, object_at}
use Rattle.hg_base.specs.HeapStates.{of_locked}
use Rattle.hg_base.proofs.plain_heaps.PlainSpaceHeaps.word.Goals as goal

pub returns-clause-target : goal.returns-clause-target
returns-clause-target c =
    let o : HeapObjects = c.in-Some.objects.now in
    let e : standing_of (state_of c.args.self.now) c.args.h.0 ≡ Some (locked (objects_in o) (frames_in o)) = ap (λ z. standing_of (state_of z) c.args.h.0) (sym c.self.view_is) ∙ c.in-Some.ensures.some in
    let has : HasWord (words_under o c.args.dir.word) c.args.k =
    subst (λ st. HasWord (of_locked (λ a frames. option_map (words_of a frames) (option_and_then links_of (object_at a frames c.args.dir.word))) st) c.args.k) e c.requires in
    target-seen (state_of c.args.self.now) c.args.h.0 c.word.result.word o e (word-found o c.args.dir.word c.args.k c.word.result.word c.in-Some.ensures.sound.well has c.word.ensures)
