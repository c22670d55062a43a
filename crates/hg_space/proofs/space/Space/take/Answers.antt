use Rattle.std.proofs.Common.{◌≡◌, ◌<◌, ◌∙◌, sym, refl, arith, subst, length}
use Rattle.std.specs.Prelude.{slice_index}
use Rattle.std.proofs.lemmas.List.{get_or_read}
use Rattle.hg_space.specs.PageMap.{IsFull}
use Rattle.hg_space.specs.Shown.{Kept, pages_of}
use Rattle.hg_space.proofs.KeptLemmas.{sound-seen}
use Rattle.hg_space.proofs.Steps.{all-full}
use Rattle.hg_space.proofs.space.Space.take.Goals as goal

pub returns-then-len-self-clause-full : goal.returns-then-len-self-clause-full
returns-then-len-self-clause-full c =
    let P : Kept → Type 0 = λ s. IsFull (pages_of s) in
    let inside : 0 < length c.self.inside.free.items = omega (arith, c.self.invariant.0.room) in
    let root : slice_index c.self.inside.free.items 0 ≡ 0 =
    sym (get_or_read c.self.inside.free.items 0 c.index.result.now inside c.index.ensures 0) ∙ c.if-index-ne0.false in
    (λ _. subst P c.self.view_is (all-full _ c.self.invariant.0.summary (omega (arith, c.self.invariant.0.room, c.self.invariant.0.enough, c.self.invariant.0.within)) root (omega arith)), λ _. refl)

pub returns-then-len-self-clause-sound : goal.returns-then-len-self-clause-sound
returns-then-len-self-clause-sound c = sound-seen _ _ c.self.view_is c.self.invariant.0.within
