use Rattle.std.proofs.Common.{◌≡◌, ◌∙◌, true, arith, ap, length}
use Rattle.std.proofs.lemmas.List.{with_items_is}
use Rattle.hg_space.specs.PageMap.{without_page}
use Rattle.hg_space.specs.Shown.{pages_of}
use Rattle.hg_space.specs.ShownLaws.{pages_of_sound}
use Rattle.hg_space.proofs.KeptLemmas.{page-within, page-room, page-low, count-positive, carried-up, kept-released}
use Rattle.hg_space.proofs.Steps.{released}
use Rattle.hg_space.proofs.space.Space.release.Goals as goal

pub set_up-requires : goal.set_up-requires
set_up-requires c = omega (arith, page-room _ _ _ c.args.no c.self.invariant.0 (page-within _ _ c.args.no c.self.view_is c.requires.used), ap length c.deref_mut.ensures.value)

pub overflow_sub-self : goal.overflow_sub-self
overflow_sub-self c = count-positive _ _ _ c.args.no c.self.view_is c.requires.used c.self.invariant.0.within c.self.invariant.0.count

pub invariant_of-self : goal.invariant_of-self
invariant_of-self c =
    let same : length c.set_up.new.words ≡ c.self.inside.free.len = omega arith in
    let written = with_items_is c.self.inside.free c.set_up.new.words same in
    let l = page-within _ _ c.args.no c.self.view_is c.requires.used in (
      kept-released _ _ _ _ c.args.no c.self.invariant.0 (ap (λ s. (pages_of s).used c.args.no) c.self.view_is ∙ c.requires.used) l
          (carried-up _ _ _ _ _ true c.deref_mut.ensures.value written c.set_up.ensures)
          (ap length written ∙ (omega (arith, ap length c.deref_mut.ensures.value))),
      c.self.invariant.1,
    )

pub returns-clause-released : goal.returns-clause-released
returns-clause-released c =
    let same : length c.set_up.new.words ≡ c.self.inside.free.len = omega arith in
    let written = with_items_is c.self.inside.free c.set_up.new.words same in
    let l = page-within _ _ c.args.no c.self.view_is c.requires.used in
    released _ _ c.args.no l (page-low _ _ _ c.args.no c.self.invariant.0 l) (carried-up _ _ _ _ _ true c.deref_mut.ensures.value written c.set_up.ensures)
    ∙ ap (λ s. without_page (pages_of s) c.args.no) c.self.view_is

pub returns-clause-sound : goal.returns-clause-sound
returns-clause-sound c = pages_of_sound _ c.self.invariant.0.within
