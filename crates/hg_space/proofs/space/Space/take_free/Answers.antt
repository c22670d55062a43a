use Rattle.std.proofs.Common.{◌≡◌, ◌∙◌, ◌-◌, false, arith, ap, subst, length}
use Rattle.std.proofs.lemmas.List.{with_items_is}
use Rattle.hg_space.specs.PageMap.{IsLowestFree, with_page}
use Rattle.hg_space.specs.Shown.{Kept, pages_of}
use Rattle.hg_space.specs.ShownLaws.{pages_of_sound}
use Rattle.hg_space.proofs.KeptLemmas.{page-low, found, kept-taken, count-more, carried, carried-to}
use Rattle.hg_space.proofs.Steps.{taken}
use Rattle.hg_space.proofs.space.Space.take_free.Goals as goal

pub clear-requires : goal.clear-requires
clear-requires c =
    let free = found _ _ _ _ c.first_below-bit.result c.self.invariant.0 c.deref.ensures.value c.first_below-bit.ensures in
    omega (arith, free.inside, ap length c.deref_mut-2.ensures.value, c.self.invariant.0.linked_room)

pub overflow_add-self : goal.overflow_add-self
overflow_add-self c =
    let free = found _ _ _ _ c.first_below-bit.result c.self.invariant.0 c.deref.ensures.value c.first_below-bit.ensures in
    omega (arith, count-more _ _ _ _ c.self.invariant.0 free.lowest.free free.below)

pub overflow_cast-result : goal.overflow_cast-result
overflow_cast-result c =
    let free = found _ _ _ _ c.first_below-bit.result c.self.invariant.0 c.deref.ensures.value c.first_below-bit.ensures in
    omega (arith, free.below)

pub invariant_of-self : goal.invariant_of-self
invariant_of-self c =
    let free = found _ _ _ _ c.first_below-bit.result c.self.invariant.0 c.deref.ensures.value c.first_below-bit.ensures in
    let same : length c.clear_up.new.words ≡ c.self.inside.free.len = omega arith in
    let written = with_items_is c.self.inside.free c.clear_up.new.words same in
    let kept_len : length c.clear_up.new.words ≡ length c.self.inside.free.items = omega (arith, ap length c.deref_mut.ensures.value) in
    let same_linked : length c.clear.new.words ≡ c.self.inside.linked.len = omega arith in
    let written_linked = with_items_is c.self.inside.linked c.clear.new.words same_linked in
    let kept_linked : length c.clear.new.words ≡ length c.self.inside.linked.items = omega (arith, ap length c.deref_mut-2.ensures.value) in (
      kept-taken _ _ _ _ _ (c.first_below-bit.result - c.self.inside.levels.first) c.self.invariant.0 free.lowest.free free.inside
          (carried-to _ _ _ _ _ _ false c.deref_mut.ensures.value written free.place c.clear_up.ensures)
          (carried _ _ _ _ _ false c.deref_mut-2.ensures.value written_linked c.clear.ensures.changed)
          (ap length written ∙ kept_len) (ap length written_linked ∙ kept_linked),
      c.self.invariant.1,
    )

pub returns-clause-lowest : goal.returns-clause-lowest
returns-clause-lowest c =
    let free = found _ _ _ _ c.first_below-bit.result c.self.invariant.0 c.deref.ensures.value c.first_below-bit.ensures in
    let P : Kept → Type 0 = λ s. IsLowestFree (pages_of s) (c.first_below-bit.result - c.self.inside.levels.first) in
    subst P c.self.view_is free.lowest

pub returns-clause-taken : goal.returns-clause-taken
returns-clause-taken c =
    let free = found _ _ _ _ c.first_below-bit.result c.self.invariant.0 c.deref.ensures.value c.first_below-bit.ensures in
    let same : length c.clear_up.new.words ≡ c.self.inside.free.len = omega arith in
    let written = with_items_is c.self.inside.free c.clear_up.new.words same in
    let same_linked : length c.clear.new.words ≡ c.self.inside.linked.len = omega arith in
    let written_linked = with_items_is c.self.inside.linked c.clear.new.words same_linked in
    taken _ _ _ (c.first_below-bit.result - c.self.inside.levels.first) free.inside (page-low _ _ _ _ c.self.invariant.0 free.inside)
    (carried-to _ _ _ _ _ _ false c.deref_mut.ensures.value written free.place c.clear_up.ensures)
    (carried _ _ _ _ _ false c.deref_mut-2.ensures.value written_linked c.clear.ensures.changed)
    ∙ ap (λ s. with_page (pages_of s) (c.first_below-bit.result - c.self.inside.levels.first)) c.self.view_is

pub returns-clause-sound : goal.returns-clause-sound
returns-clause-sound c = pages_of_sound _ c.self.invariant.0.within
