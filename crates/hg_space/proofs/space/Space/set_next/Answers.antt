use Rattle.std.proofs.Common.{◌≡◌, ◌∙◌, ◌<◌, true, false, Some, None, refl, arith, ap, length, sym}
use Rattle.std.proofs.lemmas.List.{with_items_is}
use Rattle.std.proofs.Math.ListN.{length-set}
use Rattle.hg_space.specs.PageMap.{with_next}
use Rattle.hg_space.specs.Shown.{pages_of}
use Rattle.hg_space.specs.ShownLaws.{pages_of_sound}
use Rattle.hg_space.proofs.KeptLemmas.{page-within, carried, kept-relinked, is_used-of}
use Rattle.hg_space.proofs.Steps.{unlinked, linked-to}
use Rattle.hg_space.proofs.space.Space.set_next.Goals as goal

pub clear-requires : goal.clear-requires
clear-requires c = omega (arith, page-within _ _ c.args.no c.self.view_is c.requires.used, ap length c.deref_mut.ensures.value, c.self.invariant.0.linked_room)

pub invariant_of-self : goal.invariant_of-self
invariant_of-self c =
    let same : length c.clear.new.words ≡ c.self.inside.linked.len = omega arith in
    let written = with_items_is c.self.inside.linked c.clear.new.words same in
    let kept_len : length c.clear.new.words ≡ length c.self.inside.linked.items = omega (arith, ap length c.deref_mut.ensures.value) in
    (kept-relinked _ _ _ _ _ c.self.invariant.0 (ap length written ∙ kept_len) refl, c.self.invariant.1)

pub returns-in_default-clause-changed : goal.returns-in_default-clause-changed
returns-in_default-clause-changed c =
    let same : length c.clear.new.words ≡ c.self.inside.linked.len = omega arith in
    let written = with_items_is c.self.inside.linked c.clear.new.words same in
    unlinked _ _ c.args.no (carried _ _ _ _ c.args.no false c.deref_mut.ensures.value written c.clear.ensures.changed)
    ∙ ap (λ s. with_next (pages_of s) c.args.no None) c.self.view_is
    ∙ ap (λ t. with_next (pages_of c.args.self.now) c.args.no t) (sym c.in_default.is)

pub returns-in_default-clause-sound : goal.returns-in_default-clause-sound
returns-in_default-clause-sound c = pages_of_sound _ c.self.invariant.0.within

pub set-requires : goal.set-requires
set-requires c = omega (arith, page-within _ _ c.args.no c.self.view_is c.requires.used, ap length c.deref_mut-2.ensures.value, c.self.invariant.0.linked_room)

pub index_mut-requires : goal.index_mut-requires
index_mut-requires c = omega (arith, page-within _ _ c.args.no c.self.view_is c.requires.used)

pub invariant_of-self-2 : goal.invariant_of-self-2
invariant_of-self-2 c =
    let same : length c.set.new.words ≡ c.self.inside.linked.len = omega arith in
    let written = with_items_is c.self.inside.linked c.set.new.words same in
    let kept_len : length c.set.new.words ≡ length c.self.inside.linked.items = omega (arith, ap length c.deref_mut-2.ensures.value) in
    (kept-relinked _ _ _ _ _ c.self.invariant.0 (ap length written ∙ kept_len) (length-set _ _ _), c.self.invariant.1)

pub returns-clause-changed : goal.returns-clause-changed
returns-clause-changed c =
    let same : length c.set.new.words ≡ c.self.inside.linked.len = omega arith in
    let written = with_items_is c.self.inside.linked c.set.new.words same in
    let room : c.args.no < length c.self.inside.links.items = omega (arith, page-within _ _ c.args.no c.self.view_is c.requires.used) in
    linked-to _ _ c.args.no c.in-Some.successor (is_used-of _ _ c.args.no c.self.view_is c.requires.used) room
    (carried _ _ _ _ c.args.no true c.deref_mut-2.ensures.value written c.set.ensures.changed)
    ∙ ap (λ s. with_next (pages_of s) c.args.no (Some c.in-Some.successor)) c.self.view_is
    ∙ ap (λ t. with_next (pages_of c.args.self.now) c.args.no t) (sym c.in-Some.is)

pub returns-clause-sound : goal.returns-clause-sound
returns-clause-sound c = pages_of_sound _ (invariant_of-self-2 c).0.within
