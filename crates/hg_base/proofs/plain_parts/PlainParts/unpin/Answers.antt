use Rattle.std.proofs.Common.{◌∙◌, ap, refl, ◌≡◌, ℕ, true, false}
use Rattle.hg_base.specs.Space.{key}
use Rattle.std.specs.Vec.{with_item}
use Rattle.hg_base.specs.Plain.{slot_at, is_plain}
use Rattle.hg_base.specs.PlainSpaces.{counts_of, state_of}
use Rattle.hg_base.specs.PlainLaws.{and-true}
use Rattle.hg_base.specs.declared.plain_parts.PlainParts.{PlainParts}
use Rattle.hg_base.proofs.PlainSteps.{list-unpin, with_slot, whole-plain, here-free}
use Rattle.hg_base.proofs.plain_parts.PlainParts.unpin.Goals as goal

pub returns-clause-state : goal.returns-clause-state
returns-clause-state c =
    let s : PlainParts = c.args.self.now in
    let p : ℕ = key c.args.page in
    let i : ℕ = c.place_of.result in
    let plain : is_plain p (slot_at s.slots.items p) ≡ true = and-true (is_plain p (slot_at s.slots.items p)) (slot_at s.slots.items p).pinned c.requires in
    ap (λ (n : ℕ). with_slot s.slots.items i (record c.index_mut-slot.result.now { pinned = false }) n (counts_of s) (state_of s).heaps) (c.saturating_sub-self.ensures)
    ∙ list-unpin s.slots.items i p c.index_mut-slot.result.now s.pins (counts_of s) (state_of s).heaps c.place_of.ensures c.index_mut-slot.ensures.value plain

pub returns-clause-whole : goal.returns-clause-whole
returns-clause-whole c =
    let s : PlainParts = c.args.self.now in
    let p : ℕ = key c.args.page in
    let i : ℕ = c.place_of.result in
    let plain : is_plain p (slot_at s.slots.items p) ≡ true = and-true (is_plain p (slot_at s.slots.items p)) (slot_at s.slots.items p).pinned c.requires in
    whole-plain s (record s { slots = with_item s.slots i (record c.index_mut-slot.result.now { pinned = false }); pins = c.saturating_sub-self.result }) i p (record c.index_mut-slot.result.now { pinned = false }) c.place_of.ensures plain
    (here-free s.slots.items i p c.index_mut-slot.result.now c.place_of.ensures c.index_mut-slot.ensures.value plain) refl refl
