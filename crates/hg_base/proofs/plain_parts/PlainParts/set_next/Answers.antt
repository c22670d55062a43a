use Rattle.std.proofs.Common.{refl, ◌≡◌, ℕ, true}
use Rattle.hg_base.specs.Space.{key}
use Rattle.std.specs.Vec.{with_item}
use Rattle.hg_base.specs.Plain.{slot_at, is_plain}
use Rattle.hg_base.specs.PlainSpaces.{counts_of, state_of}
use Rattle.hg_base.specs.declared.plain_parts.PlainParts.{PlainParts}
use Rattle.hg_base.proofs.PlainSteps.{list-next, plain-of, whole-plain, here-free}
use Rattle.hg_base.proofs.plain_parts.PlainParts.set_next.Goals as goal

pub returns-clause-state : goal.returns-clause-state
returns-clause-state c =
    let s : PlainParts = c.args.self.now in
    let p : ℕ = key c.args.page in
    let i : ℕ = c.place_of.result in
    let plain : is_plain p (slot_at s.slots.items p) ≡ true = plain-of p (slot_at s.slots.items p) c.requires.taken c.requires.no_heap in
    list-next s.slots.items i p c.index_mut-slot.result.now c.args.next s.pins (counts_of s) (state_of s).heaps c.place_of.ensures c.index_mut-slot.ensures.value plain

pub returns-clause-whole : goal.returns-clause-whole
returns-clause-whole c =
    let s : PlainParts = c.args.self.now in
    let p : ℕ = key c.args.page in
    let i : ℕ = c.place_of.result in
    let plain : is_plain p (slot_at s.slots.items p) ≡ true = plain-of p (slot_at s.slots.items p) c.requires.taken c.requires.no_heap in
    whole-plain s (record s { slots = with_item s.slots i (record c.index_mut-slot.result.now { next = c.args.next }) }) i p (record c.index_mut-slot.result.now { next = c.args.next }) c.place_of.ensures plain
    (here-free s.slots.items i p c.index_mut-slot.result.now c.place_of.ensures c.index_mut-slot.ensures.value plain) refl refl
