use Rattle.std.proofs.Common.{ap, refl, ◌≡◌, ℕ, true}
use Rattle.hg_base.specs.Space.{key}
use Rattle.std.specs.Vec.{with_item}
use Rattle.hg_base.specs.Plain.{slot_at, is_plain}
use Rattle.hg_base.specs.PlainSpaces.{counts_of, state_of}
use Rattle.hg_base.specs.declared.plain_parts.Slot.{Slot}
use Rattle.hg_base.specs.declared.plain_parts.PlainParts.{PlainParts}
use Rattle.hg_base.proofs.PlainSteps.{list-release, plain-of, whole-plain}
use Rattle.hg_base.proofs.plain_parts.PlainParts.release.Goals as goal

pub returns-clause-state : goal.returns-clause-state
returns-clause-state c =
    let s : PlainParts = c.args.self.now in
    let p : ℕ = key c.args.page in
    let i : ℕ = c.place_of.result in
    let plain : is_plain p (slot_at s.slots.items p) ≡ true = plain-of p (slot_at s.slots.items p) c.requires.taken c.requires.no_heap in
    list-release s.slots.items i p c.empty.result s.pins (counts_of s) (state_of s).heaps c.place_of.ensures c.empty.ensures plain c.requires.not_pinned

pub returns-clause-whole : goal.returns-clause-whole
returns-clause-whole c =
    let s : PlainParts = c.args.self.now in
    let p : ℕ = key c.args.page in
    let i : ℕ = c.place_of.result in
    let plain : is_plain p (slot_at s.slots.items p) ≡ true = plain-of p (slot_at s.slots.items p) c.requires.taken c.requires.no_heap in
    whole-plain s (record s { slots = with_item s.slots i c.empty.result }) i p c.empty.result c.place_of.ensures plain (ap (λ (y : Slot). y.heap) c.empty.ensures) refl refl
