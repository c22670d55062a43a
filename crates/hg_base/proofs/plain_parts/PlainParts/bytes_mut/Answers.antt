use Rattle.std.proofs.Common.{◌∙◌, ap, refl, ◌≡◌, ℕ, true, length}
use Rattle.hg_base.specs.Space.{key}
use Rattle.hg_base.specs.Lending.{refit}
use Rattle.std.specs.Vec.{with_item}
use Rattle.hg_base.specs.Plain.{slot_at, is_plain}
use Rattle.hg_base.specs.PlainLaws.{and-true}
use Rattle.hg_base.specs.declared.plain_parts.Slot.{Slot}
use Rattle.hg_base.specs.declared.plain_parts.PlainParts.{PlainParts}
use Rattle.hg_base.proofs.PlainSteps.{loan-here, held-of, whole-page}
use Rattle.hg_base.proofs.plain_parts.PlainParts.bytes_mut.Goals as goal

pub returns : goal.returns
returns c =
    let s : PlainParts = c.args.self.now in
    let p : ℕ = key c.args.page in
    let i : ℕ = c.place_of.result in
    let plain : is_plain p (slot_at s.slots.items p) ≡ true = and-true (is_plain p (slot_at s.slots.items p)) (slot_at s.slots.items p).pinned c.requires in
    let here : c.index_mut-slot.result.now ≡ slot_at s.slots.items p =
    loan-here s.slots.items i p c.index_mut-slot.result.now c.place_of.ensures c.index_mut-slot.ensures.value plain in
    let page : c.bytes_mut.result.now ≡ (slot_at s.slots.items p).page = c.bytes_mut.ensures.value ∙ ap (λ (y : Slot). y.page) here in (
      (
        refl,
        λ w.
            ap (λ (y : Slot). record s { slots = with_item s.slots i (record y { page = refit y.page w }) }) here
            ∙ ap (λ (k : ℕ). record s { slots = with_item s.slots k (record (slot_at s.slots.items p) { page = refit (slot_at s.slots.items p).page w }) }) c.place_of.ensures,
      ),
      record {
        lends = tt;
        value = held-of p (slot_at s.slots.items p) c.bytes_mut.result.now plain page;
        len = ap length page ∙ whole-page p (slot_at s.slots.items p) plain;
      },
    )
