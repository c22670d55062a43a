use Rattle.std.proofs.Common.{◌≡◌, ◌∙◌, ap, sym, refl, ℕ, true}
use Rattle.hg_base.specs.Space.{key}
use Rattle.hg_base.specs.Lending.{refit}
use Rattle.hg_base.specs.Plain.{slot_at, is_plain}
use Rattle.hg_base.specs.PlainSpaces.{state_of}
use Rattle.hg_base.specs.PlainLaws.{after_write_of, and-true, plain-free}
use Rattle.hg_base.specs.declared.plain_parts.PlainParts.{PlainParts}
use Rattle.hg_base.proofs.PlainSteps.{whole-plain}
use Rattle.hg_base.proofs.plain.PlainSpacePages.bytes_mut.Goals as goal

pub invariant_of-self-lent : goal.invariant_of-self-lent
invariant_of-self-lent c w =
    let s : PlainParts = c.self.inside.parts in
    let p : ℕ = key c.args.pin.now.page in
    let pinned : (state_of s).pinned p ≡ true = ap (λ z. (state_of z).pinned p) c.self.view_is ∙ c.requires in
    let plain : is_plain p (slot_at s.slots.items p) ≡ true = and-true (is_plain p (slot_at s.slots.items p)) (slot_at s.slots.items p).pinned pinned in
    whole-plain s (after_write_of s p w) p p (record (slot_at s.slots.items p) { page = refit (slot_at s.slots.items p).page w }) refl plain
    (plain-free p (slot_at s.slots.items p) plain) refl refl c.self.invariant

pub returns : goal.returns
returns c = (
  (refl, λ w. ap (λ z. after_write_of z (key c.args.pin.now.page) w) c.self.view_is),
  record {
    lends = tt;
    value = sym (ap (λ z. (state_of z).bytes (key c.args.pin.now.page)) c.self.view_is) ∙ c.bytes_mut.ensures.value;
    len = c.bytes_mut.ensures.len;
  },
)
