use Rattle.std.proofs.Common.{◌∙◌, ap, refl, true, None, ◌+◌}
use Rattle.hg_base.specs.Space.{with_new}
use Rattle.std.specs.Vec.{with_item}
use Rattle.hg_base.specs.PlainSpaces.{counts_of, state_of}
use Rattle.hg_base.specs.declared.plain_parts.Slot.{Slot}
use Rattle.hg_base.specs.declared.plain_parts.PlainParts.{PlainParts}
use Rattle.hg_base.proofs.PlainSteps.{list-new, whole-new}
use Rattle.std.proofs.Common.{rules}
use Rattle.hg_base.proofs.plain_parts.PlainParts.make.Goals as goal

pub returns-clause-ok : goal.returns-clause-ok
returns-clause-ok c =
    list-new c.grow.new.self.slots.items c.args.at c.grow.new.self.pins (counts_of c.grow.new.self) (state_of c.grow.new.self).heaps c.in_ok-page.page (search rules) (search rules) c.requires.key
    (ap (λ s. s.taken c.args.at) c.grow.ensures.same ∙ c.requires.free)
    ∙ ap (λ s. with_new s c.args.at) c.grow.ensures.same

pub returns-clause-whole : goal.returns-clause-whole
returns-clause-whole c =
    let s : PlainParts = c.grow.new.self in
    let x : Slot = record { page = c.in_ok-page.page; pinned = true; next = None; heap = None } in
    λ w.
    whole-new s (record s { slots = with_item s.slots c.args.at x; pins = s.pins + 1 }) c.args.at x (search rules)
    (ap (λ z. z.taken c.args.at) c.grow.ensures.same ∙ c.requires.free) refl refl refl (c.grow.ensures.whole w)
