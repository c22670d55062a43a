use Rattle.std.proofs.Common.{sym, subst, ℕ}
use Rattle.hg_base.specs.HeapStates.{IsLocked, IsTarget}
use Rattle.hg_base.specs.Space.{Space}
use Rattle.hg_base.specs.PlainSpaces.{state_of}
use Rattle.hg_base.proofs.PlainPlacing.{Placing, placing, row-there, row-leads, row-keeps}
use Rattle.hg_base.specs.HeapStates.{KeepsObjects}
use Rattle.hg_base.proofs.plain_heaps.PlainSpaceHeaps.place.Goals as goal

pub returns-clause-there : goal.returns-clause-there
returns-clause-there c =
    let s : Space = state_of c.self.inside.parts in
    let h : ℕ = c.args.h.0 in
    let p : Placing s h = placing c.self.inside.parts h c.self.invariant (subst (λ z. IsLocked (state_of z) h) (sym c.self.view_is) c.requires.locked) in
    row-there s (state_of c.place.new.self) h c.args.link.word c.args.payload.now c.place.result p c.place.ensures.ok c.place.ensures.address c.place.ensures.room.0

pub returns-clause-leads : goal.returns-clause-leads
returns-clause-leads c =
    let s : Space = state_of c.self.inside.parts in
    let h : ℕ = c.args.h.0 in
    let p : Placing s h = placing c.self.inside.parts h c.self.invariant (subst (λ z. IsLocked (state_of z) h) (sym c.self.view_is) c.requires.locked) in
    row-leads s (state_of c.place.new.self) h c.args.link.word c.args.payload.now c.place.result p (subst (λ z. IsTarget (state_of z) h c.args.link.word) (sym c.self.view_is) c.requires.target)
    c.place.ensures.ok c.place.ensures.address c.place.ensures.room.0

pub returns-clause-kept : goal.returns-clause-kept
returns-clause-kept c =
    let s : Space = state_of c.self.inside.parts in
    let h : ℕ = c.args.h.0 in
    let p : Placing s h = placing c.self.inside.parts h c.self.invariant (subst (λ z. IsLocked (state_of z) h) (sym c.self.view_is) c.requires.locked) in
    subst (λ z. KeepsObjects (state_of z) (state_of c.place.new.self) h) c.self.view_is
    (row-keeps s (state_of c.place.new.self) h c.args.link.word c.args.payload.now c.place.result p c.place.ensures.ok c.place.ensures.err c.place.ensures.room.0)
