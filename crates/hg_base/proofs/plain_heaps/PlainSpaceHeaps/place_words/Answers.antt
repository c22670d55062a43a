use Rattle.std.proofs.Common.{sym, subst, ℕ}
use Rattle.hg_base.specs.HeapStates.{IsLocked}
use Rattle.hg_base.specs.Space.{Space}
use Rattle.hg_base.specs.PlainSpaces.{state_of}
use Rattle.hg_base.proofs.PlainPlacing.{Placing, placing, words-there, words-keep}
use Rattle.hg_base.specs.HeapStates.{KeepsObjects}
use Rattle.hg_base.proofs.plain_heaps.PlainSpaceHeaps.place_words.Goals as goal

pub returns-clause-there : goal.returns-clause-there
returns-clause-there c =
    let s : Space = state_of c.self.inside.parts in
    let h : ℕ = c.args.h.0 in
    let p : Placing s h = placing c.self.inside.parts h c.self.invariant (subst (λ z. IsLocked (state_of z) h) (sym c.self.view_is) c.requires.locked) in
    words-there s (state_of c.place_words.new.self) h c.args.n c.place_words.result p c.place_words.ensures.ok c.place_words.ensures.address c.place_words.ensures.room.0

pub returns-clause-kept : goal.returns-clause-kept
returns-clause-kept c =
    let s : Space = state_of c.self.inside.parts in
    let h : ℕ = c.args.h.0 in
    let p : Placing s h = placing c.self.inside.parts h c.self.invariant (subst (λ z. IsLocked (state_of z) h) (sym c.self.view_is) c.requires.locked) in
    subst (λ z. KeepsObjects (state_of z) (state_of c.place_words.new.self) h) c.self.view_is
    (words-keep s (state_of c.place_words.new.self) h c.args.n c.place_words.result p c.place_words.ensures.ok c.place_words.ensures.err c.place_words.ensures.room.0)
