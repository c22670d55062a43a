use Rattle.std.proofs.Common.{◌≡◌, ℕ, List, [], ◌++◌, ◌+◌, ◌-◌, ◌∙◌, ap, sym, Some, take, drop, arith, append-nil}
use Rattle.hg_slot.proofs.Copying.{copied_full, copy_room}
use Rattle.hg_slot.proofs.close.copy_slot.Goals as goal

pub place-requires-clause-room : goal.place-requires-clause-room
place-requires-clause-room c =
    let room = copy_room c.args.from.now c.args.built.now c.args.slot c.in-Some.entry.offset c.in-Some.entry.size
    c.requires.slotted c.requires.room c.requires.so_far c.in-Some.ensures in
    omega arith

pub returns-in-Some : goal.returns-in-Some
returns-in-Some c =
    let from : ℕ = c.in-Some.entry.offset in
    let n : ℕ = c.in-Some.entry.size in
    let e : n ≡ from + n - from = omega arith in
    let x : List ℕ = take (from + n - from) (drop from c.args.from.now) in
    copied_full c.args.from.now c.args.built.now c.place.new.page (x ++ []) c.args.slot
    c.requires.slotted c.requires.is_slot c.requires.room c.requires.so_far c.place.ensures
    (c.in-Some.ensures.shown ∙ ap (λ k. Some (take k (drop from c.args.from.now))) e ∙ ap Some (sym (append-nil x)))
