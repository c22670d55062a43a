use Rattle.std.proofs.Common.{arith}
use Rattle.hg_reloc.proofs.Entries.{room, sound_more}
use Rattle.hg_reloc.proofs.map.MoveMap.set.Goals as goal

pub push_reserved-requires : goal.push_reserved-requires
push_reserved-requires c =
    let v = c.self.view_is in
    let e = rw (← v) at c.requires.no_entry in
    let b = rw (← v) at c.requires.old_below in
    let r = room c.self.inside.max c.self.inside.moves.items c.args.old.0 c.self.invariant.0 b e in
    omega (arith, c.self.invariant.1, r)

pub invariant_of-self : goal.invariant_of-self
invariant_of-self c =
    let v = c.self.view_is in
    let e = rw (← v) at c.requires.no_entry in
    let l = rw (← v) at c.requires.none_leads in
    let b = rw (← v) at c.requires.old_below in
    let n = rw (← v) at c.requires.new_below in
    (rw c.push_reserved.ensures.items (sound_more c.self.inside.max c.self.inside.moves.items (record { old = c.args.old; new = c.args.new }) c.self.invariant.0 b n e l), rw c.push_reserved.ensures.capacity c.self.invariant.1)

pub returns-clause-sound : goal.returns-clause-sound
returns-clause-sound c = (invariant_of-self c).0
