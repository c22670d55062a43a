use Rattle.std.proofs.Common.{◌∙◌, ap, arith, Some, None, false}
use Rattle.hg_base.specs.Space.{at}
use Rattle.hg_base.specs.PlainSpaces.{state_of, counts_of, owners_of}
use Rattle.hg_base.proofs.PlainHeaps.{list-owned, owners-put, owner-key}
use Rattle.hg_base.proofs.plain_parts.PlainParts.own.Goals as goal

pub returns-clause-state : goal.returns-clause-state
returns-clause-state c =
    let l = c.requires.there in let o = c.args.self.now.slots.ok.0 in
    list-owned c.args.self.now.slots.items c.args.page c.args.h c.args.self.now.pins c.none.result (counts_of c.args.self.now) (state_of c.args.self.now).heaps (omega arith) c.requires.key c.requires.free

pub returns-clause-owners : goal.returns-clause-owners
returns-clause-owners c =
    let l = c.requires.there in let o = c.args.self.now.slots.ok.0 in
    owners-put c.args.self.now.slots.items c.args.page (record { page = c.none.result; pinned = false; next = None; heap = Some c.args.h }) (omega arith)
    ∙ ap (λ x. at (owners_of c.args.self.now) c.args.page x) (owner-key c.args.page c.args.h c.requires.key)
