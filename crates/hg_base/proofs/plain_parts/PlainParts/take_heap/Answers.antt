use Rattle.std.proofs.Common.{◌∙◌, ap, None}
use Rattle.hg_base.specs.Plain.{heap_at}
use Rattle.hg_base.specs.PlainSpaces.{state_of}
use Rattle.std.specs.Vec.{with_item}
use Rattle.hg_base.specs.declared.plain_parts.PlainParts.{PlainParts}
use Rattle.hg_base.specs.PlainChanges.{heap-in}
use Rattle.hg_base.specs.PlainKept.{state-put, heaps-set}
use Rattle.hg_base.proofs.plain_parts.PlainParts.take_heap.Goals as goal

pub returns-clause-state : goal.returns-clause-state
returns-clause-state c =
    let s : PlainParts = c.args.self.now in
    ap (λ o. state_of (record s { heaps = with_item s.heaps c.args.h.0 o })) c.replace.ensures.after
    ∙ state-put s c.args.h.0 None (heap-in s.heaps.items c.args.h.0 c.requires)

pub returns-clause-heaps : goal.returns-clause-heaps
returns-clause-heaps c =
    let s : PlainParts = c.args.self.now in
    ap (λ o. heap_at (with_item s.heaps c.args.h.0 o).items) c.replace.ensures.after
    ∙ heaps-set s.heaps.items c.args.h.0 None (heap-in s.heaps.items c.args.h.0 c.requires)
