use Rattle.std.proofs.Common.{refl, IsSome}
use Rattle.hg_base.specs.Plain.{heap_at}
use Rattle.hg_base.specs.PlainChanges.{some-at, heap-in}
use Rattle.hg_base.specs.declared.plain_parts.PlainParts.{PlainParts}
use Rattle.hg_base.proofs.PlainDraining.{can-there}
use Rattle.hg_base.proofs.plain_parts.PlainParts.take_page.Goals as goal

pub returns : goal.returns
returns c =
    let s : PlainParts = c.args.self.now in
    let there : IsSome (heap_at s.heaps.items c.args.h.0) = can-there (heap_at s.heaps.items c.args.h.0) c.requires.can in
    record {
      before = c.in-Some.heap;
      heap = c.drain.new.self;
      is = some-at s.heaps.items c.args.h.0 c.index_mut.result.now c.in-Some.heap there c.index_mut.ensures.value c.in-Some.is;
      inside = heap-in s.heaps.items c.args.h.0 there;
      after = refl;
      change = c.drain.ensures;
    }
