use Rattle.std.proofs.Common.{refl}
use Rattle.hg_base.specs.declared.plain_parts.PlainParts.{PlainParts}
use Rattle.hg_base.specs.PlainChanges.{some-at, heap-in, on-ok, on-err}
use Rattle.hg_base.proofs.plain_parts.PlainParts.push_page.Goals as goal

pub returns-clause-ok : goal.returns-clause-ok
returns-clause-ok c =
    let s : PlainParts = c.args.self.now in
    on-ok c.add_page.result (λ g. record {
      before = c.in-Some.heap;
      heap = c.add_page.new.self;
      is = some-at s.heaps.items c.args.h.0 c.index_mut.result.now c.in-Some.heap c.requires.there c.index_mut.ensures.value c.in-Some.is;
      inside = heap-in s.heaps.items c.args.h.0 c.requires.there;
      after = refl;
      change = g;
    }) c.add_page.ensures.ok

pub returns-clause-err : goal.returns-clause-err
returns-clause-err c =
    let s : PlainParts = c.args.self.now in
    on-err c.add_page.result (λ g. record {
      before = c.in-Some.heap;
      heap = c.add_page.new.self;
      is = some-at s.heaps.items c.args.h.0 c.index_mut.result.now c.in-Some.heap c.requires.there c.index_mut.ensures.value c.in-Some.is;
      inside = heap-in s.heaps.items c.args.h.0 c.requires.there;
      after = refl;
      change = g;
    }) c.add_page.ensures.err
