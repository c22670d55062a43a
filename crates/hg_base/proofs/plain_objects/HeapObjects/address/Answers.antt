use Rattle.std.proofs.Common.{◌≡◌, ◌∙◌, ap, sym, arith, ◌+◌, ◌*◌, ◌-◌, List, Some, slice_get, drop, slice_index_or}
use Rattle.hg_base.specs.Content.{Object}
use Rattle.hg_base.specs.PlainObjects.{addresses_from}
use Rattle.hg_base.specs.PlainObjectLaws.{there-at, address-end, address-step}
use Rattle.hg_base.proofs.plain_objects.HeapObjects.address.Goals as goal

pub returns-then-left-count : goal.returns-then-left-count
returns-then-left-count c =
    let p : List Object = c.index-objects.result.now in
    let o = c.args.self.now.layout.ok.0 in let t = c.loop-page-test.true in
    let there : slice_get c.args.self.now.layout.items c.loop-page.page ≡ Some p = there-at c.args.self.now.layout.items c.loop-page.page p (omega arith) c.index-objects.ensures in
    c.of.ensures
    ∙ ap (λ f. f * 4096 + c.offset.result) c.frame.ensures.frame
    ∙ sym (address-end c.args.self.now.first c.loop-page.left c.loop-page.page c.offset.result c.args.self.now.layout.items p there
    (let n = c.len-count.ensures.count in let t = c.if-left-count.true in omega arith) c.offset.ensures.begins)
    ∙ sym c.loop-page.invariant

pub loop-page-preserved : goal.loop-page-preserved
loop-page-preserved c =
    let p : List Object = c.index-objects.result.now in
    let o = c.args.self.now.layout.ok.0 in let t = c.loop-page-test.true in
    let there : slice_get c.args.self.now.layout.items c.loop-page.page ≡ Some p = there-at c.args.self.now.layout.items c.loop-page.page p (omega arith) c.index-objects.ensures in
    c.loop-page.invariant
    ∙ address-step c.args.self.now.first c.loop-page.left c.loop-page.page c.args.self.now.layout.items p there
    (let n = c.len-count.ensures.count in let t = c.if-left-count.false in omega arith)
    ∙ ap (λ n. slice_index_or (addresses_from (c.args.self.now.first + (c.loop-page.page + 1)) (drop (c.loop-page.page + 1) c.args.self.now.layout.items)) (c.loop-page.left - n) 0) (sym c.len-count.ensures.count)
