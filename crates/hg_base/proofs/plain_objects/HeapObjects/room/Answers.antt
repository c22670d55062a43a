use Rattle.std.proofs.Common.{◌≡◌, ◌∙◌, ap, sym, arith, ◌+◌, ◌-◌, ◌*◌, ◌%◌, List, Some, slice_get}
use Rattle.hg_base.specs.Content.{Object}
use Rattle.hg_base.specs.PlainObjectLaws.{there-at, last-free, last-next}
use Rattle.hg_base.proofs.plain_objects.HeapObjects.room.Goals as goal

pub returns-clause-free : goal.returns-clause-free
returns-clause-free c =
    let p : List Object = c.index.result.now in
    let n = c.len-count.ensures in let o = c.args.self.now.layout.ok.0 in let t = c.if-count-eq0.false in
    let there : slice_get c.args.self.now.layout.items (c.len-count.result - 1) ≡ Some p = there-at c.args.self.now.layout.items (c.len-count.result - 1) p (omega arith) c.index.ensures in
    ap (λ e. 4096 - e) c.end-end.ensures.end
    ∙ sym (last-free c.args.self.now.layout.items (c.len-count.result - 1) p (omega arith) there)

pub returns-clause-next : goal.returns-clause-next
returns-clause-next c =
    let p : List Object = c.index.result.now in
    let n = c.len-count.ensures in let o = c.args.self.now.layout.ok.0 in let t = c.if-count-eq0.false in
    let there : slice_get c.args.self.now.layout.items (c.len-count.result - 1) ≡ Some p = there-at c.args.self.now.layout.items (c.len-count.result - 1) p (omega arith) c.index.ensures in
    ap (λ f. f * 4096 + c.end-end.result) c.frame.ensures.frame
    ∙ ap (λ e. (c.args.self.now.first + (c.len-count.result - 1)) % 65536 * 4096 + e) c.end-end.ensures.end
    ∙ sym (last-next c.args.self.now.first c.args.self.now.layout.items (c.len-count.result - 1) p (omega arith) there)
