use Rattle.std.proofs.Common.{◌∙◌, ap, sym, arith, option_map}
use Rattle.hg_base.specs.HeapStates.{pages_for}
use Rattle.hg_base.specs.Plain.{heap_of, heap_at}
use Rattle.hg_base.specs.PlainSums.{sum-zero, sum-more, held-all, read-heap}
use Rattle.hg_base.proofs.plain_parts.PlainParts.held.Goals as goal

pub loop-number-init : goal.loop-number-init
loop-number-init c = record {
  count = sym (sum-zero (λ h. pages_for c.args.r (option_map heap_of (heap_at c.args.self.now.heaps.items h))));
  few = omega arith;
}

pub overflow_add-count : goal.overflow_add-count
overflow_add-count c =
    let i = c.loop-number.invariant.few in let f = c.count_for-count.ensures.few in let s = c.requires.few in let o = c.args.self.now.heaps.ok.0 in
    let t = c.loop-number-test.true in let e = c.len-number-end.ensures in
    omega arith

pub loop-number-preserved : goal.loop-number-preserved
loop-number-preserved c =
    let i = c.loop-number.invariant.few in let f = c.count_for-count.ensures.few in
    let here = read-heap c.args.self.now.heaps.items c.loop-number.number c.index.result.now (let t = c.loop-number-test.true in let o = c.args.self.now.heaps.ok.0 in let e = c.len-number-end.ensures in omega arith) c.index.ensures in
    let n = c.count_for-count.ensures.count ∙ ap (λ o. pages_for c.args.r (option_map heap_of o)) here in
    let m = sum-more (λ h. pages_for c.args.r (option_map heap_of (heap_at c.args.self.now.heaps.items h))) c.loop-number.number in
    let k = c.loop-number.invariant.count in
    record { count = omega arith; few = omega arith }

pub returns-clause-count : goal.returns-clause-count
returns-clause-count c =
    let t = c.loop-number-test.false in let o = c.args.self.now.heaps.ok.0 in let s = c.requires.few in let e = c.len-number-end.ensures in
    let a = c.loop-number.auto.number-end in
    c.loop-number.invariant.count
    ∙ sym (held-all c.args.self.now.heaps.items c.args.r c.loop-number.number (omega arith) (omega arith))
