use Rattle.std.proofs.Common.{◌≡◌, ◌∙◌, sym, arith, option_map}
use Rattle.hg_base.specs.HeapStates.{one_heap}
use Rattle.hg_base.specs.Plain.{heap_of, heap_at}
use Rattle.hg_base.specs.PlainSums.{sum-zero, count-step, count-few, read-heap}
use Rattle.hg_base.proofs.plain_parts.PlainParts.free_number.Goals as goal

pub loop-number-init : goal.loop-number-init
loop-number-init c = sum-zero (λ h. one_heap (option_map heap_of (heap_at c.args.self.now.heaps.items h)))

pub loop-number-preserved : goal.loop-number-preserved
loop-number-preserved c =
    count-step c.args.self.now.heaps.items c.loop-number.number c.in-Some.field-0
    (sym (read-heap c.args.self.now.heaps.items c.loop-number.number c.index.result.now (let t = c.loop-number-test.true in let o = c.args.self.now.heaps.ok.0 in omega arith) c.index.ensures) ∙ c.in-Some.is) c.loop-number.invariant

pub returns-clause-few : goal.returns-clause-few
returns-clause-few c =
    let t = c.loop-number-test.false in let n = c.len.ensures in let o = c.args.self.now.heaps.ok.0 in let s = c.requires.short in let e = c.len-number-end.ensures in
    let a = c.loop-number.auto.number-end in
    let same : c.loop-number.number ≡ c.len.result = omega arith in
    let l = count-few (λ h. one_heap (option_map heap_of (heap_at c.args.self.now.heaps.items h))) c.loop-number.number (omega arith) c.loop-number.invariant c.requires.few in
    omega arith
