use Rattle.std.proofs.Common.{arith, subst, inl, inr}
use Rattle.std.proofs.lemmas.Bool.{false≢true}
use Rattle.hg_btree.specs.Nodes.{IsNode}
use Rattle.hg_btree.proofs.Splitting.{counted_none, counted_more, cut_here, next_of, width_few, crowded_more}
use Rattle.hg_btree.proofs.split.cut.Goals as goal

pub loop-at-init : goal.loop-at-init
loop-at-init c = let e = c.in_ok-end.ensures.end in record {
  from = omega arith;
  to = omega arith;
  near = omega arith;
  few = omega arith;
  counted = λ level link es h. counted_none c.args.inner es;
}

pub loop-at-preserved : goal.loop-at-preserved
loop-at-preserved c =
    let e = c.in_ok-end.ensures.end in
    let l = c.loop-at-test.true in
    let i = c.loop-at.invariant.from in
    let w = c.loop-at.invariant.few in
    let a = c.in_ok-at.ensures.after in
    record {
      from = omega arith;
      to = c.in_ok-at.ensures.inside;
      near = let s = c.in_ok-at.ensures.short in let t = width_few c.args.inner in omega arith;
      few = omega arith;
      counted = λ level link es h. counted_more c.args.inner c.args.page.now level link es c.loop-at.at c.in_ok-at.at c.loop-at.count h (c.loop-at.invariant.counted level link es h)
          (omega arith) a;
    }

pub returns-clause-cut : goal.returns-clause-cut
returns-clause-cut c = λ level link es h.
    cut_here c.args.inner c.args.page.now level link es c.loop-at.at c.in_ok-after.after c.loop-at.count h (c.loop-at.invariant.counted level link es h)
    (let e = c.in_ok-end.ensures.end in omega arith) c.in_ok-after.ensures.after

pub returns-clause-halves : goal.returns-clause-halves
returns-clause-halves c =
    let e = c.in_ok-end.ensures.end in
    let n = c.loop-at.invariant.near in
    let l = c.loop-at-test.false in
    let a = c.in_ok-after.ensures.after in
    let s = c.in_ok-after.ensures.short in
    let t = width_few c.args.inner in
    (omega arith, omega arith, omega arith)

pub returns-in_err-at-clause-sound : goal.returns-in_err-at-clause-sound
returns-in_err-at-clause-sound c = λ level link es h w.
    let k = c.loop-at.invariant.counted level link es h in
    let o = next_of c.args.inner c.args.page.now level link k.done k.todo c.loop-at.at (subst (IsNode c.args.inner c.args.page.now level link) k.all h) k.place
    (let e = c.in_ok-end.ensures.end in let l = c.loop-at-test.true in omega arith) in
    absurd (false≢true (c.in_err-at.ensures.sound o.0 o.3 (c.in_ok-end.ensures.end.0)))

pub returns-in_err-after-clause-sound : goal.returns-in_err-after-clause-sound
returns-in_err-after-clause-sound c = λ level link es h w.
    let k = c.loop-at.invariant.counted level link es h in
    let n = c.loop-at.invariant.near in
    let m = crowded_more c.args.page.now w in
    let o = next_of c.args.inner c.args.page.now level link k.done k.todo c.loop-at.at (subst (IsNode c.args.inner c.args.page.now level link) k.all h) k.place
    (let e = c.in_ok-end.ensures.end in omega arith) in
    absurd (false≢true (c.in_err-after.ensures.sound o.0 o.3 (c.in_ok-end.ensures.end.0)))

pub returns-then-at-eq-HEAD-clause-sound : goal.returns-then-at-eq-HEAD-clause-sound
returns-then-at-eq-HEAD-clause-sound c = λ level link es h w.
    let e = c.in_ok-end.ensures.end in
    let n = c.loop-at.invariant.near in
    let l = c.loop-at-test.false in
    let m = crowded_more c.args.page.now w in
    absurd (elim c.then-at-eq-HEAD.either [ inl q ↦ omega arith | inr q ↦ omega arith ])

pub returns-then-after-end-clause-sound : goal.returns-then-after-end-clause-sound
returns-then-after-end-clause-sound c = λ level link es h w.
    let e = c.in_ok-end.ensures.end in
    let n = c.loop-at.invariant.near in
    let l = c.loop-at-test.false in
    let a = c.in_ok-after.ensures.after in
    let s = c.in_ok-after.ensures.short in
    let t = width_few c.args.inner in
    let m = crowded_more c.args.page.now w in
    let q = c.if-after-end.true in
    absurd (omega arith)
