use Rattle.std.specs.Prelude.{ℕ, ◌+◌}
use Rattle.std.proofs.Common.{sym, ◌∙◌, arith}
use Rattle.hg_btree.specs.Entries.{Entry, Before}
use Rattle.hg_btree.proofs.Orders.{less_before, greater_before, equal_same}
use Rattle.hg_btree.proofs.Finding.{passed_none, here, order_here, no_overrun, after_is, passed_more, spot_last, spot_there, spot_before}
use Rattle.hg_btree.proofs.node.find.Goals as goal

pub loop-at-init : goal.loop-at-init
loop-at-init c = let e = c.in_ok-end.ensures.end in record {
  from = omega arith;
  to = omega arith;
  passed = λ level link es h. passed_none c.args.inner es (λ e. Before e (record { key = c.args.key.now; place = c.args.place; child = 0 }));
}

pub returns-then-after-end-clause-sound : goal.returns-then-after-end-clause-sound
returns-then-after-end-clause-sound c = λ level link es h.
    let e = c.in_ok-end.ensures.end in
    let l = c.loop-at-test.true in
    let o = no_overrun c.args.inner c.args.page.now level link es _ c.loop-at.at h (c.loop-at.invariant.passed level link es h) (omega arith) in
    absurd (let n = c.number_at.ensures.value in let t = c.tail.ensures in let a = c.if-after-end.true in omega arith)

pub loop-at-preserved : goal.loop-at-preserved
loop-at-preserved c =
    let n = c.number_at.ensures.value in
    let w = c.tail.ensures in
    record {
      from = let i = c.loop-at.invariant.from in omega arith;
      to = let a = c.if-after-end.false in omega arith;
      passed = λ level link es h.
          let t : Entry = record { key = c.args.key.now; place = c.args.place; child = 0 } in
          let after : ℕ = c.loop-at.at + 10 + c.number_at.result + c.tail.result in
          let p = c.loop-at.invariant.passed level link es h in
          let o = here c.args.inner c.args.page.now level link es (λ e. Before e t) c.loop-at.at h p (let e = c.in_ok-end.ensures.end in let l = c.loop-at-test.true in omega arith) in
          passed_more c.args.inner es (λ e. Before e t) c.loop-at.at after p o.x o.rest o.is
          (less_before o.x t (sym (order_here c.args.inner c.args.page.now c.loop-at.at (c.loop-at.at + 10 + c.number_at.result) o.x t o.reading (omega arith)) ∙ sym c.in-Less.ensures))
          (after_is c.args.inner c.args.page.now c.loop-at.at after o.x o.reading (omega arith));
    }

pub returns-in-Equal-clause-spot : goal.returns-in-Equal-clause-spot
returns-in-Equal-clause-spot c = λ level link es h.
    let n = c.number_at.ensures.value in
    let w = c.tail.ensures in
    let t : Entry = record { key = c.args.key.now; place = c.args.place; child = 0 } in
    let after : ℕ = c.loop-at.at + 10 + c.number_at.result + c.tail.result in
    let p = c.loop-at.invariant.passed level link es h in
    let o = here c.args.inner c.args.page.now level link es (λ e. Before e t) c.loop-at.at h p (let e = c.in_ok-end.ensures.end in let l = c.loop-at-test.true in omega arith) in
    spot_there c.args.inner es t c.loop-at.at after p o.x o.rest o.is
    (equal_same o.x t (sym (order_here c.args.inner c.args.page.now c.loop-at.at (c.loop-at.at + 10 + c.number_at.result) o.x t o.reading (omega arith)) ∙ sym c.in-Equal.ensures))
    (after_is c.args.inner c.args.page.now c.loop-at.at after o.x o.reading (omega arith))

pub returns-in-Greater-clause-spot : goal.returns-in-Greater-clause-spot
returns-in-Greater-clause-spot c = λ level link es h.
    let n = c.number_at.ensures.value in
    let t : Entry = record { key = c.args.key.now; place = c.args.place; child = 0 } in
    let p = c.loop-at.invariant.passed level link es h in
    let o = here c.args.inner c.args.page.now level link es (λ e. Before e t) c.loop-at.at h p (let e = c.in_ok-end.ensures.end in let l = c.loop-at-test.true in omega arith) in
    spot_before c.args.inner es t c.loop-at.at p o.x o.rest o.is
    (greater_before o.x t (sym (order_here c.args.inner c.args.page.now c.loop-at.at (c.loop-at.at + 10 + c.number_at.result) o.x t o.reading (omega arith)) ∙ sym c.in-Greater.ensures))

pub returns-then-at-end-clause-sound : goal.returns-then-at-end-clause-sound
returns-then-at-end-clause-sound c = λ level link es h.
    let e = c.in_ok-end.ensures.end in
    let a = c.if-at-end.true in
    let o = no_overrun c.args.inner c.args.page.now level link es _ c.loop-at.at h (c.loop-at.invariant.passed level link es h) (omega arith) in
    absurd (let l = c.loop-at-test.false in omega arith)

pub returns-clause-spot : goal.returns-clause-spot
returns-clause-spot c = λ level link es h.
    spot_last c.args.inner c.args.page.now level link es (record { key = c.args.key.now; place = c.args.place; child = 0 }) c.loop-at.at h
    (c.loop-at.invariant.passed level link es h)
    (let e = c.in_ok-end.ensures.end in let l = c.if-at-end.false in omega arith)
