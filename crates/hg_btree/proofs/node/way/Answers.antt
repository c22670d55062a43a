use Rattle.std.specs.Prelude.{ℕ, ◌+◌, true}
use Rattle.std.specs.Ordering.{is_gt}
use Rattle.std.proofs.Common.{sym, ◌∙◌, ap, arith}
use Rattle.std.proofs.lemmas.Bool.{false≢true}
use Rattle.hg_btree.specs.Entries.{Entry, NotBehind}
use Rattle.hg_btree.proofs.Orders.{gt_not_behind}
use Rattle.hg_btree.proofs.Finding.{passed_none, here, order_here, no_overrun, after_is, passed_more, way_before, way_last, gt_greater}
use Rattle.hg_btree.proofs.node.way.Goals as goal

pub returns-in_err-end-clause-sound : goal.returns-in_err-end-clause-sound
returns-in_err-end-clause-sound c = λ level link es h. absurd (false≢true (c.in_err-end.ensures.sound true level link es h))

pub loop-at-init : goal.loop-at-init
loop-at-init c = let e = c.in_ok-end.ensures.end in record {
  from = omega arith;
  to = omega arith;
  passed = λ level link es h. passed_none true es (λ e. NotBehind e (record { key = c.args.key.now; place = c.args.place; child = 0 }));
}

pub returns-then-after-end-clause-sound : goal.returns-then-after-end-clause-sound
returns-then-after-end-clause-sound c = λ level link es h.
    let e = c.in_ok-end.ensures.end in
    let l = c.loop-at-test.true in
    let o = no_overrun true c.args.page.now level link es _ c.loop-at.at h (c.loop-at.invariant.passed level link es h) (omega arith) in
    absurd (let n = c.number_at.ensures.value in let a = c.if-after-end.true in omega arith)

pub returns-then-is_behind-clause-leads : goal.returns-then-is_behind-clause-leads
returns-then-is_behind-clause-leads c = λ level link es h.
    let n = c.number_at.ensures.value in
    let t : Entry = record { key = c.args.key.now; place = c.args.place; child = 0 } in
    let p = c.loop-at.invariant.passed level link es h in
    let o = here true c.args.page.now level link es (λ e. NotBehind e t) c.loop-at.at h p (let e = c.in_ok-end.ensures.end in let l = c.loop-at-test.true in omega arith) in
    way_before c.args.page.now level link es t c.loop-at.at c.page_number_at.result h p o.x o.rest o.is
    (gt_greater true o.x t (ap is_gt (sym (order_here true c.args.page.now c.loop-at.at (c.loop-at.at + 10 + c.number_at.result) o.x t o.reading (omega arith)))
    ∙ sym c.is_behind.ensures ∙ c.if-is_behind.true))
    c.page_number_at.ensures

pub loop-at-preserved : goal.loop-at-preserved
loop-at-preserved c =
    let n = c.number_at.ensures.value in
    record {
      from = let i = c.loop-at.invariant.from in omega arith;
      to = let a = c.if-after-end.false in omega arith;
      passed = λ level link es h.
          let t : Entry = record { key = c.args.key.now; place = c.args.place; child = 0 } in
          let after : ℕ = c.loop-at.at + 10 + c.number_at.result + 4 in
          let p = c.loop-at.invariant.passed level link es h in
          let o = here true c.args.page.now level link es (λ e. NotBehind e t) c.loop-at.at h p (let e = c.in_ok-end.ensures.end in let l = c.loop-at-test.true in omega arith) in
          passed_more true es (λ e. NotBehind e t) c.loop-at.at after p o.x o.rest o.is
          (gt_not_behind o.x t (ap is_gt (sym (order_here true c.args.page.now c.loop-at.at (c.loop-at.at + 10 + c.number_at.result) o.x t o.reading (omega arith)))
          ∙ sym c.is_behind.ensures ∙ c.if-is_behind.false))
          (after_is true c.args.page.now c.loop-at.at after o.x o.reading (omega arith));
    }

pub returns-then-at-end-clause-sound : goal.returns-then-at-end-clause-sound
returns-then-at-end-clause-sound c = λ level link es h.
    let e = c.in_ok-end.ensures.end in
    let a = c.if-at-end.true in
    let o = no_overrun true c.args.page.now level link es _ c.loop-at.at h (c.loop-at.invariant.passed level link es h) (omega arith) in
    absurd (let l = c.loop-at-test.false in omega arith)

pub returns-clause-leads : goal.returns-clause-leads
returns-clause-leads c = λ level link es h.
    way_last c.args.page.now level link es (record { key = c.args.key.now; place = c.args.place; child = 0 }) c.loop-at.at c.page_number_at-2.result h
    (c.loop-at.invariant.passed level link es h)
    (let e = c.in_ok-end.ensures.end in let l = c.if-at-end.false in omega arith)
    c.page_number_at-2.ensures
