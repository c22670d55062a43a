use Rattle.std.proofs.Common.{arith}
use Rattle.hg_run.proofs.Pages.{there}
use Rattle.hg_run.proofs.page.record_end.Goals as goal
use Rattle.hg_run.proofs.page.record_end.Goals.{then-size-eq0-via-then-size-eq0, then-size-eq0-via-else-size-eq0+then-size-gt-MOST, then-size-eq0-via-else-size-eq0+else-size-gt-MOST+then-after-end}

pub returns-then-at-end-clause-wrong : goal.returns-then-at-end-clause-wrong
returns-then-at-end-clause-wrong c = (
  c.requires.kind,
  λ done todo h.
      let e = c.requires.free in
      let m = c.requires.more in
      let t = there c.args.page.now c.args.at done todo h (omega arith) in
      let i = t.inside in
      let l = c.if-at-end.true in
      omega arith,
)

pub returns-then-size-eq0-clause-wrong : goal.returns-then-size-eq0-clause-wrong
returns-then-size-eq0-clause-wrong c = (
  c.requires.kind,
  λ done todo h.
      let e = c.requires.free in
      let m = c.requires.more in
      let t = there c.args.page.now c.args.at done todo h (omega arith) in
      let i = t.inside in
      let s = t.size in
      let v = c.number_at-size.ensures.value in
      let p = t.proper.some in
      let q = t.proper.few in
      elim c.then-size-eq0.branch [
        | then-size-eq0-via-then-size-eq0 w ↦ (let z = w.if-size-eq0.true in omega arith)
        | then-size-eq0-via-else-size-eq0+then-size-gt-MOST w ↦ (let z = w.if-size-gt-MOST.true in omega arith)
        | then-size-eq0-via-else-size-eq0+else-size-gt-MOST+then-after-end w ↦ (let z = w.if-after-end.true in omega arith)
      ],
)
