use Rattle.std.specs.Prelude.{None, length}
use Rattle.std.proofs.Common.{sym, ◌∙◌, arith}
use Rattle.hg_base.specs.SteadyLaws.{HasCause_behind}
use Rattle.hg_btree.specs.Growing.{most_pages}
use Rattle.hg_btree.proofs.Seeking.{damage_cause}
use Rattle.hg_btree.proofs.Grown.{line_then}
use Rattle.hg_btree.proofs.Descending.{now_of_step}
use Rattle.hg_btree.proofs.insert.way_down.Goals as goal

pub loop-step-init : goal.loop-step-init
loop-step-init g c = record { line = c.in_ok-step.ensures.line; cause = c.in_ok-step.ensures.cause; step = c.in_ok-step.ensures.step }

pub next_step-requires-clause-no_pins : goal.next_step-requires-clause-no_pins
next_step-requires-clause-no_pins g c = (c.loop-step.invariant.line c.requires.line.0 c.requires.line.1).steady.pins_after

pub next_step-requires-clause-line : goal.next_step-requires-clause-line
next_step-requires-clause-line g c = let l = c.loop-step.invariant.line c.requires.line.0 c.requires.line.1 in (l.now, l.line)

pub next_step-requires-clause-there : goal.next_step-requires-clause-there
next_step-requires-clause-there g c = λ told.
    let l = c.loop-step.invariant.line c.requires.line.0 c.requires.line.1 in
    let h = c.requires.there (sym l.steady.told ∙ told) in
    (h.es, most_pages c.args.tree.file (g.S.Pages.state c.args.space.now) c.args.tree.top h.tree.levels (length h.pages) (record { key = c.args.key.now; place = c.args.place; child = 0 }), h.leaves, c.loop-step.invariant.step h.es h.pages h.leaves h.tree)

pub returns-in-Err-clause-err : goal.returns-in-Err-clause-err
returns-in-Err-clause-err g c = λ es pages leaves h. c.in-Err.ensures.err es _ leaves (c.loop-step.invariant.step es pages leaves h)

pub returns-in-Err-clause-line : goal.returns-in-Err-clause-line
returns-in-Err-clause-line g c = λ pages l.
    let p = c.loop-step.invariant.line pages l in
    line_then c.args.tree.file (g.S.Pages.state c.args.space.now) (g.S.Pages.state c.loop-step.space) (g.S.Pages.state c.next_step.new.space) c.args.tree.top pages p (c.in-Err.ensures.line p.now p.line)

pub returns-in-Err-clause-cause : goal.returns-in-Err-clause-cause
returns-in-Err-clause-cause g c =
    let l = c.loop-step.invariant.line c.requires.line.0 c.requires.line.1 in
    HasCause_behind (g.S.Pages.state c.args.space.now) (g.S.Pages.state c.loop-step.space) (g.S.Pages.state c.next_step.new.space) _ l.steady.told c.loop-step.invariant.cause c.in-Err.ensures.cause

pub returns-then-next-step-clause-err : goal.returns-then-next-step-clause-err
returns-then-next-step-clause-err g c = λ es pages leaves h. now_of_step c.args.tree.file (g.S.Pages.state c.next_step.new.space) c.args.tree.top (record { key = c.args.key.now; place = c.args.place; child = 0 }) es _ leaves _ _ _ (c.in-Ok.ensures.step es _ leaves (c.loop-step.invariant.step es pages leaves h))

pub returns-then-next-step-clause-line : goal.returns-then-next-step-clause-line
returns-then-next-step-clause-line g c = λ pages l.
    let p = c.loop-step.invariant.line pages l in
    line_then c.args.tree.file (g.S.Pages.state c.args.space.now) (g.S.Pages.state c.loop-step.space) (g.S.Pages.state c.next_step.new.space) c.args.tree.top pages p (c.in-Ok.ensures.line p.now p.line)

pub returns-then-next-step-clause-cause : goal.returns-then-next-step-clause-cause
returns-then-next-step-clause-cause g c =
    let l = c.loop-step.invariant.line c.requires.line.0 c.requires.line.1 in
    damage_cause (g.S.Pages.state c.args.space.now) (g.S.Pages.state c.next_step.new.space) _ _ (HasCause_behind (g.S.Pages.state c.args.space.now) (g.S.Pages.state c.loop-step.space) (g.S.Pages.state c.next_step.new.space) None l.steady.told c.loop-step.invariant.cause c.in-Ok.ensures.cause) (λ told.
    let h = c.requires.there told in
    let z = c.in-Ok.ensures.below h.es _ h.leaves (c.loop-step.invariant.step h.es h.pages h.leaves h.tree) in
    let q = c.if-next-step.true in
    absurd (omega arith))

pub loop-step-preserved : goal.loop-step-preserved
loop-step-preserved g c =
    let l = c.loop-step.invariant.line c.requires.line.0 c.requires.line.1 in
    record {
      line = λ pages k. let p = c.loop-step.invariant.line pages k in line_then c.args.tree.file (g.S.Pages.state c.args.space.now) (g.S.Pages.state c.loop-step.space) (g.S.Pages.state c.next_step.new.space) c.args.tree.top pages p (c.in-Ok.ensures.line p.now p.line);
      cause = HasCause_behind (g.S.Pages.state c.args.space.now) (g.S.Pages.state c.loop-step.space) (g.S.Pages.state c.next_step.new.space) None l.steady.told c.loop-step.invariant.cause c.in-Ok.ensures.cause;
      step = λ es pages leaves h. c.in-Ok.ensures.step es _ leaves (c.loop-step.invariant.step es pages leaves h);
    }
