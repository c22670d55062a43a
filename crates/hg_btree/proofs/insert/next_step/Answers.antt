use Rattle.std.specs.Prelude.{◌-◌, None}
use Rattle.std.proofs.Common.{sym, ◌∙◌, refl, arith}
use Rattle.hg_base.specs.SteadyLaws.{HasCause_behind}
use Rattle.hg_btree.proofs.Seeking.{looks_then}
use Rattle.hg_btree.proofs.Grown.{line_looked, line_stays_looked, line_then, line_then_looked}
use Rattle.hg_btree.proofs.Descending.{on_err, at_one, now_at, now_split, on_there, step_further, step_after, above_crowded, not_was, was_so}
use Rattle.hg_btree.proofs.insert.next_step.Goals as goal

pub look_here-requires-clause-there : goal.look_here-requires-clause-there
look_here-requires-clause-there g c = λ told.
    let w = c.requires.there told in
    let z = c.requires.above in
    let s = at_one c.args.tree.file (g.S.Pages.state c.args.space.now) c.args.tree.top (record { key = c.args.key.now; place = c.args.place; child = 0 }) w.0 w.1 w.2 c.args.from.found.level c.args.from.node c.args.from.found.child w.3 z in
    (w.0, s.on.pages, w.2, c.args.from.found.level - 1, s.on.tree, s.next (c.args.from.found.level - 1) refl)

pub returns-in_err-found-clause-err : goal.returns-in_err-found-clause-err
returns-in_err-found-clause-err g c = on_err c.from_residual.result _ (λ es most leaves s.
    now_at c.args.tree.file (g.S.Pages.state c.args.space.now) (g.S.Pages.state c.look_here.new.space) c.args.tree.top (record { key = c.args.key.now; place = c.args.place; child = 0 }) es most leaves c.args.from.found.level c.args.from.node c.in_err-found.ensures.looks s.on)

pub returns-in_err-found-clause-line : goal.returns-in_err-found-clause-line
returns-in_err-found-clause-line g c = λ pages l. line_looked c.args.tree.file (g.S.Pages.state c.args.space.now) (g.S.Pages.state c.look_here.new.space) c.args.tree.top pages c.in_err-found.ensures.looks l

pub returns-then-not-found-clause-step : goal.returns-then-not-found-clause-step
returns-then-not-found-clause-step g c = λ es most leaves w.
    let z = c.requires.above in
    let s = at_one c.args.tree.file (g.S.Pages.state c.args.space.now) c.args.tree.top (record { key = c.args.key.now; place = c.args.place; child = 0 }) es most leaves c.args.from.found.level c.args.from.node c.args.from.found.child w z in
    step_further c.args.tree.file (g.S.Pages.state c.args.space.now) (g.S.Pages.state c.look_here.new.space) c.args.tree.top (record { key = c.args.key.now; place = c.args.place; child = 0 }) es most leaves (c.args.from.found.level - 1) c.in_ok-found.found.level c.args.from.node c.args.from.found.child c.in_ok-found.found.child c.in_ok-found.found.crowded c.requires.no_pins c.in_ok-found.ensures.looks s (omega arith)
    (c.in_ok-found.ensures.found es s.on.pages leaves (c.args.from.found.level - 1) s.on.tree (s.next (c.args.from.found.level - 1) refl)) (not_was c.in_ok-found.found.crowded c.if-not-found.true)

pub returns-then-not-found-clause-below : goal.returns-then-not-found-clause-below
returns-then-not-found-clause-below g c = λ es most leaves w.
    let z = c.requires.above in
    let s = at_one c.args.tree.file (g.S.Pages.state c.args.space.now) c.args.tree.top (record { key = c.args.key.now; place = c.args.place; child = 0 }) es most leaves c.args.from.found.level c.args.from.node c.args.from.found.child w z in
    let f = c.in_ok-found.ensures.found es s.on.pages leaves (c.args.from.found.level - 1) s.on.tree (s.next (c.args.from.found.level - 1) refl) in
    let e = f.level_is in
    omega arith

pub returns-then-not-found-clause-line : goal.returns-then-not-found-clause-line
returns-then-not-found-clause-line g c = λ pages l. line_looked c.args.tree.file (g.S.Pages.state c.args.space.now) (g.S.Pages.state c.look_here.new.space) c.args.tree.top pages c.in_ok-found.ensures.looks l

pub split_child-requires-clause-line : goal.split_child-requires-clause-line
split_child-requires-clause-line g c = (c.requires.line.0, line_stays_looked c.args.tree.file (g.S.Pages.state c.args.space.now) (g.S.Pages.state c.look_here.new.space) c.args.tree.top c.requires.line.0 c.in_ok-found.ensures.looks c.requires.line.1)

pub split_child-requires-clause-there : goal.split_child-requires-clause-there
split_child-requires-clause-there g c = λ told.
    let w = c.requires.there (sym c.in_ok-found.ensures.looks.steady.told ∙ told) in
    let z = c.requires.above in
    let s = at_one c.args.tree.file (g.S.Pages.state c.args.space.now) c.args.tree.top (record { key = c.args.key.now; place = c.args.place; child = 0 }) w.0 w.1 w.2 c.args.from.found.level c.args.from.node c.args.from.found.child w.3 z in (
      w.0,
      w.1,
      w.2,
      c.args.from.found.level - 1,
      above_crowded c.args.tree.file (g.S.Pages.state c.args.space.now) (g.S.Pages.state c.look_here.new.space) c.args.tree.top (record { key = c.args.key.now; place = c.args.place; child = 0 }) w.0 w.1 w.2 (c.args.from.found.level - 1) c.in_ok-found.found.level c.args.from.node c.args.from.found.child c.in_ok-found.found.child c.in_ok-found.found.crowded c.requires.no_pins c.in_ok-found.ensures.looks s
          (c.in_ok-found.ensures.found w.0 s.on.pages w.2 (c.args.from.found.level - 1) s.on.tree (s.next (c.args.from.found.level - 1) refl)) (was_so c.in_ok-found.found.crowded c.if-not-found.false),
    )

pub returns-in_err-half-clause-err : goal.returns-in_err-half-clause-err
returns-in_err-half-clause-err g c = on_err c.from_residual-in_err-half.result _ (λ es most leaves s.
    now_at c.args.tree.file (g.S.Pages.state c.args.space.now) (g.S.Pages.state c.split_child.new.space) c.args.tree.top (record { key = c.args.key.now; place = c.args.place; child = 0 }) es most leaves c.args.from.found.level c.args.from.node (looks_then (g.S.Pages.state c.args.space.now) (g.S.Pages.state c.look_here.new.space) (g.S.Pages.state c.split_child.new.space) c.in_ok-found.ensures.looks c.in_err-half.ensures.err) s.on)

pub returns-in_err-half-clause-line : goal.returns-in_err-half-clause-line
returns-in_err-half-clause-line g c = λ pages l. line_looked c.args.tree.file (g.S.Pages.state c.args.space.now) (g.S.Pages.state c.split_child.new.space) c.args.tree.top pages (looks_then (g.S.Pages.state c.args.space.now) (g.S.Pages.state c.look_here.new.space) (g.S.Pages.state c.split_child.new.space) c.in_ok-found.ensures.looks c.in_err-half.ensures.err) l

pub look_here-requires-2-clause-no_pins : goal.look_here-requires-2-clause-no_pins
look_here-requires-2-clause-no_pins g c =
    (c.in_ok-half.ensures.line c.requires.line.0 (line_stays_looked c.args.tree.file (g.S.Pages.state c.args.space.now) (g.S.Pages.state c.look_here.new.space) c.args.tree.top c.requires.line.0 c.in_ok-found.ensures.looks c.requires.line.1)).steady.pins_after

pub look_here-requires-2-clause-there : goal.look_here-requires-2-clause-there
look_here-requires-2-clause-there g c = λ told.
    let sd = (c.in_ok-half.ensures.line c.requires.line.0 (line_stays_looked c.args.tree.file (g.S.Pages.state c.args.space.now) (g.S.Pages.state c.look_here.new.space) c.args.tree.top c.requires.line.0 c.in_ok-found.ensures.looks c.requires.line.1)).steady in
    let w = c.requires.there (sym (sd.told ∙ c.in_ok-found.ensures.looks.steady.told) ∙ told) in
    let z = c.requires.above in
    let s = at_one c.args.tree.file (g.S.Pages.state c.args.space.now) c.args.tree.top (record { key = c.args.key.now; place = c.args.place; child = 0 }) w.0 w.1 w.2 c.args.from.found.level c.args.from.node c.args.from.found.child w.3 z in
    let o = (c.in_ok-half.ensures.split w.0 w.1 w.2 (c.args.from.found.level - 1) (above_crowded c.args.tree.file (g.S.Pages.state c.args.space.now) (g.S.Pages.state c.look_here.new.space) c.args.tree.top (record { key = c.args.key.now; place = c.args.place; child = 0 }) w.0 w.1 w.2 (c.args.from.found.level - 1) c.in_ok-found.found.level c.args.from.node c.args.from.found.child c.in_ok-found.found.child c.in_ok-found.found.crowded c.requires.no_pins c.in_ok-found.ensures.looks s
    (c.in_ok-found.ensures.found w.0 s.on.pages w.2 (c.args.from.found.level - 1) s.on.tree (s.next (c.args.from.found.level - 1) refl)) (was_so c.in_ok-found.found.crowded c.if-not-found.false))).0 in
    on_there c.args.tree.file (g.S.Pages.state c.split_child.new.space) c.args.tree.top (record { key = c.args.key.now; place = c.args.place; child = 0 }) w.0 _ _ _ c.in_ok-half.half o

pub returns-in-Err-clause-err : goal.returns-in-Err-clause-err
returns-in-Err-clause-err g c = (λ es most leaves w.
    let z = c.requires.above in
    let s = at_one c.args.tree.file (g.S.Pages.state c.args.space.now) c.args.tree.top (record { key = c.args.key.now; place = c.args.place; child = 0 }) es most leaves c.args.from.found.level c.args.from.node c.args.from.found.child w z in
    let o = (c.in_ok-half.ensures.split es most leaves (c.args.from.found.level - 1) (above_crowded c.args.tree.file (g.S.Pages.state c.args.space.now) (g.S.Pages.state c.look_here.new.space) c.args.tree.top (record { key = c.args.key.now; place = c.args.place; child = 0 }) es most leaves (c.args.from.found.level - 1) c.in_ok-found.found.level c.args.from.node c.args.from.found.child c.in_ok-found.found.child c.in_ok-found.found.crowded c.requires.no_pins c.in_ok-found.ensures.looks s
    (c.in_ok-found.ensures.found es s.on.pages leaves (c.args.from.found.level - 1) s.on.tree (s.next (c.args.from.found.level - 1) refl)) (was_so c.in_ok-found.found.crowded c.if-not-found.false))).0 in
    now_split c.args.tree.file (g.S.Pages.state c.split_child.new.space) (g.S.Pages.state c.look_here-2.new.space) c.args.tree.top (record { key = c.args.key.now; place = c.args.place; child = 0 }) es most leaves _ c.in_ok-half.half _ c.in-Err.ensures.looks o)

pub returns-in-Err-clause-line : goal.returns-in-Err-clause-line
returns-in-Err-clause-line g c = λ pages l.
    let p = line_then_looked c.args.tree.file (g.S.Pages.state c.args.space.now) (g.S.Pages.state c.look_here.new.space) (g.S.Pages.state c.split_child.new.space) c.args.tree.top pages c.in_ok-found.ensures.looks l (c.in_ok-half.ensures.line pages (line_stays_looked c.args.tree.file (g.S.Pages.state c.args.space.now) (g.S.Pages.state c.look_here.new.space) c.args.tree.top pages c.in_ok-found.ensures.looks l)) in
    line_then c.args.tree.file (g.S.Pages.state c.args.space.now) (g.S.Pages.state c.split_child.new.space) (g.S.Pages.state c.look_here-2.new.space) c.args.tree.top pages p (line_looked c.args.tree.file (g.S.Pages.state c.split_child.new.space) (g.S.Pages.state c.look_here-2.new.space) c.args.tree.top p.now c.in-Err.ensures.looks p.line)

pub returns-in-Err-clause-cause : goal.returns-in-Err-clause-cause
returns-in-Err-clause-cause g c =
    let sd = (c.in_ok-half.ensures.line c.requires.line.0 (line_stays_looked c.args.tree.file (g.S.Pages.state c.args.space.now) (g.S.Pages.state c.look_here.new.space) c.args.tree.top c.requires.line.0 c.in_ok-found.ensures.looks c.requires.line.1)).steady in
    (HasCause_behind (g.S.Pages.state c.args.space.now) (g.S.Pages.state c.split_child.new.space) (g.S.Pages.state c.look_here-2.new.space) _ (sd.told ∙ c.in_ok-found.ensures.looks.steady.told)
    (HasCause_behind (g.S.Pages.state c.args.space.now) (g.S.Pages.state c.look_here.new.space) (g.S.Pages.state c.split_child.new.space) None c.in_ok-found.ensures.looks.steady.told c.in_ok-found.ensures.cause c.in_ok-half.ensures.cause) (c.in-Err.ensures.cause))

pub returns-in-Ok-clause-step : goal.returns-in-Ok-clause-step
returns-in-Ok-clause-step g c = λ es most leaves w.
    let z = c.requires.above in
    let s = at_one c.args.tree.file (g.S.Pages.state c.args.space.now) c.args.tree.top (record { key = c.args.key.now; place = c.args.place; child = 0 }) es most leaves c.args.from.found.level c.args.from.node c.args.from.found.child w z in
    let o = c.in_ok-half.ensures.split es most leaves (c.args.from.found.level - 1) (above_crowded c.args.tree.file (g.S.Pages.state c.args.space.now) (g.S.Pages.state c.look_here.new.space) c.args.tree.top (record { key = c.args.key.now; place = c.args.place; child = 0 }) es most leaves (c.args.from.found.level - 1) c.in_ok-found.found.level c.args.from.node c.args.from.found.child c.in_ok-found.found.child c.in_ok-found.found.crowded c.requires.no_pins c.in_ok-found.ensures.looks s
    (c.in_ok-found.ensures.found es s.on.pages leaves (c.args.from.found.level - 1) s.on.tree (s.next (c.args.from.found.level - 1) refl)) (was_so c.in_ok-found.found.crowded c.if-not-found.false)) in
    step_after c.args.tree.file (g.S.Pages.state c.split_child.new.space) (g.S.Pages.state c.look_here-2.new.space) c.args.tree.top (record { key = c.args.key.now; place = c.args.place; child = 0 }) es most leaves (c.args.from.found.level - 1) c.in-Ok.found.level c.in_ok-half.half c.in-Ok.found.child c.in-Ok.found.crowded c.in-Ok.ensures.looks o.0 o.1 (omega arith)
    (c.in-Ok.ensures.found es o.0.pages _ _ o.0.tree o.0.way)

pub returns-in-Ok-clause-below : goal.returns-in-Ok-clause-below
returns-in-Ok-clause-below g c = λ es most leaves w.
    let z = c.requires.above in
    let s = at_one c.args.tree.file (g.S.Pages.state c.args.space.now) c.args.tree.top (record { key = c.args.key.now; place = c.args.place; child = 0 }) es most leaves c.args.from.found.level c.args.from.node c.args.from.found.child w z in
    let o = c.in_ok-half.ensures.split es most leaves (c.args.from.found.level - 1) (above_crowded c.args.tree.file (g.S.Pages.state c.args.space.now) (g.S.Pages.state c.look_here.new.space) c.args.tree.top (record { key = c.args.key.now; place = c.args.place; child = 0 }) es most leaves (c.args.from.found.level - 1) c.in_ok-found.found.level c.args.from.node c.args.from.found.child c.in_ok-found.found.child c.in_ok-found.found.crowded c.requires.no_pins c.in_ok-found.ensures.looks s
    (c.in_ok-found.ensures.found es s.on.pages leaves (c.args.from.found.level - 1) s.on.tree (s.next (c.args.from.found.level - 1) refl)) (was_so c.in_ok-found.found.crowded c.if-not-found.false)) in
    let f = c.in-Ok.ensures.found es o.0.pages _ _ o.0.tree o.0.way in
    let e = f.level_is in
    omega arith

pub returns-in-Ok-clause-line : goal.returns-in-Ok-clause-line
returns-in-Ok-clause-line g c = λ pages l.
    let p = line_then_looked c.args.tree.file (g.S.Pages.state c.args.space.now) (g.S.Pages.state c.look_here.new.space) (g.S.Pages.state c.split_child.new.space) c.args.tree.top pages c.in_ok-found.ensures.looks l (c.in_ok-half.ensures.line pages (line_stays_looked c.args.tree.file (g.S.Pages.state c.args.space.now) (g.S.Pages.state c.look_here.new.space) c.args.tree.top pages c.in_ok-found.ensures.looks l)) in
    line_then c.args.tree.file (g.S.Pages.state c.args.space.now) (g.S.Pages.state c.split_child.new.space) (g.S.Pages.state c.look_here-2.new.space) c.args.tree.top pages p (line_looked c.args.tree.file (g.S.Pages.state c.split_child.new.space) (g.S.Pages.state c.look_here-2.new.space) c.args.tree.top p.now c.in-Ok.ensures.looks p.line)
