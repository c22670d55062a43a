use Rattle.std.specs.Prelude.{None, length}
use Rattle.std.proofs.Common.{sym, ◌∙◌, arith}
use Rattle.hg_base.specs.SteadyLaws.{HasCause_behind}
use Rattle.hg_btree.proofs.Seeking.{looks_then}
use Rattle.hg_btree.proofs.Grown.{line_looked, line_stays_looked, line_then, line_then_looked}
use Rattle.hg_btree.proofs.Descending.{on_err, first_there, first_most, way_top, now_looked, now_split, on_there, step_first, step_after}
use Rattle.hg_btree.proofs.insert.first_step.Goals as goal

pub look_here-requires-clause-there : goal.look_here-requires-clause-there
look_here-requires-clause-there g c = λ told. first_there c.args.tree.file (g.S.Pages.state c.args.space.now) c.args.tree.top (record { key = c.args.key.now; place = c.args.place; child = 0 }) (c.requires.there told)

pub returns-in_err-found-clause-err : goal.returns-in_err-found-clause-err
returns-in_err-found-clause-err g c = on_err c.from_residual.result _ (λ es pages leaves h.
    now_looked c.args.tree.file (g.S.Pages.state c.args.space.now) (g.S.Pages.state c.look_here.new.space) c.args.tree.top es pages _ leaves leaves c.in_err-found.ensures.looks h (omega arith) (omega arith) (omega arith))

pub returns-in_err-found-clause-line : goal.returns-in_err-found-clause-line
returns-in_err-found-clause-line g c = λ pages l. line_looked c.args.tree.file (g.S.Pages.state c.args.space.now) (g.S.Pages.state c.look_here.new.space) c.args.tree.top pages c.in_err-found.ensures.looks l

pub returns-then-may_stay-clause-step : goal.returns-then-may_stay-clause-step
returns-then-may_stay-clause-step g c = λ es pages leaves h.
    step_first c.args.tree.file (g.S.Pages.state c.args.space.now) (g.S.Pages.state c.look_here.new.space) c.args.tree.top (record { key = c.args.key.now; place = c.args.place; child = 0 }) es pages leaves c.in_ok-found.found.level c.in_ok-found.found.child c.in_ok-found.found.crowded c.requires.no_pins c.in_ok-found.ensures.looks h
    (c.in_ok-found.ensures.found es pages leaves (length h.levels) h (way_top c.args.tree.top h.levels (record { key = c.args.key.now; place = c.args.place; child = 0 })).0) (c.may_stay.ensures.stays c.if-may_stay.true)

pub returns-then-may_stay-clause-line : goal.returns-then-may_stay-clause-line
returns-then-may_stay-clause-line g c = λ pages l. line_looked c.args.tree.file (g.S.Pages.state c.args.space.now) (g.S.Pages.state c.look_here.new.space) c.args.tree.top pages c.in_ok-found.ensures.looks l

pub split_top-requires-clause-line : goal.split_top-requires-clause-line
split_top-requires-clause-line g c = (c.requires.line.0, line_stays_looked c.args.tree.file (g.S.Pages.state c.args.space.now) (g.S.Pages.state c.look_here.new.space) c.args.tree.top c.requires.line.0 c.in_ok-found.ensures.looks c.requires.line.1)

pub split_top-requires-clause-there : goal.split_top-requires-clause-there
split_top-requires-clause-there g c = λ told.
    let h = c.requires.there (sym c.in_ok-found.ensures.looks.steady.told ∙ told) in (
      h.es,
      h.pages,
      h.leaves,
      (first_most c.args.tree.file (g.S.Pages.state c.args.space.now) (g.S.Pages.state c.look_here.new.space) c.args.tree.top (record { key = c.args.key.now; place = c.args.place; child = 0 }) h.es h.pages h.leaves c.in_ok-found.found.level c.in_ok-found.found.child c.in_ok-found.found.crowded c.requires.no_pins c.in_ok-found.ensures.looks h.tree
          (c.in_ok-found.ensures.found h.es h.pages h.leaves (length h.tree.levels) h.tree (way_top c.args.tree.top h.tree.levels (record { key = c.args.key.now; place = c.args.place; child = 0 })).0) ((c.may_stay.ensures.splits c.if-may_stay.false).1)).0,
    )

pub returns-in_err-half-clause-err : goal.returns-in_err-half-clause-err
returns-in_err-half-clause-err g c = on_err c.from_residual-in_err-half.result _ (λ es pages leaves h.
    now_looked c.args.tree.file (g.S.Pages.state c.args.space.now) (g.S.Pages.state c.split_top.new.space) c.args.tree.top es pages _ leaves leaves (looks_then (g.S.Pages.state c.args.space.now) (g.S.Pages.state c.look_here.new.space) (g.S.Pages.state c.split_top.new.space) c.in_ok-found.ensures.looks c.in_err-half.ensures.err) h (omega arith) (omega arith) (omega arith))

pub returns-in_err-half-clause-line : goal.returns-in_err-half-clause-line
returns-in_err-half-clause-line g c = λ pages l. line_looked c.args.tree.file (g.S.Pages.state c.args.space.now) (g.S.Pages.state c.split_top.new.space) c.args.tree.top pages (looks_then (g.S.Pages.state c.args.space.now) (g.S.Pages.state c.look_here.new.space) (g.S.Pages.state c.split_top.new.space) c.in_ok-found.ensures.looks c.in_err-half.ensures.err) l

pub look_here-requires-2-clause-no_pins : goal.look_here-requires-2-clause-no_pins
look_here-requires-2-clause-no_pins g c =
    (c.in_ok-half.ensures.line c.requires.line.0 (line_stays_looked c.args.tree.file (g.S.Pages.state c.args.space.now) (g.S.Pages.state c.look_here.new.space) c.args.tree.top c.requires.line.0 c.in_ok-found.ensures.looks c.requires.line.1)).steady.pins_after

pub look_here-requires-2-clause-there : goal.look_here-requires-2-clause-there
look_here-requires-2-clause-there g c = λ told.
    let sd = (c.in_ok-half.ensures.line c.requires.line.0 (line_stays_looked c.args.tree.file (g.S.Pages.state c.args.space.now) (g.S.Pages.state c.look_here.new.space) c.args.tree.top c.requires.line.0 c.in_ok-found.ensures.looks c.requires.line.1)).steady in
    let h = c.requires.there (sym (sd.told ∙ c.in_ok-found.ensures.looks.steady.told) ∙ told) in
    let m = first_most c.args.tree.file (g.S.Pages.state c.args.space.now) (g.S.Pages.state c.look_here.new.space) c.args.tree.top (record { key = c.args.key.now; place = c.args.place; child = 0 }) h.es h.pages h.leaves c.in_ok-found.found.level c.in_ok-found.found.child c.in_ok-found.found.crowded c.requires.no_pins c.in_ok-found.ensures.looks h.tree
    (c.in_ok-found.ensures.found h.es h.pages h.leaves (length h.tree.levels) h.tree (way_top c.args.tree.top h.tree.levels (record { key = c.args.key.now; place = c.args.place; child = 0 })).0) ((c.may_stay.ensures.splits c.if-may_stay.false).1) in
    let o = (c.in_ok-half.ensures.split h.es h.pages h.leaves _ m.0 m.1).0 in
    on_there c.args.tree.file (g.S.Pages.state c.split_top.new.space) c.args.tree.top (record { key = c.args.key.now; place = c.args.place; child = 0 }) h.es _ _ _ c.in_ok-half.half o

pub returns-in-Err-clause-err : goal.returns-in-Err-clause-err
returns-in-Err-clause-err g c = (λ es pages leaves h.
    let m = first_most c.args.tree.file (g.S.Pages.state c.args.space.now) (g.S.Pages.state c.look_here.new.space) c.args.tree.top (record { key = c.args.key.now; place = c.args.place; child = 0 }) es pages leaves c.in_ok-found.found.level c.in_ok-found.found.child c.in_ok-found.found.crowded c.requires.no_pins c.in_ok-found.ensures.looks h
    (c.in_ok-found.ensures.found es pages leaves (length h.levels) h (way_top c.args.tree.top h.levels (record { key = c.args.key.now; place = c.args.place; child = 0 })).0) ((c.may_stay.ensures.splits c.if-may_stay.false).1) in
    let o = (c.in_ok-half.ensures.split es pages leaves _ m.0 m.1).0 in
    now_split c.args.tree.file (g.S.Pages.state c.split_top.new.space) (g.S.Pages.state c.look_here-2.new.space) c.args.tree.top (record { key = c.args.key.now; place = c.args.place; child = 0 }) es _ leaves _ c.in_ok-half.half _ c.in-Err.ensures.looks o)

pub returns-in-Err-clause-line : goal.returns-in-Err-clause-line
returns-in-Err-clause-line g c = λ pages l.
    let p = line_then_looked c.args.tree.file (g.S.Pages.state c.args.space.now) (g.S.Pages.state c.look_here.new.space) (g.S.Pages.state c.split_top.new.space) c.args.tree.top pages c.in_ok-found.ensures.looks l (c.in_ok-half.ensures.line pages (line_stays_looked c.args.tree.file (g.S.Pages.state c.args.space.now) (g.S.Pages.state c.look_here.new.space) c.args.tree.top pages c.in_ok-found.ensures.looks l)) in
    line_then c.args.tree.file (g.S.Pages.state c.args.space.now) (g.S.Pages.state c.split_top.new.space) (g.S.Pages.state c.look_here-2.new.space) c.args.tree.top pages p (line_looked c.args.tree.file (g.S.Pages.state c.split_top.new.space) (g.S.Pages.state c.look_here-2.new.space) c.args.tree.top p.now c.in-Err.ensures.looks p.line)

pub returns-in-Ok-clause-step : goal.returns-in-Ok-clause-step
returns-in-Ok-clause-step g c = λ es pages leaves h.
    let m = first_most c.args.tree.file (g.S.Pages.state c.args.space.now) (g.S.Pages.state c.look_here.new.space) c.args.tree.top (record { key = c.args.key.now; place = c.args.place; child = 0 }) es pages leaves c.in_ok-found.found.level c.in_ok-found.found.child c.in_ok-found.found.crowded c.requires.no_pins c.in_ok-found.ensures.looks h
    (c.in_ok-found.ensures.found es pages leaves (length h.levels) h (way_top c.args.tree.top h.levels (record { key = c.args.key.now; place = c.args.place; child = 0 })).0) ((c.may_stay.ensures.splits c.if-may_stay.false).1) in
    let o = c.in_ok-half.ensures.split es pages leaves _ m.0 m.1 in
    let z = (c.may_stay.ensures.splits c.if-may_stay.false).0 in
    let q = m.2 in
    step_after c.args.tree.file (g.S.Pages.state c.split_top.new.space) (g.S.Pages.state c.look_here-2.new.space) c.args.tree.top (record { key = c.args.key.now; place = c.args.place; child = 0 }) es _ leaves _ c.in-Ok.found.level c.in_ok-half.half c.in-Ok.found.child c.in-Ok.found.crowded c.in-Ok.ensures.looks o.0 o.1 (omega arith)
    (c.in-Ok.ensures.found es o.0.pages _ _ o.0.tree o.0.way)

pub returns-in-Ok-clause-line : goal.returns-in-Ok-clause-line
returns-in-Ok-clause-line g c = λ pages l.
    let p = line_then_looked c.args.tree.file (g.S.Pages.state c.args.space.now) (g.S.Pages.state c.look_here.new.space) (g.S.Pages.state c.split_top.new.space) c.args.tree.top pages c.in_ok-found.ensures.looks l (c.in_ok-half.ensures.line pages (line_stays_looked c.args.tree.file (g.S.Pages.state c.args.space.now) (g.S.Pages.state c.look_here.new.space) c.args.tree.top pages c.in_ok-found.ensures.looks l)) in
    line_then c.args.tree.file (g.S.Pages.state c.args.space.now) (g.S.Pages.state c.split_top.new.space) (g.S.Pages.state c.look_here-2.new.space) c.args.tree.top pages p (line_looked c.args.tree.file (g.S.Pages.state c.split_top.new.space) (g.S.Pages.state c.look_here-2.new.space) c.args.tree.top p.now c.in-Ok.ensures.looks p.line)

pub returns-in-Err-clause-cause : goal.returns-in-Err-clause-cause
returns-in-Err-clause-cause g c =
    let sd = (c.in_ok-half.ensures.line c.requires.line.0 (line_stays_looked c.args.tree.file (g.S.Pages.state c.args.space.now) (g.S.Pages.state c.look_here.new.space) c.args.tree.top c.requires.line.0 c.in_ok-found.ensures.looks c.requires.line.1)).steady in
    (HasCause_behind (g.S.Pages.state c.args.space.now) (g.S.Pages.state c.split_top.new.space) (g.S.Pages.state c.look_here-2.new.space) _ (sd.told ∙ c.in_ok-found.ensures.looks.steady.told)
    (HasCause_behind (g.S.Pages.state c.args.space.now) (g.S.Pages.state c.look_here.new.space) (g.S.Pages.state c.split_top.new.space) None c.in_ok-found.ensures.looks.steady.told c.in_ok-found.ensures.cause c.in_ok-half.ensures.cause) (c.in-Err.ensures.cause))
